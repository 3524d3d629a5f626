use Rattle.std.proofs.Common.{ap, refl, subst, sym, ◌∙◌}
use Rattle.std.specs.Prelude.{IsSome}
use Rattle.std.specs.Option.{option_copied}
use Rattle.jfr_layout.specs.Classes.{find_class}
use Rattle.jfr_layout.specs.declared.shape.Shape.{Shape}
use Rattle.jfr_build.proofs.UnknownLaws.{no_bytes}
use Rattle.jfr_build.proofs.line_values.line_value.Goals as goal

pub returns-in_default-find : goal.returns-in_default-find
returns-in_default-find c = record { ok = rw c.in-Constant.is (no_bytes c.args.classes.now c.in-Constant.class c.in-Constant.words (sym c.find.ensures ∙ ap option_copied c.in_default-find.is)) }

pub spelled_value-requires : goal.spelled_value-requires
spelled_value-requires c =
    let e = ap (λ (s : Shape). find_class c.args.classes.now s.class) c.inline.ensures ∙ (sym c.find.ensures ∙ ap option_copied c.in-Some.is) in
    record { layout = c.layout_of-layout.ensures.known (subst IsSome (sym e) refl) }
