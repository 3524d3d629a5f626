use Rattle.std.proofs.Common.{◌≡◌, None, [], ap, sym, ◌∙◌}
use Rattle.std.proofs.lemmas.Str.{chars-nil}
use Rattle.std.specs.Option.{option_copied, option_map_or}
use Rattle.jfr_layout.specs.Classes.{find_class}
use Rattle.jfr_show.proofs.reference.class_name.Goals as goal

pub returns-in-None : goal.returns-in-None
returns-in-None c =
    let none : None ≡ find_class c.args.chunk.now.classes c.args.class = ap option_copied (sym c.in-None.is) ∙ (c.find.ensures ∙ ap (λ z. find_class z c.args.class) c.classes.ensures) in
    chars-nil ∙ ap (λ o. option_map_or (λ c. c.name) o []) none
