use Rattle.std.proofs.Common.{◌∙◌, ap, sym, subst, arith, Some, option_map, string_bytes, ◌≤◌, List, ℕ}
use Rattle.jfr_outside.specs.Held.{files_of, IsHeld}
use Rattle.jfr_outside.specs.SteadyPlace.{world_of}
use Rattle.jfr_outside.proofs.HeldLaws.{append_kept}
use Rattle.jfr_outside.proofs.steady_place.SteadyPlace.refuse_append.Goals as goal

pub returns-in-Some-clause-contents : goal.returns-in-Some-clause-contents
returns-in-Some-clause-contents c =
    let P : List ℕ → Type 0 = λ name. IsHeld (files_of c.args.self.now.files) name in
    let few : c.min.result ≤ c.args.keep = omega (arith, c.min.ensures) in
    let held : P c.as_str.result.now = subst P (sym c.as_str.ensures.value) (c.args.self.now.output_is_there c.in-Some.name c.in-Some.is) in
    append_kept c.grow_file.result (world_of c.args.self.now) (files_of c.grow_file.new.files) c.as_str.result.now c.args.bytes.now c.min.result c.args.keep
    (ap (option_map string_bytes) c.in-Some.is ∙ ap Some (sym c.as_str.ensures.value)) few held c.grow_file.ensures.ok c.grow_file.ensures.unchanged
