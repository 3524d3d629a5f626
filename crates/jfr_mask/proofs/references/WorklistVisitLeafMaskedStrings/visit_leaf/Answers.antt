use Rattle.std.proofs.Common.{◌≡◌, [], ◌∷◌, ◌∙◌, ap, if◌then◌else◌, option_to_list, refl, subst, sym}
use Rattle.std.specs.Prelude.{None, Some}
use Rattle.std.specs.Option.{option_map}
use Rattle.jfr_pool.specs.Entries.{number_in_force}
use Rattle.jfr_value.specs.Leaves.{leaf_of, leaf_target}
use Rattle.jfr_value.specs.Visits.{TakesAll}
use Rattle.jfr_worklist.specs.Marks.{those}
use Rattle.jfr_worklist.specs.Putting.{Puts}
use Rattle.jfr_mask.specs.Maskers.{held_by}
use Rattle.jfr_mask.specs.Reaching.{target_left}
use Rattle.jfr_mask.proofs.references.WorklistVisitLeafMaskedStrings.visit_leaf.Goals as goal

pub returns-in-Some-clause-takes : goal.returns-in-Some-clause-takes
returns-in-Some-clause-takes c =
    let strings = c.args.strings.now in
    let es = strings.chunk.now.entries in
    let l = leaf_of c.args.leaf in
    let target : target_left (held_by strings) l ≡ Some (l.class, c.in-Some.key) =
    ap (λ b. if b then None else leaf_target l) (sym c.has.ensures ∙ c.if-has.false) ∙ ap (option_map (λ key. (l.class, key))) (sym c.key.ensures ∙ c.in-Some.is) in
    let puts = subst (λ xs. Puts (those (number_in_force xs) ((l.class, c.in-Some.key) ∷ [])) c.args.self.now c.visit.new.self) c.pools.ensures c.visit.ensures.takes in
    subst (λ o. TakesAll (λ t a b. Puts (those (number_in_force es) (t ∷ [])) a b) (option_to_list o) c.args.self.now c.visit.new.self) (sym target) (c.visit.new.self, puts, refl)
