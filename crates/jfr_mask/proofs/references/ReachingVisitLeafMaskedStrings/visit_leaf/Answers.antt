use Rattle.std.proofs.Common.{◌≡◌, [], ◌∷◌, ◌∙◌, ap, if◌then◌else◌, option_to_list, refl, subst, sym}
use Rattle.std.specs.Prelude.{None, Some}
use Rattle.std.specs.Option.{option_map}
use Rattle.jfr_pool.specs.Entries.{number_in_force}
use Rattle.jfr_value.specs.Leaves.{leaf_of, leaf_target}
use Rattle.jfr_value.specs.Visits.{TakesAll}
use Rattle.jfr_worklist.specs.Marks.{those}
use Rattle.jfr_worklist.specs.Putting.{Puts}
use Rattle.jfr_mask.specs.declared.references.Reaching.{Reaching}
use Rattle.jfr_mask.specs.EventStrings.{long_at}
use Rattle.jfr_mask.specs.Maskers.{held_by}
use Rattle.jfr_mask.specs.Reaching.{target_left}
use Rattle.jfr_mask.specs.Visitors.{Lists}
use Rattle.jfr_mask.proofs.VisitorLaws.{lists_same}
use Rattle.jfr_mask.proofs.references.ReachingVisitLeafMaskedStrings.visit_leaf.Goals as goal

pub returns-in-Some-clause-takes : goal.returns-in-Some-clause-takes
returns-in-Some-clause-takes c =
    let strings = c.args.strings.now in
    let es = strings.chunk.now.entries in
    let l = leaf_of c.args.leaf in
    let list = c.args.self.now.list in
    let other = sym c.has.ensures ∙ c.if-has.false in
    let target : target_left (held_by strings) l ≡ Some (l.class, c.in-Some.key) =
    ap (λ b. if b then None else leaf_target l) other ∙ ap (option_map (λ key. (l.class, key))) (sym c.key.ensures ∙ c.in-Some.is) in
    let puts = subst (λ xs. Puts (those (number_in_force xs) ((l.class, c.in-Some.key) ∷ [])) list c.visit.new.self) c.pools.ensures c.visit.ensures.takes in
    let new : Reaching = record { list = c.visit.new.self; events = c.args.self.now.events; failed = c.args.self.now.failed } in
    record {
      marks = subst (λ o. TakesAll (λ t a b. Puts (those (number_in_force es) (t ∷ [])) a b) (option_to_list o) list c.visit.new.self) (sym target) (c.visit.new.self, puts, refl);
      lists = subst (λ b. Lists (option_to_list (if b then long_at l else None)) c.args.self.now new) (sym other) (lists_same c.args.self.now new refl refl refl);
    }
