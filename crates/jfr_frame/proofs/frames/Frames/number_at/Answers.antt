use Rattle.std.proofs.Common.{rules, subst, ap, ◌∙◌}
use Rattle.std.proofs.lemmas.List.Sorted.{answers_always}
use Rattle.std.specs.List.Sorted.{IsBinarySearchResult}
use Rattle.std.specs.Ordering.{nat_cmp}
use Rattle.jfr_frame.specs.Starts.{kept_places}
use Rattle.jfr_frame.proofs.FindLaws.{by_places, records_rise}
use Rattle.jfr_frame.proofs.StartLaws.{kept_places_of}
use Rattle.jfr_frame.proofs.frames.Frames.number_at.Goals as goal

pub returns-clause-position : goal.returns-clause-position
returns-clause-position c =
    let searched = c.binary_search_by_key.ensures.position (λ s. s.at) (answers_always _ _ _ (λ f a r g called. search rules)) in
    let places = ap kept_places c.deref.ensures.value ∙ kept_places_of _ _ _ c.self.invariant c.self.view_is in
    subst (λ ps. IsBinarySearchResult (λ place. nat_cmp place c.args.at) ps c.binary_search_by_key.result) places (by_places c.deref.result.now c.args.at c.binary_search_by_key.result searched)

pub returns-clause-order : goal.returns-clause-order
returns-clause-order c = records_rise _ _ _ c.self.invariant c.self.view_is
