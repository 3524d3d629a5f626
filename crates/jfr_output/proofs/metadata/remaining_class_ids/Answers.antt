use Rattle.std.proofs.Common.{◌∙◌, ◌||◌, ℕ, List, ap, sym}
use Rattle.jfr_meta.specs.Stays.{is_in}
use Rattle.jfr_filter.specs.Filters.{event_matches, describes}
use Rattle.jfr_chunk.specs.Metas.{is_described, used_by}
use Rattle.jfr_chunk.specs.Parts.{events_of}
use Rattle.jfr_chunk.specs.Reach.{kept_by}
use Rattle.jfr_output.proofs.NewLaws.{stays_ok}
use Rattle.jfr_output.proofs.UsedLaws.{all_kept, all_used, no_patterns}
use Rattle.jfr_output.proofs.metadata.remaining_class_ids.Goals as goal

pub returns-then-are_all : goal.returns-then-are_all
returns-then-are_all c =
    let all = all_kept c.args.kept.now (events_of c.args.chunk.now) c.requires (sym c.are_all.ensures ∙ c.if-are_all.true) in
    let none = λ (name : List ℕ). no_patterns (event_matches name) c.args.filter.now.describe c.has.result c.has.ensures c.if-not-has.true in
    record {
      exact = stays_ok (describes c.args.filter.now) c.args.chunk.now (kept_by c.args.chunk.now c.args.kept.now) _ _
          (is_in c.event_classes.result.now) c.staying.result c.metadata.ensures.body c.metadata.ensures.classes (λ id.
          c.event_classes.ensures id ∙ (all_used (describes c.args.filter.now) c.args.chunk.now.classes id (used_by (events_of c.args.chunk.now) id) none
          ∙ ap (λ es. used_by es id || is_described (describes c.args.filter.now) c.args.chunk.now.classes id) (sym all))) c.staying.ensures.exact;
    }

pub returns : goal.returns
returns c = record {
  exact = stays_ok (describes c.args.filter.now) c.args.chunk.now (kept_by c.args.chunk.now c.args.kept.now) _ _
      (is_in c.ids.result.now) c.staying-2.result c.metadata-2.ensures.body c.metadata-2.ensures.classes
      (λ id. ap (λ ids. is_in ids id) c.ids.ensures ∙ c.in_ok-used.ensures id) c.staying-2.ensures.exact;
}
