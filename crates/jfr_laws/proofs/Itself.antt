-- A chunk agrees with itself on all that remains.
use Rattle.std.specs.Prelude.{◌≡◌, ℕ, List, [], ◌∷◌, Option, Some}
use Rattle.std.proofs.Common.{refl, inl, inr}
use Rattle.jfr_pool.specs.declared.entry.EntryAt.{EntryAt}
use Rattle.jfr_pool.specs.Entries.{number_in_force}
use Rattle.jfr_worklist.specs.Marks.{IsMarked}
use Rattle.jfr_worklist.specs.Members.{In}
use Rattle.jfr_chunk.specs.Parts.{Parts, EventAt, AreParts}
use Rattle.jfr_chunk.specs.Reach.{Used, reached_marks, remain}
use Rattle.jfr_chunk.specs.Laws.{AreEvents, SameRecords}
use Rattle.jfr_chunk.proofs.HasNodesLaws.{has_nodes}
use Rattle.jfr_laws.specs.SameKept.{SamePools, SameEntries, SameKept}
use Rattle.jfr_laws.proofs.Agrees.{agree_on_event}
use Rattle.jfr_laws.proofs.Anews.{is_event}
use Rattle.jfr_laws.proofs.KeptPairs.{marks_size}
use Rattle.jfr_laws.proofs.Same.{are_reached}

pools_itself : (e : EntryAt) (es : List EntryAt) → SamePools e e es es
pools_itself e [] = tt
pools_itself e (d ∷ es) = ((λ h. refl), pools_itself e es)

entries_itself : (p : Parts) (es : List EntryAt) → SameEntries p p es es
entries_itself p [] = tt
entries_itself p (e ∷ es) = (record { class = refl; key = refl; checkpoint = refl; value = refl }, refl, pools_itself e es, entries_itself p es)

module _ (slim : Option (List ℕ)) (p : Parts) (kept : List EventAt) (a : AreParts p) (are : AreEvents p kept) where
  records_itself : (es : List EventAt) → ((e : EventAt) → In es e → In kept e) → SameRecords p p es es
  records_itself [] i = tt
  records_itself (e ∷ es) i = (
    record { class = refl; bytes = refl; agree = agree_on_event p.classes e.record_of.type_id (has_nodes p a).sound (is_event p a kept are e (i e (inl refl))) },
    records_itself es
        (λ f j. i f (inr j)),
  )

  used_marked : (t : ℕ × ℕ) (n : ℕ) → Used p kept t → number_in_force p.entries t ≡ Some n → IsMarked (reached_marks p kept) n
  used_marked t n u e = (are_reached p kept a are n).0
      (record { event = u.event; is_kept = u.is_kept; path = u.path; node = u.node; leads_there = u.leads_there; key = t; refers = u.refers; in_force = e })

  pub same_kept_itself : SameKept slim slim p p kept kept
  unfolding remain
  same_kept_itself = record {
    events = records_itself kept (λ e i. i);
    header = refl;
    order = refl;
    flags = reached_marks p kept;
    each = marks_size p kept;
    constants = entries_itself p (remain p kept);
    no_other = used_marked;
  }
