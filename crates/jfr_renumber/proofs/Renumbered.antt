-- The output of a chunk with new keys is a chunk that means the same, except for the keys.
use Rattle.std.specs.Prelude.{◌≡◌, ℕ, zero, suc, ◌≤◌, Bool, true, false, not, List, [], ◌∷◌, length, filter, cond}
use Rattle.std.proofs.Common.{ap, arith, refl, sym, ◌∙◌, subst}
use Rattle.std.proofs.lemmas.List.Elements.{All-contains_itself}
use Rattle.jfr_header.specs.Fronts as fronts
use Rattle.jfr_layout.specs.Classes.{Agree}
use Rattle.jfr_value.proofs.NodeLaws.{target_is}
use Rattle.jfr_pool.specs.declared.entry.EntryAt.{EntryAt}
use Rattle.jfr_worklist.specs.Marks.{IsMarked}
use Rattle.jfr_worklist.specs.Members.{In}
use Rattle.jfr_worklist.proofs.Members.{contains_in}
use Rattle.jfr_chunk.specs.Parts.{Parts, EventAt, AreParts, events_of}
use Rattle.jfr_chunk.specs.Laws.{AreEvents}
use Rattle.jfr_chunk.specs.Reach.{Reached, marked, reached_marks, kept_by, remain}
use Rattle.jfr_chunk.specs.Metas.{Names, new_metadata, remaining_classes}
use Rattle.jfr_chunk.specs.Scrub.{output_records, scrub_of, scrub_with}
use Rattle.jfr_chunk.proofs.HasNodesLaws.{has_nodes}
use Rattle.jfr_chunk.proofs.PathLaws.{own_class}
use Rattle.jfr_laws.proofs.Anews.{anew}
use Rattle.jfr_laws.proofs.Header.{whole_small}
use Rattle.jfr_laws.proofs.Passing.{clash}
use Rattle.jfr_laws.proofs.Same.{chosen_events, event_of_chunk, marks_reached}
use Rattle.jfr_laws.proofs.Suits.{event_agreed, path_agreed}
use Rattle.jfr_rewrite.specs.Rewrite.{rewritten}
use Rattle.jfr_rewrite.specs.Rewritten.{IsRewritten}
use Rattle.jfr_rewrite.proofs.Accepted as accepted
use Rattle.jfr_rewrite.proofs.Remaining.{describes_remaining, suits_remaining}
use Rattle.jfr_rewrite.proofs.Rewriting.{Rewriting}
use Rattle.jfr_renumber.specs.Laws.{AgreeOnUsed}
use Rattle.jfr_renumber.specs.Renumber.{new_key, together, pair_of, firsts, firsts_of, new_bytes, assembled_by, renumber_of, renumber_with, with_keys}
use Rattle.jfr_renumber.specs.Meaning.{AreNewKeys, AreRekeyedEntries, IsRenumbered}
use Rattle.jfr_renumber.proofs.Fewer.{Under}
use Rattle.jfr_renumber.proofs.LawLaws.{new_keys_are, renamed_the_same, same_missing}
use Rattle.jfr_renumber.proofs.NoLonger.{no_longer, scrub_short}
use Rattle.jfr_renumber.proofs.RekeyedLaws.{rekeying_keeps}
use Rattle.jfr_renumber.proofs.RewrittenLaws.{is_rewritten, rekeyed_entries, rekeyed_records}
use Rattle.jfr_renumber.proofs.Room.{carries_all}

-- What marks leave of a list, less those that a test excludes, is what fewer marks leave; so is the first of each group.
filter_marked : {X : Type 0} (test : X → Bool) (fs ms : List Bool) (xs : List X) → Under fs ms → (gs : List Bool) × (filter test (marked fs xs) ≡ marked gs xs) × Under gs ms
filter_marked test [] ms xs u = ([], refl, tt)
filter_marked test (f ∷ fs) ms [] u = ([], refl, tt)
filter_marked test (false ∷ fs) [] (x ∷ xs) u = let r = filter_marked test fs [] xs u.1 in (let v : Under (false ∷ r.0) [] = (u.0, r.2) in (false ∷ r.0, r.1, v))
filter_marked test (true ∷ fs) [] (x ∷ xs) u = let e = u.0 in cc
filter_marked test (false ∷ fs) (m ∷ ms) (x ∷ xs) u = let r = filter_marked test fs ms xs u.1 in (let v : Under (false ∷ r.0) (m ∷ ms) = (u.0, r.2) in (false ∷ r.0, r.1, v))
filter_marked {X = X} test (true ∷ fs) (m ∷ ms) (x ∷ xs) u = by_test (test x) (filter_marked test fs ms xs u.1)
  where
    by_test : (t : Bool) → (gs : List Bool) × (filter test (marked fs xs) ≡ marked gs xs) × Under gs ms
        → (gs : List Bool) × (cond t (x ∷ filter test (marked fs xs)) (filter test (marked fs xs)) ≡ marked gs (x ∷ xs)) × Under gs (m ∷ ms)
    by_test true r = let v : Under (true ∷ r.0) (m ∷ ms) = (u.0, r.2) in (true ∷ r.0, ap (λ z. x ∷ z) r.1, v)
    by_test false r = let v : Under (false ∷ r.0) (m ∷ ms) = ((λ e. cc), r.2) in (false ∷ r.0, r.1, v)

firsts_under : (p : Parts) (ms : List Bool) (es : List EntryAt) → (fm : List Bool) × (firsts_of p (marked ms es) ≡ marked fm es) × Under fm ms
firsts_under p [] es = ([], refl, tt)
firsts_under p (m ∷ ms) [] = ([], refl, tt)
firsts_under p (false ∷ ms) (e ∷ es) = let r = firsts_under p ms es in (let v : Under (false ∷ r.0) (false ∷ ms) = ((λ z. z), r.2) in (false ∷ r.0, r.1, v))
firsts_under p (true ∷ ms) (e ∷ es) =
    let test : EntryAt → Bool = λ f. not (together p (pair_of e) (pair_of f)) in
    let r = firsts_under p ms es in
    let g = filter_marked test r.0 ms es r.2 in
    let v : Under (true ∷ g.0) (true ∷ ms) = ((λ z. refl), g.2) in
    (true ∷ g.0, ap (λ z. e ∷ z) (ap (filter test) r.1 ∙ g.1), v)

pub firsts_marked : (p : Parts) (kept : List EventAt) → (fm : List Bool) × (firsts p kept ≡ marked fm p.entries) × Under fm (reached_marks p kept)
unfolding firsts remain
firsts_marked p kept = firsts_under p (reached_marks p kept) p.entries

-- What is marked of the first is marked of the second.
under_marked : (fs ms : List Bool) → Under fs ms → (i : ℕ) → IsMarked fs i → IsMarked ms i
under_marked [] ms u i h = let z : false ≡ true = h in cc
under_marked (f ∷ fs) [] u zero h = let e : f ≡ false = u.0 in let g : f ≡ true = h in absurd (clash f g e)
under_marked (f ∷ fs) [] u (suc i) h = let g : false ≡ true = under_marked fs [] u.1 i h in cc
under_marked (f ∷ fs) (m ∷ ms) u zero h = u.0 h
under_marked (f ∷ fs) (m ∷ ms) u (suc i) h = under_marked fs ms u.1 i h

module _ (names : Names) (p : Parts) (a : AreParts p) (flags : List Bool) (whole : fronts.Whole p.bytes) where
  abbrev these : List EventAt
  these = kept_by p flags

  abbrev are : AreEvents p these
  are = chosen_events p flags

  abbrev new : ℕ × ℕ → ℕ
  new = new_key p these

  keys : AreNewKeys p these new
  keys = new_keys_are p a these are

  abbrev fm : List Bool
  fm = (firsts_marked p these).0

  abbrev ours : List EntryAt
  ours = marked fm p.entries

  -- The entries of the output are reached, so the remaining classes suit what is kept.
  marks_are : (i : ℕ) → IsMarked fm i → Reached p these i
  marks_are i h = marks_reached p a flags i (under_marked fm (reached_marks p these) (firsts_marked p these).2 i h)

  abbrev given : Rewriting
  given = record {
    rewrite = with_keys new (new_metadata names p these);
    parts = p;
    accepted = a;
    keeps = rekeying_keeps new p.classes;
    flags = flags;
    marks = fm;
    classes = remaining_classes names p these;
    describes = describes_remaining names p a these are;
    suits = suits_remaining names p a these are fm marks_are;
  }

  abbrev out : List ℕ
  out = rewritten (with_keys new (new_metadata names p these)) p these ours

  assembled_is : assembled_by p (new_bytes new p these ours) (output_records (new_metadata names p these) p these) ≡ out
  assembled_is = is_rewritten new (new_metadata names p these) p these ours

  out_is : out ≡ renumber_of names p these
  unfolding renumber_with
  out_is = sym assembled_is ∙ ap (λ z. assembled_by p (new_bytes new p these z) (output_records (new_metadata names p these) p these)) (sym (firsts_marked p these).1)

  no_longer_than_scrubbed : length out ≤ length (scrub_of names p these)
  unfolding scrub_with remain
  no_longer_than_scrubbed = subst (λ z. length z ≤ length (scrub_of names p these)) assembled_is (no_longer names p a flags new keys.most fm (reached_marks p these) (firsts_marked p these).2 whole)

  shorter : length out ≤ length p.bytes
  unfolding scrub_with remain
  shorter = omega (arith, no_longer_than_scrubbed, scrub_short names p a flags new keys.most fm (reached_marks p these) (firsts_marked p these).2)

  done : IsRewritten (with_keys new (new_metadata names p these)) p these ours (remaining_classes names p these)
  done = accepted.is_rewritten given whole (omega (arith, shorter, whole_small p.bytes whole)) (carries_all p a flags new keys.most fm names)

  abbrev q : Parts
  q = done.parts

  -- The classes agree on all that is used.
  agree_used : AgreeOnUsed p q these
  agree_used t u =
      let n = anew names p a these are in
      let i : In these u.event = contains_in these u.event u.is_kept in
      let g = path_agreed p n.classes (has_nodes p a) u.path u.event.node u.node (event_agreed p n.classes (has_nodes p a) these n.suits (event_of_chunk p a these are) u.event i) u.leads_there in
      subst (λ m. Agree p.classes m t.0) (n.remaining ∙ sym done.classes)
      (subst (Agree p.classes n.classes) (own_class g.value t (sym (target_is p.classes p.bytes u.node g.value (has_nodes p a).sound g.node) ∙ u.refers)) g.agree)

  entries_are : AreRekeyedEntries new p q (firsts p these) q.entries
  entries_are = subst (λ z. AreRekeyedEntries new p q z q.entries) (sym (firsts_marked p these).1) (rekeyed_entries new (new_metadata names p these) p q ours q.entries done.entries_are)

  pub is_renumbered : IsRenumbered names p these
  is_renumbered = record {
    keys = keys;
    parts = q;
    classes = done.classes;
    bytes = done.bytes ∙ out_is;
    whole = subst fronts.Whole out_is done.whole;
    valid = done.valid;
    size = subst (λ z. length z ≤ length p.bytes) out_is shorter;
    no_longer = subst (λ z. length z ≤ length (scrub_of names p these)) out_is no_longer_than_scrubbed;
    entries = entries_are;
    missing = same_missing p a these are q done.valid new keys agree_used entries_are;
    meaning =
        renamed_the_same p a these are q done.valid new keys agree_used entries_are (events_of q) (All-contains_itself (events_of q))
        (rekeyed_records new (new_metadata names p these) p q these (events_of q) done.events_are);
  }
