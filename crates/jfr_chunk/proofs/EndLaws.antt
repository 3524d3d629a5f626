-- Where the fields of events end, as those of one more event are kept.
use Rattle.std.specs.Prelude.{◌≡◌, ◌≢◌, ℕ, ◌+◌, ◌<◌, ◌≤◌, false, List, [], ◌∷◌, ◌++◌, map, slice_get, None, Some, option_map, unwrap_or}
use Rattle.std.specs.List.{AllByRecursion}
use Rattle.std.specs.BTreeMap as tree
use Rattle.std.specs.BTreeMap.{BTreeMap}
use Rattle.std.specs.Ordering.{is_eq, nat_cmp}
use Rattle.std.proofs.Common.{ap, arith, refl, ◌∙◌}
use Rattle.std.proofs.lemmas.Bool.Decides.{nat_tests}
use Rattle.jfr_frame.specs.declared.framed.Framed.{Framed}
use Rattle.jfr_frame.specs.Records.{record_end}
use Rattle.jfr_chunk.specs.declared.event_index.EventIndexEntry.{EventIndexEntry}
use Rattle.jfr_chunk.specs.Indexed.{end_in, indexed_event, event_with}
use Rattle.jfr_chunk.proofs.AllLaws.{all_append}

-- The fields of the event with record n now end at `end`, and those of all others where they did before.
pub record EndIs (early later : BTreeMap ℕ ℕ) (n : ℕ) (r : Framed) (end : ℕ) : Type 0 where
  pub here : end_in later n r ≡ end
  pub others : (q : ℕ) → q ≢ n → tree.get nat_cmp later q ≡ tree.get nat_cmp early q

apart : (n q : ℕ) → q ≢ n → is_eq (nat_cmp n q) ≡ false
apart n q h = grind (arith, nat_tests)

-- Before the record's end, which is noted.
pub end_early : (early later : BTreeMap ℕ ℕ) (n end : ℕ) (r : Framed) → tree.Updates nat_cmp early later n (Some end) → EndIs early later n r end
end_early early later n end r u = record {
  here = ap (λ o. unwrap_or o (record_end r)) u.1;
  others = λ q h. u.2 q (apart n q h);
}

-- With the record, of which nothing is noted.
pub end_full : (early : BTreeMap ℕ ℕ) (n end : ℕ) (r : Framed) → tree.get nat_cmp early n ≡ None → record_end r ≡ end → EndIs early early n r end
end_full early n end r e h = record {
  here = ap (λ o. unwrap_or o (record_end r)) e ∙ h;
  others = λ q d. refl;
}

-- What is kept is of the records before a number.
pub record AreBefore (n : ℕ) (early : BTreeMap ℕ ℕ) (fields : List EventIndexEntry) : Type 0 where
  pub each : AllByRecursion (λ (f : EventIndexEntry). f.record < n) fields
  pub ahead : (q : ℕ) → n ≤ q → tree.get nat_cmp early q ≡ None

pub before_none : (early : BTreeMap ℕ ℕ) (fields : List EventIndexEntry) → tree.IsEmpty early → fields ≡ [] → AreBefore 0 early fields
before_none early fields e f = record {
  each = rw f tt;
  ahead = λ q h. rw e refl;
}

weaker : (n : ℕ) (fields : List EventIndexEntry) → AllByRecursion (λ (f : EventIndexEntry). f.record < n) fields → AllByRecursion (λ (f : EventIndexEntry). f.record < n + 1) fields
weaker n [] a = tt
weaker n (f ∷ fs) a = (let h : f.record < n = a.0 in omega arith, weaker n fs a.1)

pub before_other : (n : ℕ) (early : BTreeMap ℕ ℕ) (fields : List EventIndexEntry) → AreBefore n early fields → AreBefore (n + 1) early fields
before_other n early fields b = record {
  each = weaker n fields b.each;
  ahead = λ q h. b.ahead q (omega arith);
}

pub before_event : (n end : ℕ) (early later : BTreeMap ℕ ℕ) (fields : List EventIndexEntry) (f : EventIndexEntry) (r : Framed) → f.record ≡ n → EndIs early later n r end → AreBefore n early fields
    → AreBefore (n + 1) later (fields ++ f ∷ [])
before_event n end early later fields f r e i b = record {
  each = all_append (λ (f : EventIndexEntry). f.record < n + 1) fields (f ∷ []) (weaker n fields b.each) (omega arith, tt);
  ahead = λ q h. i.others q (λ d. (omega arith)) ∙ b.ahead q (omega arith);
}

module _ (rs : List Framed) (early later : BTreeMap ℕ ℕ) (n end : ℕ) (r : Framed) (i : EndIs early later n r end) where
  -- The events of the records before are the same.
  pub same_event : (f : EventIndexEntry) → f.record < n → indexed_event rs later f ≡ indexed_event rs early f
  same_event f h = ap (λ o. option_map (λ (x : Framed). event_with (unwrap_or o (record_end x)) x) (slice_get rs f.record)) (i.others f.record (λ d. (omega arith)))

  pub same_events : (fields : List EventIndexEntry) → AllByRecursion (λ (f : EventIndexEntry). f.record < n) fields → map (indexed_event rs later) fields ≡ map (indexed_event rs early) fields
  same_events [] a = refl
  same_events (f ∷ fs) a = rw (same_event f a.0, same_events fs a.1) refl

  -- And the event of the record is this one.
  pub this_event : (f : EventIndexEntry) → f.record ≡ n → slice_get rs n ≡ Some r → indexed_event rs later f ≡ Some (event_with end r)
  this_event f e g =
      let h : slice_get rs f.record ≡ Some r = ap (slice_get rs) e ∙ g in
      let k : end_in later f.record r ≡ end = ap (λ m. end_in later m r) e ∙ i.here in
      ap (option_map (λ (x : Framed). event_with (end_in later f.record x) x)) h ∙ ap (λ m. Some (event_with m r)) k
