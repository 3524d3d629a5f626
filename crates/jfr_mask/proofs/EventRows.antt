-- The masked strings of the kept events, listed one event after another.
use Rattle.std.specs.Prelude.{◌≡◌, ℕ, zero, suc, ◌+◌, ◌-◌, ◌<◌, ◌≤◌, Bool, false, List, [], ◌∷◌, ◌++◌, drop, get_or, length, slice_get, slice_range, take, unwrap_or, Option, None, Some, option_to_list, if◌then◌else◌}
use Rattle.std.specs.List.{flat_map}
use Rattle.std.proofs.Common.{◌⊎◌, inl, inr, add-one, ap, append-nil, arith, refl, sym, ◌∙◌}
use Rattle.std.proofs.lemmas.Bool.{cases_lt}
use Rattle.std.proofs.lemmas.List.{drop-append-le, get_or_push, length-append, length-drop, take-append-le, take_all}
use Rattle.std.proofs.Math.Seq.{drop-append_seam}
use Rattle.std.proofs.lemmas.Option.{slice_get_past}
use Rattle.std.proofs.Math.ListN.{get_or-append}
use Rattle.jfr_value.specs.declared.leaf.Holder.{Holder}
use Rattle.jfr_chunk.specs.Parts.{EventAt, Parts, events_of}
use Rattle.jfr_mask.specs.declared.event_strings.StringAt.{StringAt}
use Rattle.jfr_mask.specs.EventStrings.{AreListed, AreOfEvent, start_of, strings_in}
use Rattle.jfr_mask.specs.Reaching.{marked_get}

-- Ranges of a list, and of one that goes on.
range_front : {X : Type 0} (xs ys : List X) (p q : ℕ) → p ≤ q → q ≤ length xs → slice_range (xs ++ ys) p q ≡ slice_range xs p q
range_front xs ys p q o w = ap (take (q - p)) (drop-append-le p xs ys (omega arith)) ∙ take-append-le (q - p) (drop p xs) ys (simp length-drop (omega arith))

range_last : {X : Type 0} (xs ys : List X) → slice_range (xs ++ ys) (length xs) (length (xs ++ ys)) ≡ ys
range_last xs ys = ap (take (length (xs ++ ys) - length xs)) (drop-append_seam xs ys) ∙ take_all (length (xs ++ ys) - length xs) ys (omega (arith, length-append xs ys))

module _ (masked : Option Holder → Bool) (p : Parts) (flags : List Bool) where
  -- The strings of the first events are listed.
  pub record AreRows (count : ℕ) (strings : List StringAt) (ends : List ℕ) : Type 0 where
    pub size : length ends ≡ count
    pub last : start_of ends count ≡ length strings
    pub each : (number : ℕ) (e : EventAt) → number < count → marked_get flags (events_of p) number ≡ Some e → AreOfEvent masked p e strings (start_of ends number) (get_or ends number 0)

  pub rows_none : (strings : List StringAt) (ends : List ℕ) → strings ≡ [] → ends ≡ [] → AreRows 0 strings ends
  rows_none strings ends s e = record {
    size = ap length e;
    last = sym (ap length s);
    each = λ number event less kept. absurd (omega (arith, less));
  }

  -- The strings of an event.
  abbrev pub row : Option EventAt → List StringAt
  row o = flat_map (λ e. strings_in masked p e.node) (option_to_list o)

  pub rows_next : (count : ℕ) (strings after : List StringAt) (ends ends_after : List ℕ) → AreRows count strings ends → after ≡ strings ++ row (marked_get flags (events_of p) count)
      → ends_after ≡ ends ++ length after ∷ [] → AreRows (count + 1) after ends_after
  rows_next count strings after ends ends_after r s e =
      let new : List StringAt = row (marked_get flags (events_of p) count) in
      let long : length after ≡ length strings + length new = ap length s ∙ length-append strings new in
      let size = r.size in
      record {
        size = ap length e ∙ (length-append ends (length after ∷ []) ∙ ap (λ z. z + 1) r.size);
        last = ap (λ z. start_of z (count + 1)) e ∙ (ap (start_of (ends ++ length after ∷ [])) (add-one count) ∙ end_last count size);
        each = λ number event less kept. by_less number event kept (cases_lt number count) less;
      }
    where
      end_last : (count : ℕ) → length ends ≡ count → get_or (ends ++ length after ∷ []) count 0 ≡ length after
      end_last count size = get_or_push ends (length after) 0 count size

      -- The starts and ends of the events before stay.
      end_stays : (number : ℕ) → number < length ends → get_or ends_after number 0 ≡ get_or ends number 0
      end_stays number less = ap (λ z. get_or z number 0) e ∙ get_or-append ends (length after ∷ []) 0 number less

      start_stays : (number : ℕ) → number ≤ length ends → start_of ends_after number ≡ start_of ends number
      start_stays zero less = refl
      start_stays (suc before) less = end_stays before (omega (arith, less))

      by_less : (number : ℕ) (event : EventAt) → marked_get flags (events_of p) number ≡ Some event → (number < count) ⊎ (count ≤ number) → number < count + 1
          → AreOfEvent masked p event after (start_of ends_after number) (get_or ends_after number 0)
      by_less number event kept (inl less) below =
          let old = r.each number event less kept in
          let size = r.size in
          let start = start_stays number (omega (arith, less, size)) in
          let end = end_stays number (omega (arith, less, size)) in
          let order = old.order in
          let within = old.within in
          let long : length after ≡ length strings + length (row (marked_get flags (events_of p) count)) = ap length s ∙ length-append strings (row (marked_get flags (events_of p) count)) in
          record {
            order = omega (arith, start, end, order);
            within = omega (arith, end, within, long);
            are = ap (λ z. slice_range z (start_of ends_after number) (get_or ends_after number 0)) s
                ∙ (ap (λ z. slice_range (strings ++ row (marked_get flags (events_of p) count)) z (get_or ends_after number 0)) start
                ∙ (ap (λ z. slice_range (strings ++ row (marked_get flags (events_of p) count)) (start_of ends number) z) end
                ∙ (range_front strings (row (marked_get flags (events_of p) count)) (start_of ends number) (get_or ends number 0) order within ∙ old.are)));
          }
      by_less number event kept (inr most) below =
          let same : count ≡ number = omega (arith, most, below) in
          let size = r.size in
          let last = r.last in
          let new : List StringAt = row (marked_get flags (events_of p) count) in
          let long : length after ≡ length strings + length new = ap length s ∙ length-append strings new in
          let start : start_of ends_after number ≡ length strings = start_stays number (omega (arith, same, size)) ∙ (ap (start_of ends) (sym same) ∙ last) in
          let end : get_or ends_after number 0 ≡ length after = ap (λ z. get_or z number 0) e ∙ end_last number (size ∙ same) in
          let here : row (marked_get flags (events_of p) count) ≡ strings_in masked p event.node =
          ap (λ n. row (marked_get flags (events_of p) n)) same ∙ (ap row kept ∙ append-nil (strings_in masked p event.node)) in
          record {
            order = omega (arith, start, end, long);
            within = omega (arith, end);
            are = ap (λ z. slice_range after z (get_or ends_after number 0)) start
                ∙ (ap (λ z. slice_range after (length strings) z) end
                ∙ (ap (λ z. slice_range z (length strings) (length z)) s ∙ (range_last strings new ∙ here)));
          }

  -- All are listed.
  pub rows_all : (count : ℕ) (strings : List StringAt) (ends : List ℕ) → length flags ≤ count → AreRows count strings ends → AreListed masked p flags strings ends
  rows_all count strings ends size r = λ number e kept. by_less number e kept (cases_lt number count)
    where
      unmarked : (o : Option Bool) (number : ℕ) (e : EventAt) → o ≡ None → (if unwrap_or o false then slice_get (events_of p) number else None) ≡ Some e → ⊥
      unmarked None number e q kept = cc
      unmarked (Some b) number e q kept = cc

      by_less : (number : ℕ) (e : EventAt) → marked_get flags (events_of p) number ≡ Some e → (number < count) ⊎ (count ≤ number) → AreOfEvent masked p e strings (start_of ends number) (get_or ends number 0)
      by_less number e kept (inl less) = r.each number e less kept
      by_less number e kept (inr most) = absurd (unmarked (slice_get flags number) number e (slice_get_past flags number (omega (arith, size, most))) kept)
