-- The kept events of a chunk, one after another, and how many there are.
use Rattle.std.specs.Prelude.{◌≡◌, ℕ, zero, suc, ◌+◌, ◌<◌, ◌≤◌, Bool, true, false, cond, List, [], ◌∷◌, ◌++◌, drop, length, Option, None, Some, option_and_then, option_to_list, slice_get, unwrap_or}
use Rattle.std.specs.List.{cons_option, filter_map}
use Rattle.std.proofs.Common.{ap, append-nil, arith, refl, sym, ◌∙◌}
use Rattle.std.proofs.lemmas.List.{append_assoc, drop_all}
use Rattle.jfr_header.specs.Fronts.{Whole}
use Rattle.jfr_chunk.specs.Parts.{AreParts, EventAt, Parts, events_of}
use Rattle.jfr_chunk.specs.Reach.{kept_by, marked}
use Rattle.jfr_chunk.proofs.CountLaws as count_laws
use Rattle.jfr_chunk.proofs.CountLaws.{filter_map_most, whole_small}
use Rattle.jfr_stacks.specs.Adding.{kept_at, most_events}

-- The first of the members that are left, if it is marked.
marked_next : {X : Type 0} (flags : List Bool) (xs : List X) (i : ℕ) → i < length xs → length flags ≡ length xs
    → marked (drop i flags) (drop i xs) ≡ cons_option (cond (unwrap_or (slice_get flags i) false) (slice_get xs i) None) (marked (drop (i + 1) flags) (drop (i + 1) xs))
marked_next [] [] i h l = absurd (omega arith)
marked_next [] (x ∷ xs) i h l = absurd (omega arith)
marked_next (b ∷ flags) [] i h l = absurd (omega arith)
marked_next (true ∷ flags) (x ∷ xs) zero h l = refl
marked_next (false ∷ flags) (x ∷ xs) zero h l = refl
marked_next (b ∷ flags) (x ∷ xs) (suc i) h l = let z : suc i + 1 ≡ suc (i + 1) = omega arith in marked_next flags xs i (omega arith) (omega arith)
    ∙ ap (λ n. cons_option (cond (unwrap_or (slice_get flags i) false) (slice_get xs i) None) (marked (drop n (b ∷ flags)) (drop n (x ∷ xs)))) (sym z)

-- What is made of the events that are kept.
abbrev pub left : {Y : Type 0} → (EventAt → Option Y) → Parts → List Bool → ℕ → List Y
left h p flags i = filter_map h (marked (drop i flags) (drop i (events_of p)))

module _ {Y : Type 0} (h : EventAt → Option Y) (p : Parts) (flags : List Bool) where
  -- What is made of the next event, if it is kept, comes before the rest.
  pub left_next : (i : ℕ) → i < length (events_of p) → length flags ≡ length (events_of p) → left h p flags i ≡ option_to_list (option_and_then h (kept_at p flags i)) ++ left h p flags (i + 1)
  left_next i l e = ap (filter_map h) (marked_next flags (events_of p) i l e) ∙ by_event (kept_at p flags i)
    where
      by_event : (o : Option EventAt) → filter_map h (cons_option o (marked (drop (i + 1) flags) (drop (i + 1) (events_of p)))) ≡ option_to_list (option_and_then h o) ++ left h p flags (i + 1)
      by_event None = refl
      by_event (Some e) = by_value (h e)
        where
          by_value : (o : Option Y) → cons_option o (left h p flags (i + 1)) ≡ option_to_list o ++ left h p flags (i + 1)
          by_value None = refl
          by_value (Some y) = refl

  -- What was made so far, and what is left.
  pub done_next : (i : ℕ) (done : List Y) (o : Option EventAt) → i < length (events_of p) → length flags ≡ length (events_of p) → o ≡ kept_at p flags i
      → done ++ left h p flags i ≡ filter_map h (kept_by p flags) → (done ++ option_to_list (option_and_then h o)) ++ left h p flags (i + 1) ≡ filter_map h (kept_by p flags)
  done_next i done o l e k w = append_assoc done (option_to_list (option_and_then h o)) (left h p flags (i + 1))
      ∙ (ap (λ z. done ++ (option_to_list (option_and_then h z) ++ left h p flags (i + 1))) k ∙ (ap (λ z. done ++ z) (sym (left_next i l e)) ∙ w))

  pub done_all : (i : ℕ) (done : List Y) → length (events_of p) ≤ i → length flags ≡ length (events_of p) → done ++ left h p flags i ≡ filter_map h (kept_by p flags)
      → done ≡ filter_map h (kept_by p flags)
  done_all i done l e w = sym (append-nil done) ∙ (ap (λ z. done ++ filter_map h z) (sym (none flags (events_of p) i l)) ∙ w)
    where
      nothing : {X : Type 0} (flags : List Bool) → marked {X = X} flags [] ≡ []
      nothing [] = refl
      nothing (b ∷ flags) = refl

      none : {X : Type 0} (flags : List Bool) (xs : List X) (i : ℕ) → length xs ≤ i → marked (drop i flags) (drop i xs) ≡ []
      none flags xs i h = ap (marked (drop i flags)) (drop_all i xs h) ∙ nothing (drop i flags)

-- A list with at most one member more.
pub length_more : {Y : Type 0} (xs : List Y) (o : Option Y) → length (xs ++ option_to_list o) ≤ length xs + 1
length_more [] None = omega arith
length_more [] (Some y) = omega arith
length_more (x ∷ xs) o = let h = length_more xs o in omega arith

-- The number of events is below a power of 2.
pub events_few : (p : Parts) → Whole p.bytes → AreParts p → length (events_of p) ≤ most_events
events_few p w a = let s = whole_small p.bytes w in let e = count_laws.events_few p a in omega arith

pub kept_few : (p : Parts) (flags : List Bool) → length (kept_by p flags) ≤ length (events_of p)
kept_few p flags = few flags (events_of p)
  where
    few : {X : Type 0} (flags : List Bool) (xs : List X) → length (marked flags xs) ≤ length xs
    few [] xs = omega arith
    few (b ∷ flags) [] = omega arith
    few (true ∷ flags) (x ∷ xs) = let h = few flags xs in omega arith
    few (false ∷ flags) (x ∷ xs) = let h = few flags xs in omega arith

pub texts_few : {Y : Type 0} (h : EventAt → Option Y) (p : Parts) (flags : List Bool) → length (events_of p) ≤ most_events → length (filter_map h (kept_by p flags)) ≤ most_events
texts_few h p flags l = let m = filter_map_most h (kept_by p flags) in let k = kept_few p flags in omega arith
