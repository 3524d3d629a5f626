-- Arrays of JSON, written one item after another.
use Rattle.std.specs.Prelude.{◌≡◌, ◌+◌, ◌≤◌, Bool, true, false, ℕ, List, [], ◌∷◌, ◌++◌, length, map, slice_get, Some, take}
use Rattle.std.proofs.Common.{ap, refl, subst, sym, ◌∙◌}
use Rattle.std.proofs.lemmas.List.{append_assoc, append-nil, take_all}
use Rattle.serde_json.specs.Data.{Data, array}
use Rattle.serde_json.specs.View.{items_of}
use Rattle.serde_json.specs.Written.{comma_if, compact_text, items_text}
use Rattle.jfr_show.proofs.ListingLaws.{take_next}

module _ {X : Type 0} (f : X → Data) where
  -- The items, what closes them, and the array.
  abbrev items : Bool → List X → List ℕ
  items later xs = items_text later (items_of (map f xs))

  abbrev pub array_of : List X → Data
  array_of xs = array (items_of (map f xs))

  -- These items are written, whichever items follow.
  abbrev pub AreWritten : List X → Bool → List ℕ → List ℕ → Type 0
  AreWritten xs later start now = (rest : List X) → start ++ items false (xs ++ rest) ≡ now ++ items later rest

  pub none_written : (start : List ℕ) → AreWritten [] false start start
  none_written start rest = refl

  item_group : (now c t r : List ℕ) → now ++ (c ++ (t ++ r)) ≡ ((now ++ c) ++ t) ++ r
  item_group now c t r = simp append_assoc

  pub one_written : (xs : List X) (x : X) (later : Bool) (start now spaced new : List ℕ) → AreWritten xs later start now → spaced ≡ now ++ comma_if later → new ≡ spaced ++ compact_text (f x)
      → AreWritten (xs ++ x ∷ []) true start new
  one_written xs x later start now spaced new w s n rest =
      let grown : new ≡ (now ++ comma_if later) ++ compact_text (f x) = n ∙ ap (λ z. z ++ compact_text (f x)) s in
      ap (λ z. start ++ items false z) (append_assoc xs (x ∷ []) rest)
      ∙ (w (x ∷ rest) ∙ (item_group now (comma_if later) (compact_text (f x)) (items true rest) ∙ ap (λ z. z ++ items true rest) (sym grown)))

  pub all_written : (xs : List X) (later : Bool) (was start now new : List ℕ) → start ≡ was ++ 91 ∷ [] → AreWritten xs later start now → new ≡ now ++ 93 ∷ [] → new ≡ was ++ compact_text (array_of xs)
  all_written xs later was start now new s w n =
      n ∙ (sym (w []) ∙ (ap (λ z. start ++ items false z) (append-nil xs) ∙ (ap (λ z. z ++ items false xs) s ∙ append_assoc was (91 ∷ []) (items false xs))))

  -- The first items of a list, and one more; all of them.
  pub next_written : (xs : List X) (i : ℕ) (x : X) (later : Bool) (start now spaced new : List ℕ) → slice_get xs i ≡ Some x → AreWritten (take i xs) later start now → spaced ≡ now ++ comma_if later
      → new ≡ spaced ++ compact_text (f x) → AreWritten (take (i + 1) xs) true start new
  next_written xs i x later start now spaced new is w s n = subst (λ ys. AreWritten ys true start new) (sym (take_next xs i x is)) (one_written (take i xs) x later start now spaced new w s n)

  pub whole_written : (xs : List X) (i : ℕ) (later : Bool) (was start now new : List ℕ) → length xs ≤ i → start ≡ was ++ 91 ∷ [] → AreWritten (take i xs) later start now → new ≡ now ++ 93 ∷ []
      → new ≡ was ++ compact_text (array_of xs)
  whole_written xs i later was start now new all s w n = all_written (take i xs) later was start now new s w n ∙ ap (λ ys. was ++ compact_text (array_of ys)) (take_all i xs all)
