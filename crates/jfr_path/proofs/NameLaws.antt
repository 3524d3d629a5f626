-- Names, one after another, and the text that they lead to.
use Rattle.std.specs.Prelude.{◌≡◌, ℕ, suc, ◌+◌, List, [], ◌∷◌, drop, slice_get, Option, Some, None, option_and_then}
use Rattle.std.proofs.Common.{ap, refl, sym, ◌∙◌, drop-cons, add-one}
use Rattle.std.proofs.lemmas.Option.{slice_get_within, get_or_from_slice_get}
use Rattle.jfr_value.specs.Nodes.{NodeAt}
use Rattle.jfr_chunk.specs.Parts.{Parts}
use Rattle.jfr_chunk.specs.Paths.{named_node, named_field, named_text, follow_while, is_reference, text_of}

drop_at : {A : Type 0} (xs : List A) (i : ℕ) (x : A) → Some x ≡ slice_get xs i → drop i xs ≡ x ∷ drop (i + 1) xs
drop_at xs i x e =
    drop-cons xs i x (slice_get_within xs i x (sym e)) ∙ (ap (λ z. z ∷ drop (suc i) xs) (get_or_from_slice_get xs i x x (sym e)) ∙ ap (λ z. x ∷ drop z xs) (sym (add-one i)))

-- A function that may give nothing, after another one.
pub then_then : {A B C : Type 0} (f : B → Option C) (g : A → Option B) (o : Option A) → option_and_then f (option_and_then g o) ≡ option_and_then (λ x. option_and_then f (g x)) o
then_then f g None = refl
then_then f g (Some x) = refl

module _ (p : Parts) where
  -- The text, from the field of the first name on.
  pub named_next : (name : List ℕ) (names : List (List ℕ)) (n : NodeAt)
      → named_text p n (name ∷ names) ≡ option_and_then (λ m. named_text p m names) (named_field p name (follow_while 16 is_reference p n))
  unfolding named_text
  named_next name names n = then_then (text_of p) (λ m. named_node p m names) (named_field p name (follow_while 16 is_reference p n))

  name_there : (names : List (List ℕ)) (i : ℕ) (name : List ℕ) (n m : NodeAt) → Some name ≡ slice_get names i → m ≡ follow_while 16 is_reference p n
      → named_node p n (drop i names) ≡ option_and_then (λ z. named_node p z (drop (i + 1) names)) (named_field p name m)
  name_there names i name n m e h = ap (named_node p n) (drop_at names i name e) ∙ ap (λ z. option_and_then (λ z. named_node p z (drop (i + 1) names)) (named_field p name z)) (sym h)

  -- The field of the next name.
  pub named_on : (whole : Option NodeAt) (names : List (List ℕ)) (i : ℕ) (name : List ℕ) (n m to : NodeAt) → whole ≡ named_node p n (drop i names) → Some name ≡ slice_get names i
      → m ≡ follow_while 16 is_reference p n → Some to ≡ named_field p name m
      → whole ≡ named_node p to (drop (i + 1) names)
  named_on whole names i name n m to w e h f = w ∙ (name_there names i name n m e h ∙ ap (option_and_then (λ z. named_node p z (drop (i + 1) names))) (sym f))

  pub named_off : (whole : Option NodeAt) (names : List (List ℕ)) (i : ℕ) (name : List ℕ) (n m : NodeAt) → whole ≡ named_node p n (drop i names) → Some name ≡ slice_get names i
      → m ≡ follow_while 16 is_reference p n → None ≡ named_field p name m → None ≡ whole
  named_off whole names i name n m w e h f = sym (w ∙ (name_there names i name n m e h ∙ ap (option_and_then (λ z. named_node p z (drop (i + 1) names))) (sym f)))

  pub named_there : (names : List (List ℕ)) (n m : NodeAt) → Some m ≡ named_node p n names → text_of p m ≡ named_text p n names
  unfolding named_text
  named_there names n m e = ap (option_and_then (text_of p)) e

  pub named_none : (names : List (List ℕ)) (n : NodeAt) → None ≡ named_node p n names → None ≡ named_text p n names
  unfolding named_text
  named_none names n e = ap (option_and_then (text_of p)) e

  -- The text of one name's field.
  pub field_there : (name : List ℕ) (n holder m : NodeAt) → holder ≡ follow_while 16 is_reference p n → Some m ≡ named_field p name holder → text_of p m ≡ named_text p n (name ∷ [])
  field_there name n holder m h e = named_there (name ∷ []) n m (ap (option_and_then (λ z. Some z)) (e ∙ ap (named_field p name) h))

  pub field_none : (name : List ℕ) (n holder : NodeAt) → holder ≡ follow_while 16 is_reference p n → None ≡ named_field p name holder → None ≡ named_text p n (name ∷ [])
  field_none name n holder h e = named_none (name ∷ []) n (ap (option_and_then (λ z. Some z)) (e ∙ ap (named_field p name) h))
