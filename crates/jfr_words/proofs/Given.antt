-- Options in any order, each at most once.
use Rattle.std.specs.Prelude.{◌≡◌, ℕ, zero, suc, ◌<◌, Bool, true, false, List, [], ◌∷◌, ◌++◌, length, Option, None, Some, option_and_then, All, slice_index_or, slice_set, OnSome}
use Rattle.std.specs.List.{flat_map, swap, AllByRecursion, IsDistinct}
use Rattle.std.specs.List.Sorted.{IsPermutation}
use Rattle.std.specs.Str.{bytes_eq}
use Rattle.std.proofs.Common.{arith, ap, refl, sym, ◌∙◌, append_assoc}
use Rattle.std.proofs.lemmas.List.Elements.{All-tail}
use Rattle.std.proofs.lemmas.List.Sorted.{IsPermutation-keeps, All-permutation}
use Rattle.std.proofs.lemmas.Slice.Eq.{bytes_eq-Decides}
use Rattle.jfr_words.specs.Laws.{is_same_option}
use Rattle.jfr_words.proofs.Settings.{Settles, nothing, then_ext, then_then}

-- The option that words name, and its value, which is the empty word if it has none.
abbrev option_in : {O : Type 0} → (List ℕ → Option O) → List (List ℕ) → Option O
option_in named [] = None
option_in named (word ∷ _) = named word

abbrev value_in : List (List ℕ) → List ℕ
value_in (word ∷ value ∷ _) = value
value_in _ = []

-- What an option given as words does.
abbrev pub give : {G O : Type 0} → (List ℕ → Option O) → (O → List ℕ → G → Option G) → List (List ℕ) → G → Option G
give named given words g = option_and_then (λ o. given o (value_in words) g) (option_in named words)

module _ {G O : Type 0} (named : List ℕ → Option O) (given : O → List ℕ → G → Option G) (settles : Settles given) where
  abbrev gives : List (List ℕ) → G → Option G
  gives words g = give named given words g

  abbrev all_given : List (List (List ℕ)) → G → Option G
  all_given [] g = Some g
  all_given (o ∷ os) g = option_and_then (all_given os) (gives o g)

  either : (a b : List (List ℕ)) (g : G) → option_and_then (gives b) (gives a g) ≡ option_and_then (gives a) (gives b g)
  either a b g = by_options (option_in named a) (option_in named b) (value_in a) (value_in b)
    where
      by_options : (x y : Option O) (v u : List ℕ)
          → option_and_then (λ h. option_and_then (λ o. given o u h) y) (option_and_then (λ o. given o v g) x) ≡ option_and_then (λ h. option_and_then (λ o. given o v h) x) (option_and_then (λ o. given o u g) y)
      by_options None None v u = refl
      by_options None (Some p) v u = sym (nothing (given p u g))
      by_options (Some o) None v u = nothing (given o v g)
      by_options (Some o) (Some p) v u = settles.either o p v u g

  abbrev Same : List (List (List ℕ)) → List (List (List ℕ)) → Type 0
  Same os ps = (g : G) → all_given ps g ≡ all_given os g

  swapped : (a b : List (List ℕ)) (os : List (List (List ℕ))) → Same (a ∷ b ∷ os) (b ∷ a ∷ os)
  swapped a b os g = then_then (gives a) (all_given os) (gives b g) ∙ ap (option_and_then (all_given os)) (either b a g) ∙ sym (then_then (gives b) (all_given os) (gives a g))

  under : (a : List (List ℕ)) (os ps : List (List (List ℕ))) → Same os ps → Same (a ∷ os) (a ∷ ps)
  under a os ps s g = then_ext (all_given ps) (all_given os) (gives a g) s

  to_front : (a d : List (List ℕ)) (os : List (List (List ℕ))) (j : ℕ) → j < length os → Same (a ∷ os) (slice_index_or os j d ∷ slice_set os j a)
  to_front a d [] j p g = absurd (omega arith)
  to_front a d (b ∷ os) zero p g = swapped a b os g
  to_front a d (b ∷ os) (suc j) p g = swapped b (slice_index_or os j d) (slice_set os j a) g ∙ under b (a ∷ os) (slice_index_or os j d ∷ slice_set os j a) (to_front a d os j (omega arith)) g
      ∙ swapped a b os g

  exchanged : (d : List (List ℕ)) (os : List (List (List ℕ))) (i j : ℕ) → i < length os → j < length os → Same os (slice_set (slice_set os i (slice_index_or os j d)) j (slice_index_or os i d))
  exchanged d [] i j p q g = absurd (omega arith)
  exchanged d (o ∷ os) zero zero p q g = refl
  exchanged d (o ∷ os) zero (suc j) p q g = to_front o d os j (omega arith) g
  exchanged d (o ∷ os) (suc i) zero p q g = to_front o d os i (omega arith) g
  exchanged d (o ∷ os) (suc i) (suc j) p q g = under o os _ (exchanged d os i j (omega arith) (omega arith)) g

  swap_same : (os : List (List (List ℕ))) (i j : ℕ) → i < length os → j < length os → Same os (swap os i j)
  swap_same [] i j p q = absurd (omega arith)
  swap_same (o ∷ os) i j p q = exchanged o (o ∷ os) i j p q

  permuted : (os ps : List (List (List ℕ))) → IsPermutation os ps → Same os ps
  permuted os = IsPermutation-keeps os (Same os) (λ g. refl) (λ ps i j p q s g. swap_same ps i j p q g ∙ s g)

  -- Two options that are both given, one after another, differ.
  apart : (a b : List (List ℕ)) (g : G) (h : G) → option_and_then (gives b) (gives a g) ≡ Some h → is_same_option a b ≡ false
  apart [] b g h e = refl
  apart (word ∷ a) [] g h e = refl
  apart (word ∷ a) (other ∷ b) g h e = by_test (bytes_eq word other) refl
    where
      same_none : (x : Option O) (v u : List ℕ) → option_and_then (λ k. option_and_then (λ o. given o u k) x) (option_and_then (λ o. given o v g) x) ≡ None
      same_none None v u = refl
      same_none (Some o) v u = settles.once o v u g

      none_some : {X : Type 0} {x : X} → None ≡ Some x → ⊥
      none_some e = cc

      by_test : (t : Bool) → bytes_eq word other ≡ t → t ≡ false
      by_test false f = refl
      by_test true f =
          let is : word ≡ other = (bytes_eq-Decides word other).0 f in
          absurd (none_some (sym (same_none (named other) (value_in (word ∷ a)) (value_in (other ∷ b)))
          ∙ ap (λ w. option_and_then (gives (other ∷ b)) (option_and_then (λ o. given o (value_in (word ∷ a)) g) (named w))) (sym is) ∙ e))

  some_first : (f : G → Option G) (o : Option G) (h : G) → option_and_then f o ≡ Some h → (k : G) × (o ≡ Some k) × (f k ≡ Some h)
  some_first f (Some k) h e = (k, refl, e)
  some_first f None h e = cc

  first_apart : (a : List (List ℕ)) (os : List (List (List ℕ))) (g h : G) → all_given (a ∷ os) g ≡ Some h → AllByRecursion (λ o. is_same_option a o ≡ false) os
  first_apart a [] g h e = tt
  first_apart a (b ∷ os) g h e =
      let s = some_first (all_given os) (option_and_then (gives b) (gives a g)) h (sym (then_then (gives b) (all_given os) (gives a g)) ∙ e) in
      let t = some_first (all_given (a ∷ os)) (gives b g) h (swapped a b os g ∙ e) in
      (apart a b g s.0 s.1, first_apart a os t.0 h t.2)

  distinct : (os : List (List (List ℕ))) (g h : G) → all_given os g ≡ Some h → IsDistinct is_same_option os
  unfolding IsDistinct
  distinct [] g h e = tt
  distinct (o ∷ os) g h e = let s = some_first (all_given os) (gives o g) h e in (first_apart o os g h e, distinct os s.0 h s.2)

  -- How a command's words are read.
  module _ {X : Type 0} (from : G → List (List ℕ) → Option X) (IsOne : List (List ℕ) → Type 0)
      (read : (g : G) (o : List (List ℕ)) (rest : List (List ℕ)) → IsOne o → from g (o ++ rest) ≡ option_and_then (λ h. from h rest) (gives o g)) where
    all_read : (os : List (List (List ℕ))) (rest : List (List ℕ)) (g : G) → All IsOne os → from g (flat_map (λ o. o) os ++ rest) ≡ option_and_then (λ h. from h rest) (all_given os g)
    all_read [] rest g all = refl
    all_read (o ∷ os) rest g all =
        ap (from g) (append_assoc o (flat_map (λ o. o) os) rest) ∙ read g o (flat_map (λ o. o) os ++ rest) (all 0 o (omega arith))
        ∙ then_ext _ _ (gives o g) (λ h. all_read os rest h (All-tail IsOne o os all))
        ∙ then_then (all_given os) (λ h. from h rest) (gives o g)

    pub in_any_order : (os ps : List (List (List ℕ))) (rest : List (List ℕ)) (g : G) → All IsOne os → IsPermutation os ps
        → from g (flat_map (λ o. o) ps ++ rest) ≡ from g (flat_map (λ o. o) os ++ rest)
    in_any_order os ps rest g all p = all_read ps rest g (All-permutation IsOne os ps p all) ∙ ap (option_and_then (λ h. from h rest)) (permuted os ps p g) ∙ sym (all_read os rest g all)

    pub given_once : (os : List (List (List ℕ))) (rest : List (List ℕ)) (g : G) → All IsOne os → OnSome (from g (flat_map (λ o. o) os ++ rest)) (IsDistinct is_same_option os)
    given_once os rest g all = by_read (from g (flat_map (λ o. o) os ++ rest)) (all_given os g) (all_read os rest g all) refl
      where
        by_read : (x : Option X) (o : Option G) → x ≡ option_and_then (λ h. from h rest) o → all_given os g ≡ o → OnSome x (IsDistinct is_same_option os)
        by_read None o e f = tt
        by_read (Some x) None e f = cc
        by_read (Some x) (Some h) e f = distinct os g h f
