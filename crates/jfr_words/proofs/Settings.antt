-- What options set, one after another.
use Rattle.std.specs.Prelude.{◌≡◌, ◌⊎◌, ℕ, Bool, true, false, if◌then◌else◌, List, Option, None, Some, option_map, option_and_then}
use Rattle.std.proofs.Common.{ap, refl, sym, ◌∙◌, inl, inr}

-- Sets something that isn't set yet, if the value is valid.
abbrev pub set : {G X : Type 0} → (G → Bool) → (X → G → G) → Option X → G → Option G
set has put value g = if has g then None else option_map (λ x. put x g) value

pub nothing : {X Y : Type 0} (o : Option X) → option_and_then {U = Y} (λ x. None) o ≡ None
nothing None = refl
nothing (Some x) = refl

pub then_ext : {X Y : Type 0} (f h : X → Option Y) (o : Option X) → ((x : X) → f x ≡ h x) → option_and_then f o ≡ option_and_then h o
then_ext f h None e = refl
then_ext f h (Some x) e = e x

pub then_then : {X Y Z : Type 0} (f : X → Option Y) (h : Y → Option Z) (o : Option X) → option_and_then (λ x. option_and_then h (f x)) o ≡ option_and_then h (option_and_then f o)
then_then f h None = refl
then_then f h (Some x) = refl

-- What is set in a part is set in the whole.
pub set_in : {F G X : Type 0} (has : F → Bool) (put : X → F → F) (value : Option X) (f : F) (into : F → G)
    → option_map into (set has put value f) ≡ (if has f then None else option_map (λ x. into (put x f)) value)
set_in has put value f into = by_test (has f) value
  where
    by_test : (t : Bool) (value : Option _) → option_map into (if t then None else option_map (λ x. put x f) value) ≡ (if t then None else option_map (λ x. into (put x f)) value)
    by_test true value = refl
    by_test false None = refl
    by_test false (Some x) = refl

-- What is set can't be set again.
pub set_twice : {G X : Type 0} (has : G → Bool) (put : X → G → G) (o p : Option X) (g : G) → ((x : X) (h : G) → has (put x h) ≡ true) → option_and_then (set has put p) (set has put o g) ≡ None
set_twice has put o p g is = by_test (has g) o
  where
    by_test : (t : Bool) (o : Option _) → option_and_then (set has put p) (if t then None else option_map (λ x. put x g) o) ≡ None
    by_test true o = refl
    by_test false None = refl
    by_test false (Some x) = rw (is x g) refl

-- Setting one of two things doesn't affect the other.
pub record Apart {G X Y : Type 0} (has : G → Bool) (put : X → G → G) (has' : G → Bool) (put' : Y → G → G) : Type 0 where
  pub on : (x : X) (g : G) → has' (put x g) ≡ has' g
  pub back : (y : Y) (g : G) → has (put' y g) ≡ has g
  pub both : (x : X) (y : Y) (g : G) → put' y (put x g) ≡ put x (put' y g)

-- Such things may be set in either order.
pub set_both : {G X Y : Type 0} (has : G → Bool) (put : X → G → G) (o : Option X) (has' : G → Bool) (put' : Y → G → G) (p : Option Y) (g : G) → Apart has put has' put'
    → option_and_then (set has' put' p) (set has put o g) ≡ option_and_then (set has put o) (set has' put' p g)
set_both has put o has' put' p g apart = by_tests (has g) (has' g) o p refl refl
  where
    by_tests : (s t : Bool) (o : Option _) (p : Option _) → has g ≡ s → has' g ≡ t → option_and_then (set has' put' p) (set has put o g) ≡ option_and_then (set has put o) (set has' put' p g)
    by_tests true true o p d e = rw (d, e) refl
    by_tests true false o None d e = rw (d, e) refl
    by_tests true false o (Some y) d e = rw (d, e, apart.back y g, d) refl
    by_tests false true None p d e = rw (d, e) refl
    by_tests false true (Some x) p d e = rw (d, e, apart.on x g, e) refl
    by_tests false false None None d e = rw (d, e) refl
    by_tests false false (Some x) None d e = rw (d, e, apart.on x g, e) refl
    by_tests false false None (Some y) d e = rw (d, e, apart.back y g, d) refl
    by_tests false false (Some x) (Some y) d e = rw (d, e, apart.on x g, e, apart.back y g, d) (ap (λ h. Some h) (apart.both x y g))

-- Giving two options is the same in either order, and an option can't be given twice.
pub record Settles {G O : Type 0} (given : O → List ℕ → G → Option G) : Type 0 where
  pub either : (o p : O) (v u : List ℕ) (g : G) → option_and_then (given p u) (given o v g) ≡ option_and_then (given o v) (given p u g)
  pub once : (o : O) (v u : List ℕ) (g : G) → option_and_then (given o u) (given o v g) ≡ None

-- This holds if each option sets something of its own.
pub settles : {G O : Type 0} (given : O → List ℕ → G → Option G) (X : O → Type 0) (has : O → G → Bool) (put : (o : O) → X o → G → G) (value : (o : O) → List ℕ → Option (X o))
    → ((o : O) (v : List ℕ) (g : G) → given o v g ≡ set (has o) (put o) (value o v) g)
    → ((o : O) (x : X o) (g : G) → has o (put o x g) ≡ true)
    → ((o p : O) → (o ≡ p) ⊎ Apart (has o) (put o) (has p) (put p)) → Settles given
settles {G = G} {O = O} given X has put value as_set is which = record { either = λ o p v u g. by_which o p v u g (which o p); once = once }
  where
    as_sets : (o p : O) (v u : List ℕ) (g : G) → option_and_then (given p u) (given o v g) ≡ option_and_then (set (has p) (put p) (value p u)) (set (has o) (put o) (value o v) g)
    as_sets o p v u g = ap (option_and_then (given p u)) (as_set o v g) ∙ then_ext (given p u) (set (has p) (put p) (value p u)) (set (has o) (put o) (value o v) g) (as_set p u)

    once : (o : O) (v u : List ℕ) (g : G) → option_and_then (given o u) (given o v g) ≡ None
    once o v u g = as_sets o o v u g ∙ set_twice (has o) (put o) (value o v) (value o u) g (is o)

    by_which : (o p : O) (v u : List ℕ) (g : G) → (o ≡ p) ⊎ Apart (has o) (put o) (has p) (put p) → option_and_then (given p u) (given o v g) ≡ option_and_then (given o v) (given p u g)
    by_which o p v u g (inl e) = ap (λ q. option_and_then (given q u) (given o v g)) (sym e) ∙ once o v u g ∙ sym (once o u v g) ∙ ap (λ q. option_and_then (given o v) (given q u g)) e
    by_which o p v u g (inr apart) = as_sets o p v u g ∙ set_both (has o) (put o) (value o v) (has p) (put p) (value p u) g apart ∙ sym (as_sets p o u v g)
