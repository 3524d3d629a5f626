-- Small facts that several proofs share.
use Rattle.std.proofs.Common.{IsSome, IfSome, ◌≡◌, ℕ, refl, subst, Bool, true, false, ◌&&◌, T, List, [], ◌∷◌, Option, None, Some}
use Rattle.std.specs.List.{AllByRecursion}
use Rattle.jfr_outside.specs.World.{World, IfKnown}
use Rattle.jfr_plan.specs.Ends.{End}

pub and_true : (x y : Bool) → x ≡ true → y ≡ true → (x && y) ≡ true
and_true true y e f = f
and_true false y e f = e

pub first_true : (x y : Bool) → (x && y) ≡ true → x ≡ true
first_true true y e = refl
first_true false y e = e

pub second_true : (x y : Bool) → (x && y) ≡ true → y ≡ true
second_true true y e = e
second_true false y e = cc

pub first_holds : (x y : Bool) → T (x && y) → T x
first_holds true y h = tt
first_holds false y h = absurd h

pub second_holds : (x y : Bool) → T (x && y) → T y
second_holds true y h = h
second_holds false y h = absurd h

pub some_none : (o : Option (List ℕ)) (x : List ℕ) → o ≡ Some x → o ≡ None → ⊥
some_none o x e f = cc

pub none_is : (o : Option (List ℕ)) → o ≡ None → IsSome o → ⊥
none_is None e h = cc
none_is (Some x) e h = cc

pub same_end : (a b : End) → ◌≡◌ {A = Option End} (Some a) (Some b) → a ≡ b
same_end a b e = cc

pub for_each : {X : Type 0} (P Q : X → Type 0) (xs : List X) → ((x : X) → P x → Q x) → AllByRecursion P xs → AllByRecursion Q xs
for_each P Q [] f h = tt
for_each P Q (x ∷ xs) f h = (f x h.0, for_each P Q xs f h.1)

pub for_both : {X : Type 0} (P Q R : X → Type 0) (xs : List X) → ((x : X) → P x → Q x → R x) → AllByRecursion P xs → AllByRecursion Q xs → AllByRecursion R xs
for_both P Q R [] f h k = tt
for_both P Q R (x ∷ xs) f h k = (f x h.0 k.0, for_both P Q R xs f h.1 k.1)

-- What is known before a call, from a claim on it and what is known after.
pub told_before : (b a : Option World) (P : World → World → Type 0) (F : World → Type 0) → IfKnown b a P → ((w v : World) → P w v → F w) → IfSome b F
told_before None a P F t f = tt
told_before (Some w) None P F t f = absurd t
told_before (Some w) (Some v) P F t f = f w v t

pub told_at : (b : Option World) (w : World) (F : World → Type 0) → b ≡ Some w → IfSome b F → F w
told_at b w F e h = let k : IfSome (Some w) F = subst (λ (o : Option World). IfSome o F) e h in k
