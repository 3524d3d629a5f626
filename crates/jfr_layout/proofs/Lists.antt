-- Lists member by member.
use Rattle.std.proofs.Common.{◌≡◌, ℕ, zero, suc, ◌+◌, ◌<◌, List, [], ◌∷◌, ◌++◌, length, take, get_or, map, Option, Some, None, false, sym, ◌∙◌, ap, refl, subst, arith}
use Rattle.std.specs.Prelude.{is_some, IsSome, option_map}
use Rattle.std.specs.List.{slice_get, flat_map, enumerate_from, AllByRecursion, AllZip}
use Rattle.std.specs.Option.{option_and_then}
use Rattle.std.proofs.lemmas.List.{take_more, map_more, length-map}
use Rattle.std.proofs.lemmas.Option.{slice_get_within, get_or_from_slice_get, slice_get-get_or, slice_get-map, same_Some}

-- What a list has at an index within it.
pub present : {X : Type 0} (xs : List X) (i : ℕ) → i < length xs → (x : X) × (slice_get xs i ≡ Some x)
present [] i l = absurd (omega arith)
present (x ∷ xs) zero l = (x, refl)
present (x ∷ xs) (suc i) l = let m : i < length xs = omega arith in present xs i m

pub take_next : {X : Type 0} (xs : List X) (i : ℕ) (x : X) → slice_get xs i ≡ Some x → take (i + 1) xs ≡ take i xs ++ x ∷ []
take_next xs i x e = take_more xs i x (slice_get_within xs i x e) ∙ ap (λ y. take i xs ++ y ∷ []) (get_or_from_slice_get xs i x x e)

pub map_next : {X Y : Type 0} (f : X → Y) (xs : List X) (i : ℕ) (x : X) → slice_get xs i ≡ Some x → map f (take (i + 1) xs) ≡ map f (take i xs) ++ f x ∷ []
map_next f xs i x e = map_more f xs i x (slice_get_within xs i x e) ∙ ap (λ y. map f (take i xs) ++ f y ∷ []) (get_or_from_slice_get xs i x x e)

-- What `get_or` gives at an index within a list is the item there: so for the item that a loop over the list has.
pub item_at : {X : Type 0} (xs : List X) (i : ℕ) (x : X) → i < length xs → x ≡ get_or xs i x → slice_get xs i ≡ Some x
item_at xs i x l is = slice_get-get_or xs i x l ∙ ap Some (sym is)

-- So too if the loop is over a slice that equals the list.
pub listed_at : {X : Type 0} {items xs : List X} → items ≡ xs → (i : ℕ) (x : X) → i < length items → x ≡ get_or items i x → slice_get xs i ≡ Some x
listed_at {items = items} e i x l is = rw (← e) (item_at items i x l is)

-- Two lists that are seen alike are seen alike at each index.
pub mapped_at : {X Y Z : Type 0} (f : X → Z) (g : Y → Z) (xs : List X) (ys : List Y) (i : ℕ) (x : X) (y : Y) → map f xs ≡ map g ys → slice_get ys i ≡ Some y → x ≡ get_or xs i x → f x ≡ g y
mapped_at f g xs ys i x y m e r =
    let l : i < length xs = omega (arith, slice_get_within ys i y e, ap length m, length-map xs f, length-map ys g) in
    let s : slice_get xs i ≡ Some x = slice_get-get_or xs i x l ∙ ap Some (sym r) in
    same_Some (f x) (g y) (sym (ap (option_map f) s) ∙ (sym (slice_get-map f xs i) ∙ (ap (λ zs. slice_get zs i) m ∙ (slice_get-map g ys i ∙ ap (option_map g) e))))

pub nil_parts : {X : Type 0} (a b : List X) → a ++ b ≡ [] → (a ≡ []) × (b ≡ [])
nil_parts [] b e = (refl, e)
nil_parts (x ∷ a) b e = cc

none_from : {X Y : Type 0} (found : ℕ → X → List Y) (n : ℕ) (xs : List X) (i j : ℕ) (x : X) → flat_map (λ y. found y.0 y.1) (enumerate_from n xs) ≡ [] → slice_get xs i ≡ Some x → n + i ≡ j
    → found j x ≡ []
none_from found n [] i j x e s q = cc
none_from found n (y ∷ xs) zero j x e s q =
    let m : n ≡ j = omega arith in
    ap (found j) (sym (same_Some y x s)) ∙ (ap (λ a. found a y) (sym m) ∙ (nil_parts (found n y) (flat_map (λ z. found z.0 z.1) (enumerate_from (n + 1) xs)) e).0)
none_from found n (y ∷ xs) (suc i) j x e s q =
    none_from found (n + 1) xs i j x (nil_parts (found n y) (flat_map (λ z. found z.0 z.1) (enumerate_from (n + 1) xs)) e).1 s (omega arith)

-- If nothing is found at all, nothing is found at a member.
pub none_at : {X Y : Type 0} (found : ℕ → X → List Y) (xs : List X) (i : ℕ) (x : X) → flat_map (λ y. found y.0 y.1) (enumerate_from 0 xs) ≡ [] → slice_get xs i ≡ Some x → found i x ≡ []
none_at found xs i x e s = none_from found 0 xs i i x e s (omega arith)

pub value_in : {X : Type 0} (o : Option X) → IsSome o → (x : X) × (o ≡ Some x)
value_in None s = cc
value_in (Some x) s = (x, refl)

pub chained : {X Y : Type 0} (f : X → Option Y) (o : Option X) (y : Y) → option_and_then f o ≡ Some y → (x : X) × (o ≡ Some x) × (f x ≡ Some y)
chained f None y e = cc
chained f (Some x) y e = (x, refl, e)

pub absent : {X : Type 0} (o : Option X) → is_some o ≡ false → o ≡ None
absent None e = refl
absent (Some x) e = cc

pub all_at : {X : Type 0} (P : X → Type 0) (xs : List X) (i : ℕ) (x : X) → AllByRecursion P xs → slice_get xs i ≡ Some x → P x
all_at P [] i x a e = cc
all_at P (y ∷ xs) zero x a e = subst P (same_Some y x e) a.0
all_at P (y ∷ xs) (suc i) x a e = all_at P xs i x a.1 e

pub all_push : {X : Type 0} (P : X → Type 0) (xs : List X) (x : X) → AllByRecursion P xs → P x → AllByRecursion P (xs ++ x ∷ [])
all_push P [] x a p = (p, tt)
all_push P (y ∷ xs) x a p = (a.0, all_push P xs x a.1 p)

-- A list that has at each index what a function says of the index.
pub filled_push : {X : Type 0} (f : ℕ → X) (xs : List X) (x : X) → ((i : ℕ) → i < length xs → slice_get xs i ≡ Some (f i)) → x ≡ f (length xs) → (i : ℕ) → i < length (xs ++ x ∷ [])
    → slice_get (xs ++ x ∷ []) i ≡ Some (f i)
filled_push f [] x a e zero l = ap Some e
filled_push f [] x a e (suc i) l = absurd (omega arith)
filled_push f (y ∷ xs) x a e zero l = a 0 (omega arith)
filled_push f (y ∷ xs) x a e (suc i) l = filled_push (λ j. f (suc j)) xs x (λ j m. a (suc j) (omega arith)) e i (omega arith)

-- Two lists that are related member by member.
pub zip_at : {X Y : Type 0} (R : X → Y → Type 0) (xs : List X) (ys : List Y) (i : ℕ) (x : X) → AllZip R xs ys → slice_get xs i ≡ Some x → (y : Y) × (slice_get ys i ≡ Some y) × R x y
zip_at R [] ys i x a e = cc
zip_at R (w ∷ xs) [] i x a e = absurd a
zip_at R (w ∷ xs) (y ∷ ys) zero x a e = (y, refl, subst (λ z. R z y) (same_Some w x e) a.0)
zip_at R (w ∷ xs) (y ∷ ys) (suc i) x a e = zip_at R xs ys i x a.1 e

pub zip_push : {X Y : Type 0} (R : X → Y → Type 0) (xs : List X) (ys : List Y) (x : X) (y : Y) → AllZip R xs ys → R x y → AllZip R (xs ++ x ∷ []) (ys ++ y ∷ [])
zip_push R [] [] x y a r = (r, tt)
zip_push R [] (v ∷ ys) x y a r = absurd a
zip_push R (w ∷ xs) [] x y a r = absurd a
zip_push R (w ∷ xs) (v ∷ ys) x y a r = (a.0, zip_push R xs ys x y a.1 r)
