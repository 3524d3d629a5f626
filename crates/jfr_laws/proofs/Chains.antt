-- A chain from its oldest checkpoint on.
use Rattle.std.specs.Prelude.{◌≡◌, ℕ, ◌+◌, ◌^◌, ◌<◌, ℤ, pos, ◌+ℤ◌, false, nat_lt, List, [], ◌∷◌, ◌++◌, reverse, Option, Some, None, ⊤}
use Rattle.std.specs.Int.{cast_signed, w64}
use Rattle.std.proofs.Common.{ap, arith, refl, sym, ◌∙◌, subst, append_assoc}
use Rattle.std.proofs.lemmas.Int.{ints}
use Rattle.std.proofs.lemmas.Grind.{reverse_onto}
use Rattle.std.proofs.lemmas.List.{append-nil}
use Rattle.jfr_frame.specs.declared.framed.Framed.{Framed}
use Rattle.jfr_pool.specs.declared.link.Link.{Link}
use Rattle.jfr_pool.specs.Chains.{IsLink, IsChain, StepsTo}
use Rattle.jfr_chunk.specs.Written.{distance}

-- The delta leads to the older checkpoint, or is 0 if there is none.
abbrev pub LeadsTo : Option ℕ → Link → Type 0
LeadsTo None l = l.delta ≡ pos 0
LeadsTo (Some older) l = StepsTo l.frame.at l.delta older

-- Links with the oldest first, of which the first leads to this older one.
abbrev pub Linked : List ℕ → List Framed → Option ℕ → List Link → Type 0
Linked c rs older [] = ⊤
Linked c rs older (l ∷ ls) = IsLink c rs l × LeadsTo older l × Linked c rs (Some l.frame.at) ls

-- A distance to an earlier place, in two's complement.
lands_back : (at older w : ℕ) → older < at → at < 2 ^ 63 → w + at ≡ 2 ^ 64 + older → pos at +ℤ cast_signed w64 w ≡ pos older
lands_back at older w h i e = let t : nat_lt w (2 ^ 63) ≡ false = grind arith in rw t (omega (arith, ints))

moves_back : (at older : ℕ) (d : ℤ) → older < at → pos at +ℤ d ≡ pos older → d ≡ pos 0 → ⊥
moves_back at older d h e f = omega (arith, ints)

-- The distance to an earlier place, in two's complement, leads there.
pub step_delta : (at older : ℕ) → older < at → at < 2 ^ 63 → StepsTo at (cast_signed w64 (distance at (Some older))) older
step_delta at older h i =
    let e : distance at (Some older) + at ≡ 2 ^ 64 + older = omega arith in
    let f : pos at +ℤ cast_signed w64 (distance at (Some older)) ≡ pos older = lands_back at older (distance at (Some older)) h i e in
    record { moves = λ g. moves_back at older (cast_signed w64 (distance at (Some older))) h f g; lands = f; earlier = h }

-- Where the newest starts.
abbrev pub last_place : Link → List Link → ℕ
last_place l [] = l.frame.at
last_place l (m ∷ ls) = last_place m ls

cons_reverse : {X : Type 0} (x : X) (xs ys : List X) → reverse xs ++ (x ∷ ys) ≡ reverse (x ∷ xs) ++ ys
cons_reverse x xs ys = sym (ap (λ z. z ++ ys) (reverse_onto xs x []) ∙ append_assoc (reverse xs) (x ∷ []) ys)

chain_onto : (c : List ℕ) (rs : List Framed) (ls : List Link) (m : Link) (older : List Link) → IsChain c rs m.frame.at (m ∷ older) → Linked c rs (Some m.frame.at) ls
    → IsChain c rs (last_place m ls) (reverse ls ++ (m ∷ older))
chain_onto c rs [] m older h k = h
chain_onto c rs (l ∷ ls) m older h k =
    subst (IsChain c rs (last_place l ls)) (cons_reverse l ls (m ∷ older)) (chain_onto c rs ls l (m ∷ older) (k.0, refl, k.1, h) k.2)

-- Links with the oldest first are the chain from the newest on, and back.
pub linked_chain : (c : List ℕ) (rs : List Framed) (l : Link) (ls : List Link) → Linked c rs None (l ∷ ls) → IsChain c rs (last_place l ls) (reverse (l ∷ ls))
linked_chain c rs l ls k = subst (IsChain c rs (last_place l ls)) (cons_reverse l ls [] ∙ append-nil (reverse (l ∷ ls))) (chain_onto c rs ls l [] (k.0, refl, k.1) k.2)

chain_from : (c : List ℕ) (rs : List Framed) (at : ℕ) (l : Link) (ls newer : List Link) → IsChain c rs at (l ∷ ls) → Linked c rs (Some l.frame.at) newer → Linked c rs None (reverse (l ∷ ls) ++ newer)
chain_from c rs at l [] newer h k = (h.0, h.2, k)
chain_from c rs at l (m ∷ ls) newer h k =
    let s : StepsTo l.frame.at l.delta m.frame.at = subst (λ z. StepsTo z l.delta m.frame.at) (sym h.1) h.2 in
    subst (Linked c rs None) (cons_reverse l (m ∷ ls) newer) (chain_from c rs m.frame.at m ls (l ∷ newer) h.3 (h.0, s, k))

pub chain_linked : (c : List ℕ) (rs : List Framed) (at : ℕ) (ls : List Link) → IsChain c rs at ls → Linked c rs None (reverse ls)
chain_linked c rs at [] h = absurd h
chain_linked c rs at (l ∷ ls) h = subst (Linked c rs None) (append-nil (reverse (l ∷ ls))) (chain_from c rs at l ls [] h tt)
