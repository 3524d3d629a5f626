-- A recording's chunks, one by one.
use Rattle.std.proofs.Common.{◌≡◌, ℕ, zero, suc, ◌+◌, ◌≤◌, ◌<◌, refl, sym, ◌∙◌, ap, subst, Bool, false, List, [], ◌∷◌, ◌++◌, take, drop, length, Option, None, Some, arith}
use Rattle.std.proofs.lemmas.Grind.{common_steps}
use Rattle.std.proofs.lemmas.List.{take-append-drop, length-take-le}
use Rattle.std.specs.List.{AllByRecursion}
use Rattle.jfr_base.specs.declared.flaw.Flaw.{Flaw}
use Rattle.jfr_header.specs.Fronts.{Front, Bad, End, Chunk, front, headed, sized, header_flaw, size_of, Whole}
use Rattle.jfr_header.specs.Cuts.{more, cut_by, cut_within, cut, joined, AreCut}
use Rattle.jfr_header.proofs.Steps.{size_bounds}
use Rattle.jfr_header.proofs.Cutting.{Fits, front_fits, cut_end, cut_bad, cut_chunk}

-- A chunk at the front is whole, and these are its bytes.
abbrev pub Begins : List ℕ → Front → Type 0
Begins rest (Bad f) = Unit {0}
Begins rest End = rest ≡ []
Begins rest (Chunk c) = Whole c × (take (length c) rest ≡ c)

take_take : (n m : ℕ) (x : List ℕ) → n ≤ m → take n (take m x) ≡ take n x
take_take n m x h = grind (arith, common_steps)

begins_whole : (rest : List ℕ) (n : ℕ) → 68 ≤ n → n ≤ length rest → header_flaw (take 68 rest) ≡ None → size_of (take 68 rest) ≡ n → Begins rest (Chunk (take n rest))
begins_whole rest n h k e z =
    let l : length (take n rest) ≡ n = length-take-le n rest k in
    let t : take 68 (take n rest) ≡ take 68 rest = take_take 68 n rest h in
    (record { long = omega (arith, l, h); flawless = ap header_flaw t ∙ e; size = ap size_of t ∙ z ∙ sym l }, ap (λ (m : ℕ). take m rest) l)

begins_sized : (rest : List ℕ) → header_flaw (take 68 rest) ≡ None → Begins rest (sized rest (size_of (take 68 rest)))
begins_sized rest e =
    let b = size_bounds (take 68 rest) e in
    let w : size_of (take 68 rest) ≤ length rest → Begins rest (Chunk (take (size_of (take 68 rest)) rest)) = λ k. begins_whole rest (size_of (take 68 rest)) b.0 k e refl in
    by_size (size_of (take 68 rest)) w
  where
    by_size : (n : ℕ) → (n ≤ length rest → Begins rest (Chunk (take n rest))) → Begins rest (sized rest n)
    by_size n w = grind (arith, common_steps, w)

begins_headed : (rest : List ℕ) (o : Option Flaw) → header_flaw (take 68 rest) ≡ o → Begins rest (headed rest o)
begins_headed rest (Some f) e = tt
begins_headed rest None e = begins_sized rest e

empty : (x : List ℕ) → length x ≡ 0 → x ≡ []
empty [] e = refl
empty (b ∷ bs) e = absurd (omega (arith, e))

pub front_begins : (rest : List ℕ) (s : ℕ) (f : Bool) → Begins rest (front rest s f)
unfolding front
front_begins rest s f = let h = begins_headed rest (header_flaw (take 68 rest)) refl in let z = empty rest in grind (arith, common_steps, h, z)

-- The chunks of a recording can be taken from the front one at a time.
are_cut_by : (n : ℕ) (rest : List ℕ) (s : ℕ) (f : Bool) (x : Front) → front rest s f ≡ x → Fits rest x → length rest < suc n
    → ((r : List ℕ) (t : ℕ) → length r < n → AreCut (cut_within n r t false).chunks (cut_within n r t false).flaw r t false)
    → AreCut (cut_by x (λ c. cut_within n (drop (length c) rest) (s + length c) false)).chunks (cut_by x (λ c. cut_within n (drop (length c) rest) (s + length c) false)).flaw rest s f
are_cut_by n rest s f (Bad b) e k l h = e
are_cut_by n rest s f End e k l h = e
are_cut_by n rest s f (Chunk c) e k l h =
    let d : length (drop (length c) rest) < length rest = grind (arith, common_steps) in
    (e, h (drop (length c) rest) (s + length c) (omega (arith, d, l)))

are_cut_within : (n : ℕ) (rest : List ℕ) (s : ℕ) (f : Bool) → length rest < n → AreCut (cut_within n rest s f).chunks (cut_within n rest s f).flaw rest s f
unfolding cut_within
are_cut_within zero rest s f l = absurd (omega (arith, l))
are_cut_within (suc n) rest s f l = are_cut_by n rest s f (front rest s f) refl (front_fits rest s f) l (λ r t. are_cut_within n r t false)

pub are_cut : (rest : List ℕ) (s : ℕ) (f : Bool) → AreCut (cut rest s f).chunks (cut rest s f).flaw rest s f
unfolding cut
are_cut rest s f = are_cut_within (suc (length rest)) rest s f (omega arith)

parts : (rest c : List ℕ) → take (length c) rest ≡ c → rest ≡ c ++ drop (length c) rest
parts rest c e = sym (take-append-drop (length c) rest) ∙ ap (λ (l : List ℕ). l ++ drop (length c) rest) e

-- Chunks that can be taken from the front one at a time are those of the recording.
pub cut_is : (cs : List (List ℕ)) (flaw : Option Flaw) (rest : List ℕ) (s : ℕ) (f : Bool) → AreCut cs flaw rest s f → cut rest s f ≡ record { chunks = cs; flaw = flaw }
cut_is [] None rest s f a = cut_end rest s f a
cut_is [] (Some b) rest s f a = cut_bad rest s f b a
cut_is (c ∷ cs) flaw rest s f a =
    let b : Begins rest (Chunk c) = subst (Begins rest) a.0 (front_begins rest s f) in
    cut_chunk rest c (drop (length c) rest) s f a.0 (parts rest c b.1) ∙ ap (more c) (cut_is cs flaw (drop (length c) rest) (s + length c) false a.1)

pub joined_all : (cs : List (List ℕ)) (rest : List ℕ) (s : ℕ) (f : Bool) → AreCut cs None rest s f → joined cs ≡ rest
joined_all [] rest s f a = sym (subst (Begins rest) a (front_begins rest s f))
joined_all (c ∷ cs) rest s f a =
    let b : Begins rest (Chunk c) = subst (Begins rest) a.0 (front_begins rest s f) in
    ap (λ (l : List ℕ). c ++ l) (joined_all cs (drop (length c) rest) (s + length c) false a.1) ∙ sym (parts rest c b.1)

pub all_whole : (cs : List (List ℕ)) (flaw : Option Flaw) (rest : List ℕ) (s : ℕ) (f : Bool) → AreCut cs flaw rest s f → AllByRecursion Whole cs
all_whole [] flaw rest s f a = tt
all_whole (c ∷ cs) flaw rest s f a =
    let b : Begins rest (Chunk c) = subst (Begins rest) a.0 (front_begins rest s f) in
    (b.0, all_whole cs flaw (drop (length c) rest) (s + length c) false a.1)
