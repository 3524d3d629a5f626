-- How bytes in hand grow.
use Rattle.std.proofs.Common.{◌≡◌, ℕ, ◌+◌, ◌≤◌, refl, sym, ◌∙◌, ap, subst, List, ◌++◌, take, drop, length, Option, None, Some, option_map, IfSome, append_assoc}
use Rattle.std.proofs.lemmas.List.{take-append-drop, length-take-le}
use borrow.Rule.Slice.PartMut.{put_mid}
use Rattle.jfr_outside.specs.World.{World, IfKnown, taken}
use Rattle.jfr_header.specs.Taking.{Moved}
use Rattle.jfr_header.proofs.Numbers.{put_front}

-- A read gave these first bytes.
abbrev pub Reads : ℕ → List ℕ → World → Type 0
Reads n buf w = IfSome w.input (λ left. (n ≤ length left) × (take n buf ≡ take n left))

kept_one : (bytes buf : List ℕ) (n : ℕ) (o : Option (List ℕ)) → IfSome o (λ left. (n ≤ length left) × (take n buf ≡ take n left))
    → option_map (λ l. (bytes ++ take n buf) ++ l) (option_map (drop n) o) ≡ option_map (λ l. bytes ++ l) o
kept_one bytes buf n None h = refl
kept_one bytes buf n (Some left) h =
    ap Some (append_assoc bytes (take n buf) (drop n left) ∙ ap (λ (l : List ℕ). bytes ++ l) (ap (λ (l : List ℕ). l ++ drop n left) h.1 ∙ take-append-drop n left))

moved_one : (a d : Option World) (bytes buf : List ℕ) (n : ℕ) → d ≡ option_map (taken n) a → IfSome a (Reads n buf) → IfKnown a d (Moved bytes (bytes ++ take n buf))
moved_one None d bytes buf n e h = tt
moved_one (Some w) d bytes buf n e h =
    subst (λ (o : Option World). IfKnown (Some w) o (Moved bytes (bytes ++ take n buf))) (sym e) (record { files = refl; output = refl; kept = kept_one bytes buf n w.input h })

in_hand : (count n k : ℕ) (memory into : List ℕ) → count ≤ length memory → n ≤ length into → take (count + n) (put_mid count k memory into) ≡ take count memory ++ take n into
in_hand count n k memory into h i =
    ap (λ (l : List ℕ). take (count + n) (put_mid count k memory l)) (sym (take-append-drop n into))
    ∙ put_front count n k memory (take n into) (drop n into) h (length-take-le n into i)

-- Bytes that were read into the room after others are added to the buffer.
pub moved_read : (a d : Option World) (bytes memory into : List ℕ) (count n k : ℕ) → take count memory ≡ bytes → count ≤ length memory → n ≤ length into → d ≡ option_map (taken n) a
    → IfSome a (Reads n into)
    → IfKnown a d (Moved bytes (take (count + n) (put_mid count k memory into)))
moved_read a d bytes memory into count n k is h i e reads =
    subst (λ (l : List ℕ). IfKnown a d (Moved bytes l)) (sym (in_hand count n k memory into h i ∙ ap (λ (l : List ℕ). l ++ take n into) is)) (moved_one a d bytes into n e reads)
