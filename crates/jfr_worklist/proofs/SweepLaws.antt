-- Sweeps come to rest at what the roots lead to, from number to number.
use Rattle.std.specs.Prelude.{◌≡◌, ◌↔◌, ℕ, zero, suc, ◌<◌, Bool, true, false, List, [], ◌∷◌, length, replicate, slice_set, ◌⊎◌}
use Rattle.std.proofs.Common.{ap, arith, refl, sym, ◌∙◌, inl, inr, subst}
use Rattle.std.proofs.lemmas.List.{length-replicate}
use Rattle.jfr_worklist.specs.Marks.{IsMarked, marked_at, led_to, swept}
use Rattle.jfr_worklist.specs.Members.{In}
use Rattle.jfr_worklist.proofs.Members.{in_left, in_right, in_cases}
use Rattle.jfr_worklist.proofs.MarkLaws.{all_here, all_only, all_size, none_marked, swept_size}
use Rattle.jfr_worklist.proofs.Rounds.{Grows, rounds, rests}

pub data Reach (next : ℕ → List ℕ) (roots : List ℕ) : ℕ → Type 0 where
  root : {i : ℕ} → In roots i → Reach next roots i
  more : {i j : ℕ} → Reach next roots j → In (next j) i → Reach next roots i

abbrev pub AllBelow : ℕ → List ℕ → Type 0
AllBelow n xs = (i : ℕ) → In xs i → i < n

grows_same : (ms : List Bool) → Grows ms ms
grows_same [] = tt
grows_same (m ∷ ms) = (λ e. e, grows_same ms)

grows_set : (ms : List Bool) (j : ℕ) → Grows ms (slice_set ms j true)
grows_set [] j = tt
grows_set (m ∷ ms) zero = (λ e. refl, grows_same ms)
grows_set (m ∷ ms) (suc j) = (λ e. e, grows_set ms j)

grows_then : (a b c : List Bool) → Grows a b → Grows b c → Grows a c
grows_then [] [] [] g h = tt
grows_then [] (y ∷ b) c g h = absurd g
grows_then (x ∷ a) [] c g h = absurd g
grows_then [] [] (z ∷ c) g h = absurd h
grows_then (x ∷ a) (y ∷ b) [] g h = absurd h
grows_then (x ∷ a) (y ∷ b) (z ∷ c) g h = (λ e. h.0 (g.0 e), grows_then a b c g.1 h.1)

grows_all : (ms : List Bool) (ts : List ℕ) → Grows ms (marked_at ms ts)
grows_all ms [] = grows_same ms
grows_all ms (t ∷ ts) = grows_then ms (slice_set ms t true) (marked_at (slice_set ms t true) ts) (grows_set ms t) (grows_all (slice_set ms t true) ts)

grows_marked : (a b : List Bool) (i : ℕ) → Grows a b → IsMarked a i → IsMarked b i
grows_marked [] [] i g m = cc
grows_marked [] (y ∷ b) i g m = absurd g
grows_marked (x ∷ a) [] i g m = absurd g
grows_marked (x ∷ a) (y ∷ b) zero g m = g.0 m
grows_marked (x ∷ a) (y ∷ b) (suc i) g m = grows_marked a b i g.1 m

led_in : (ms : List Bool) (next : ℕ → List ℕ) (j i : ℕ) → IsMarked ms j → In (next j) i → In (led_to ms next) i
led_in [] next j i m k = cc
led_in (true ∷ ms) next zero i m k = in_left (next 0) (led_to ms (λ i. next (suc i))) i k
led_in (false ∷ ms) next zero i m k = cc
led_in (true ∷ ms) next (suc j) i m k = in_right (next 0) (led_to ms (λ i. next (suc i))) i (led_in ms (λ i. next (suc i)) j i m k)
led_in (false ∷ ms) next (suc j) i m k = led_in ms (λ i. next (suc i)) j i m k

in_led : (ms : List Bool) (next : ℕ → List ℕ) (i : ℕ) → In (led_to ms next) i → (j : ℕ) × IsMarked ms j × In (next j) i
in_led [] next i k = absurd k
in_led (true ∷ ms) next i k = by_case (in_cases (next 0) (led_to ms (λ i. next (suc i))) i k) (λ k. in_led ms (λ i. next (suc i)) i k)
  where
    by_case : In (next 0) i ⊎ In (led_to ms (λ i. next (suc i))) i → (In (led_to ms (λ i. next (suc i))) i → (j : ℕ) × IsMarked ms j × In (next (suc j)) i)
        → (j : ℕ) × IsMarked (true ∷ ms) j × In (next j) i
    by_case (inl k) f = (0, refl, k)
    by_case (inr k) f = let r = f k in (suc r.0, r.1, r.2)
in_led (false ∷ ms) next i k = let r = in_led ms (λ i. next (suc i)) i k in (suc r.0, r.1, r.2)

module _ (n : ℕ) (next : ℕ → List ℕ) (roots : List ℕ) (below : AllBelow n roots) (kept : (j : ℕ) → AllBelow n (next j)) where
  sound_all : (ms : List Bool) (ts : List ℕ) → ((i : ℕ) → IsMarked ms i → Reach next roots i) → ((i : ℕ) → In ts i → Reach next roots i) → (i : ℕ) → IsMarked (marked_at ms ts) i → Reach next roots i
  sound_all ms ts f g i m = by_case (all_only ms ts i m)
    where
      by_case : IsMarked ms i ⊎ In ts i → Reach next roots i
      by_case (inl m) = f i m
      by_case (inr j) = g i j

  sound_swept : (k : ℕ) (ms : List Bool) → ((i : ℕ) → IsMarked ms i → Reach next roots i) → (i : ℕ) → IsMarked (swept k next ms) i → Reach next roots i
  sound_swept zero ms f i m = f i m
  sound_swept (suc k) ms f i m = sound_all (swept k next ms) (led_to (swept k next ms) next) (sound_swept k ms f)
      (λ i j. (let r = in_led (swept k next ms) next i j in more (sound_swept k ms f r.0 r.1) r.2)) i m

  same_rounds : (k : ℕ) (ms : List Bool) → swept k next ms ≡ rounds (λ ms. marked_at ms (led_to ms next)) (λ ms. grows_all ms (led_to ms next)) k ms
  same_rounds zero ms = refl
  same_rounds (suc k) ms = ap (λ ms. marked_at ms (led_to ms next)) (same_rounds k ms)

  grows_swept : (k : ℕ) (ms : List Bool) → Grows ms (swept k next ms)
  grows_swept zero ms = grows_same ms
  grows_swept (suc k) ms = grows_then ms (swept k next ms) (swept (suc k) next ms) (grows_swept k ms) (grows_all (swept k next ms) (led_to (swept k next ms) next))

  at_rest : (ms : List Bool) → length ms ≡ n → marked_at (swept n next ms) (led_to (swept n next ms) next) ≡ swept n next ms
  at_rest ms l =
      let r = rests (λ ms. marked_at ms (led_to ms next)) (λ ms. grows_all ms (led_to ms next)) ms in
      let e : swept n next ms ≡ rounds (λ ms. marked_at ms (led_to ms next)) (λ ms. grows_all ms (led_to ms next)) (length ms) ms = ap (λ k. swept k next ms) (sym l) ∙ same_rounds (length ms) ms in
      ap (λ z. marked_at z (led_to z next)) e ∙ (r ∙ sym e)

  complete : (ms : List Bool) → length ms ≡ n → ((i : ℕ) → In roots i → IsMarked ms i) → {i : ℕ} → Reach next roots i → IsMarked (swept n next ms) i
  complete ms l f {i} (root j) = grows_marked ms (swept n next ms) i (grows_swept n ms) (f i j)
  complete ms l f {i} (more {j = j} r k) =
      let m = complete ms l f r in
      let s = led_in (swept n next ms) next j i m k in
      let b : i < n = kept j i k in
      let z = swept_size next n ms in
      subst (λ x. IsMarked x i) (at_rest ms l) (all_here (swept n next ms) (led_to (swept n next ms) next) i (omega arith) s)

  -- Marked is exactly what the roots lead to.
  pub marks_reach : (i : ℕ) → IsMarked (swept n next (marked_at (replicate n false) roots)) i ↔ Reach next roots i
  marks_reach i =
      let l : length (marked_at (replicate n false) roots) ≡ n = all_size (replicate n false) roots ∙ length-replicate n false in (
        sound_swept n (marked_at (replicate n false) roots) (sound_all (replicate n false) roots (λ i m. absurd (none_marked n i m)) (λ i j. root j)) i,
        λ r. complete (marked_at (replicate n false) roots) l
            (λ i j. all_here (replicate n false) roots i (let b : i < n = below i j in let z : length (replicate n false) ≡ n = length-replicate n false in omega arith) j) r,
      )
