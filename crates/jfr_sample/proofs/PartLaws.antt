-- The parts of a sample: one event or entry more, and how long they are.
use Rattle.std.proofs.Common.{◌≡◌, ℕ, zero, suc, ◌+◌, List, [], ◌∷◌, ◌++◌, sym, ◌∙◌, ap, arith, append-nil, append_assoc, add-one}
use Rattle.std.specs.List.{flat_map, range_with_len}
use Rattle.std.proofs.lemmas.List.Concat.{flat_map-append}
use Rattle.jfr_sample.specs.Sample.{draw, next_draw, event, event_by}

-- One number more.
range_more : (a n : ℕ) → range_with_len a (suc n) ≡ range_with_len a n ++ (a + n) ∷ []
range_more a zero = ap (λ (k : ℕ). k ∷ []) (omega arith)
range_more a (suc n) = ap (λ (l : List ℕ). a ∷ l) (range_more (a + 1) n ∙ ap (λ (k : ℕ). range_with_len (a + 1) n ++ k ∷ []) (omega arith))

-- The parts of the numbers from 1 on, and of one number more.
pub parts_more : (part : ℕ → List ℕ) (n : ℕ) → flat_map part (range_with_len 1 (n + 1)) ≡ flat_map part (range_with_len 1 n) ++ part (n + 1)
parts_more part n =
    ap (λ (k : ℕ). flat_map part (range_with_len 1 k)) (add-one n)
    ∙ ap (flat_map part) (range_more 1 n)
    ∙ flat_map-append part (range_with_len 1 n) ((1 + n) ∷ [])
    ∙ ap (λ (l : List ℕ). flat_map part (range_with_len 1 n) ++ l) (append-nil (part (1 + n)) ∙ ap part (omega arith))

-- One draw more.
pub draw_more : (seed n : ℕ) → draw seed (n + 1) ≡ next_draw (draw seed n)
unfolding draw
draw_more seed n = ap (draw seed) (add-one n)

-- One part more, after others.
pub parts_next : (part : ℕ → List ℕ) (n : ℕ) (start before added : List ℕ) → before ≡ start ++ flat_map part (range_with_len 1 n) → added ≡ part (n + 1)
    → before ++ added ≡ start ++ flat_map part (range_with_len 1 (n + 1))
parts_next part n start before added so_far is =
    ap (λ (l : List ℕ). l ++ added) so_far
    ∙ append_assoc start (flat_map part (range_with_len 1 n)) added
    ∙ ap (λ (l : List ℕ). start ++ (flat_map part (range_with_len 1 n) ++ l)) is
    ∙ ap (λ (l : List ℕ). start ++ l) (sym (parts_more part n))

-- The event of a draw.
pub event_of_draw : (seed events i x : ℕ) → x ≡ draw seed i → event_by events i x ≡ event seed events i
unfolding event
event_of_draw seed events i x is = ap (event_by events i) is
