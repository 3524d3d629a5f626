-- Pieces, one after another.
use Rattle.std.specs.Prelude.{◌≡◌, ℕ, zero, suc, ◌+◌, ◌-◌, ◌<◌, ◌≤◌, List, [], ◌∷◌, ◌++◌, length, take, drop, slice_range, Vec, vec_len, vec_capacity}
use Rattle.std.specs.Global.{Global}
use Rattle.std.specs.List.{flat_map, AllByRecursion}
use Rattle.std.proofs.Common.{ap, arith, refl, sym, ◌∙◌, subst, get_or, drop-cons, add-one, append_assoc, length-append}
use Rattle.std.proofs.Math.Seq.{drop-append_seam}
use Rattle.std.proofs.lemmas.Grind.{flat_map-append}
use Rattle.std.proofs.lemmas.List.{take_all, drop_all, take-append-le, drop-append-le, append-nil, length-drop}
use Rattle.jfr_base.proofs.Ranges.{range_split}
use Rattle.jfr_chunk.proofs.AllLaws.{all_append}
use Rattle.jfr_scrub.specs.declared.piece.MadePart.{MadePart}
use Rattle.jfr_scrub.specs.declared.piece.MadePart.TheVariants.{ChunkHeader}
use Rattle.jfr_scrub.specs.declared.piece.Range.{Range}
use Rattle.jfr_scrub.specs.declared.piece.Range.TheVariants as ranges
use Rattle.jfr_scrub.specs.Pieces.{IsHeaded, IsHeader, IsMadeBytes, IsMadeBytesIn, PieceList, OutputSoFar, Lies, joined, output_so_far, more, range_bytes}

-- What is made later changes no range of what was made.
pub range_front : (xs ys : List ℕ) (p q : ℕ) → p ≤ q → q ≤ length xs → slice_range (xs ++ ys) p q ≡ slice_range xs p q
range_front xs ys p q h i =
    ap (take (q - p)) (drop-append-le p xs ys (omega arith)) ∙ take-append-le (q - p) (drop p xs) ys (simp length-drop (omega arith))

-- The range of what is made last.
pub range_last : (xs ys : List ℕ) → slice_range (xs ++ ys) (length xs) (length (xs ++ ys)) ≡ ys
range_last xs ys =
    ap (take (length (xs ++ ys) - length xs)) (drop-append_seam xs ys) ∙ take_all (length (xs ++ ys) - length xs) ys (omega (arith, length-append xs ys))

pub lies_more : (n m k : ℕ) (ps : List Range) → m ≤ k → AllByRecursion (Lies n m) ps → AllByRecursion (Lies n k) ps
lies_more n m k [] h a = tt
lies_more n m k (ranges.Copied from to ∷ ps) h a = (a.0, lies_more n m k ps h a.1)
lies_more n m k (ranges.Made part from to ∷ ps) h a = ((a.0.0, omega (arith, a.0.1)), lies_more n m k ps h a.1)

pub same_pieces : (c made x : List ℕ) (ps : List Range) → AllByRecursion (Lies (length c) (length made)) ps → flat_map (range_bytes c (made ++ x)) ps ≡ flat_map (range_bytes c made) ps
same_pieces c made x [] a = refl
same_pieces c made x (ranges.Copied from to ∷ ps) a = ap (λ z. slice_range c from to ++ z) (same_pieces c made x ps a.1)
same_pieces c made x (ranges.Made part from to ∷ ps) a =
    ap (λ z. z ++ flat_map (range_bytes c (made ++ x)) ps) (range_front made x from to a.0.0 a.0.1) ∙ ap (λ z. slice_range made from to ++ z) (same_pieces c made x ps a.1)

made_last : (made x more : List ℕ) (from to : ℕ) → more ≡ made ++ x → from ≡ length made → to ≡ length more → slice_range more from to ≡ x
made_last made x more from to e f t =
    let g : to ≡ length (made ++ x) = t ∙ ap length e in
    ap (λ z. slice_range z from to) e ∙ (ap (λ n. slice_range (made ++ x) n to) f ∙ (ap (λ n. slice_range (made ++ x) (length made) n) g ∙ range_last made x))

-- Bytes that are made last, as the last piece.
pub put_last : (c made x more : List ℕ) (ps qs : List Range) (part : MadePart) (from to : ℕ) → AllByRecursion (Lies (length c) (length made)) ps → more ≡ made ++ x → from ≡ length made
    → to ≡ length more →
    qs ≡ ps ++ ranges.Made part from to ∷ [] → flat_map (range_bytes c more) qs ≡ flat_map (range_bytes c made) ps ++ x
put_last c made x more ps qs part from to a e f t q =
    ap (flat_map (range_bytes c more)) q ∙ (flat_map-append (range_bytes c more) ps (ranges.Made part from to ∷ [])
    ∙ (ap (λ z. z ++ (slice_range more from to ++ [])) (ap (λ z. flat_map (range_bytes c z) ps) e ∙ same_pieces c made x ps a)
    ∙ ap (λ z. flat_map (range_bytes c made) ps ++ z) (append-nil (slice_range more from to) ∙ made_last made x more from to e f t)))

-- A made piece added in front adds its bytes in front.
pub put_first : (c made x more : List ℕ) (ps qs : List Range) (part : MadePart) (from to : ℕ) → AllByRecursion (Lies (length c) (length made)) ps → more ≡ made ++ x → from ≡ length made
    → to ≡ length more →
    qs ≡ ranges.Made part from to ∷ ps → flat_map (range_bytes c more) qs ≡ x ++ flat_map (range_bytes c made) ps
put_first c made x more ps qs part from to a e f t q =
    ap (flat_map (range_bytes c more)) q
    ∙ (ap (λ z. slice_range more from to ++ z) (ap (λ z. flat_map (range_bytes c z) ps) e ∙ same_pieces c made x ps a)
    ∙ ap (λ z. z ++ flat_map (range_bytes c made) ps) (made_last made x more from to e f t))

-- The first pieces are written, and there is room for the others.
pub record Writing (c made : List ℕ) (ps : List Range) (before : List ℕ) (i : ℕ) (out : Vec ℕ Global) : Type 0 where
  pub items : out.items ++ flat_map (range_bytes c made) (drop i ps) ≡ before ++ flat_map (range_bytes c made) ps
  pub room : vec_len out + length (flat_map (range_bytes c made) (drop i ps)) ≤ vec_capacity out

drop_get : (ps : List Range) (i : ℕ) (d : Range) → i < length ps → drop i ps ≡ get_or ps i d ∷ drop (i + 1) ps
drop_get ps i d h = drop-cons ps i d h ∙ ap (λ n. get_or ps i d ∷ drop n ps) (sym (add-one i))

pub writing_none : (c made : List ℕ) (ps : List Range) (out : Vec ℕ Global) → vec_len out + length (flat_map (range_bytes c made) ps) ≤ vec_capacity out → Writing c made ps out.items 0 out
writing_none c made ps out h = record { items = refl; room = h }

pub writing_room : (c made : List ℕ) (ps : List Range) (before : List ℕ) (i : ℕ) (out : Vec ℕ Global) (d : Range) → Writing c made ps before i out → i < length ps →
    vec_len out + length (range_bytes c made (get_or ps i d)) ≤ vec_capacity out
writing_room c made ps before i out d w h =
    let p = get_or ps i d in
    let l : length (flat_map (range_bytes c made) (drop i ps)) ≡ length (range_bytes c made p) + length (flat_map (range_bytes c made) (drop (i + 1) ps)) =
    ap (λ z. length (flat_map (range_bytes c made) z)) (drop_get ps i d h) ∙ length-append (range_bytes c made p) (flat_map (range_bytes c made) (drop (i + 1) ps)) in
    let r : vec_len out + length (flat_map (range_bytes c made) (drop i ps)) ≤ vec_capacity out = w.room in
    omega arith

pub writing_next : (c made : List ℕ) (ps : List Range) (before : List ℕ) (i : ℕ) (out new : Vec ℕ Global) (d : Range) → Writing c made ps before i out → i < length ps →
    new.items ≡ out.items ++ range_bytes c made (get_or ps i d) → vec_len new ≡ vec_len out + length
    (range_bytes c made (get_or ps i d)) → vec_capacity out ≤ vec_capacity new → Writing c made ps before (i + 1) new
writing_next c made ps before i out new d w h f v g =
    let p = get_or ps i d in
    let e = drop_get ps i d h in
    let l : length (flat_map (range_bytes c made) (drop i ps)) ≡ length (range_bytes c made p) + length (flat_map (range_bytes c made) (drop (i + 1) ps)) =
    ap (λ z. length (flat_map (range_bytes c made) z)) e ∙ length-append (range_bytes c made p) (flat_map (range_bytes c made) (drop (i + 1) ps)) in
    let r : vec_len out + length (flat_map (range_bytes c made) (drop i ps)) ≤ vec_capacity out = w.room in
    record {
      items = ap (λ z. z ++ flat_map (range_bytes c made) (drop (i + 1) ps)) f
          ∙ (append_assoc out.items (range_bytes c made p) (flat_map (range_bytes c made) (drop (i + 1) ps)) ∙ (ap (λ z. out.items ++ flat_map (range_bytes c made) z) (sym e) ∙ w.items));
      room = omega arith;
    }

pub writing_all : (c made : List ℕ) (ps : List Range) (before : List ℕ) (i : ℕ) (out : Vec ℕ Global) → Writing c made ps before i out → length ps ≤ i
    → out.items ≡ before ++ flat_map (range_bytes c made) ps
writing_all c made ps before i out w h = sym (ap (λ z. out.items ++ flat_map (range_bytes c made) z) (drop_all i ps h) ∙ append-nil out.items) ∙ w.items

pub lies_get : (n m : ℕ) (ps : List Range) (i : ℕ) (d : Range) → AllByRecursion (Lies n m) ps → i < length ps → Lies n m (get_or ps i d)
lies_get n m [] i d a h = absurd (omega arith)
lies_get n m (p ∷ ps) zero d a h = a.0
lies_get n m (p ∷ ps) (suc i) d a h = lies_get n m ps i d a.1 (omega arith)

-- The pieces, followed by a range of the chunk.
abbrev pub pending : PieceList → ℕ → ℕ → PieceList
pending l from to = record { chunk = l.chunk; made = l.made; pieces = l.pieces ++ ranges.Copied from to ∷ [] }

pub pending_bytes : (l : PieceList) (from to : ℕ) → joined (pending l from to) ≡ joined l ++ slice_range l.chunk from to
pending_bytes l from to =
    flat_map-append (range_bytes l.chunk l.made) l.pieces (ranges.Copied from to ∷ []) ∙ ap (λ z. joined l ++ z) (append-nil (slice_range l.chunk from to))

laying_pending : (l : PieceList) (from to : ℕ) → output_so_far (pending l from to) ≡ record { chunk = l.chunk; bytes = joined l ++ slice_range l.chunk from to }
laying_pending l from to = λ i. record { chunk = l.chunk; bytes = pending_bytes l from to i }

-- A range that continues the last one.
pub longer_laid : (l o : PieceList) (from middle at to : ℕ) → pending l from middle ≡ o → at ≡ middle → from ≤ middle → at ≤ to
    → output_so_far (pending l from to) ≡ more (output_so_far o) (slice_range o.chunk at to)
longer_laid l o from middle at to v e h i =
    let c = l.chunk in
    let split : joined l ++ slice_range c from to ≡ (joined l ++ slice_range c from middle) ++ slice_range c at to =
    ap (λ z. joined l ++ z) (range_split c from middle to h (omega arith))
    ∙ (sym (append_assoc (joined l) (slice_range c from middle) (slice_range c middle to)) ∙ ap (λ n. (joined l ++ slice_range c from middle) ++ slice_range c n to) (sym e)) in
    laying_pending l from to ∙ ((λ i. record { chunk = c; bytes = split i })
    ∙ (ap (λ z. more z (slice_range c at to)) (sym (laying_pending l from middle)) ∙ ap (λ (z : PieceList). more (output_so_far z) (slice_range z.chunk at to)) v))

-- The last range is a piece now.
settled : (l m o : PieceList) (from to : ℕ) → pending l from to ≡ o → m.chunk ≡ l.chunk → joined m ≡ joined l ++ slice_range l.chunk from to → output_so_far m ≡ output_so_far o
settled l m o from to v e f = (λ i. record { chunk = e i; bytes = f i }) ∙ (sym (laying_pending l from to) ∙ ap output_so_far v)

-- Another range.
pub next_laid : (l m o : PieceList) (from to at end : ℕ) → pending l from to ≡ o → m.chunk ≡ l.chunk → joined m ≡ joined l ++ slice_range l.chunk from to
    → output_so_far (pending m at end) ≡ more (output_so_far o) (slice_range o.chunk at end)
next_laid l m o from to at end v e f = laying_pending m at end ∙ ap (λ (z : OutputSoFar). more z (slice_range z.chunk at end)) (settled l m o from to v e f)

-- Bytes that are made after the last range.
pub made_laid : (l m n o : PieceList) (x : List ℕ) (from to : ℕ) → pending l from to ≡ o → m.chunk ≡ l.chunk → joined m ≡ joined l ++ slice_range l.chunk from to → n.chunk ≡ m.chunk
    → joined n ≡ joined m ++ x → output_so_far (pending n 0 0) ≡ more (output_so_far o) x
made_laid l m n o x from to v e f g h =
    laying_pending n 0 0 ∙ ((λ i. record { chunk = g i; bytes = (append-nil (joined n) ∙ h) i }) ∙ ap (λ z. more z x) (settled l m o from to v e f))

-- The bytes before and with the last range.
pub finished : (l o : PieceList) (front all : List ℕ) (from to : ℕ) → pending l from to ≡ o → all ≡ front ++ (joined l ++ slice_range l.chunk from to) → all ≡ front ++ joined o
finished l o front all from to v e = e ∙ ap (λ z. front ++ z) (sym (pending_bytes l from to) ∙ ap joined v)

-- One more range of the chunk lies in it, and what is made last in what is made.
pub lies_range : (n m : ℕ) (ps qs : List Range) (from to : ℕ) → AllByRecursion (Lies n m) ps → qs ≡ ps ++ ranges.Copied from to ∷ [] → from ≤ to → to ≤ n → AllByRecursion (Lies n m) qs
lies_range n m ps qs from to a q h i = subst (AllByRecursion (Lies n m)) (sym q) (all_append (Lies n m) ps (ranges.Copied from to ∷ []) a ((h, i), tt))

pub lies_last : (n : ℕ) (made x more : List ℕ) (ps qs : List Range) (part : MadePart) (from to : ℕ) → AllByRecursion (Lies n (length made)) ps → more ≡ made ++ x → from ≡ length made
    → to ≡ length more →
    qs ≡ ps ++ ranges.Made part from to ∷ [] → AllByRecursion (Lies n (length more)) qs
lies_last n made x more ps qs part from to a e f t q =
    let l : length more ≡ length made + length x = ap length e ∙ length-append made x in
    subst (AllByRecursion (Lies n (length more))) (sym q)
    (all_append (Lies n (length more)) ps (ranges.Made part from to ∷ []) (lies_more n (length made) (length more) ps (omega arith) a) ((omega arith, omega arith), tt))

-- What is made later changes no number.
pub numbers_more : (n : ℕ) (made x : List ℕ) (ps : List Range) → AllByRecursion (Lies n (length made)) ps → AllByRecursion (IsMadeBytesIn made) ps → AllByRecursion (IsMadeBytesIn (made ++ x)) ps
numbers_more n made x [] a b = tt
numbers_more n made x (ranges.Copied from to ∷ ps) a b = (tt, numbers_more n made x ps a.1 b.1)
numbers_more n made x (ranges.Made part from to ∷ ps) a b = (subst (IsMadeBytes part) (sym (range_front made x from to a.0.0 a.0.1)) b.0, numbers_more n made x ps a.1 b.1)

-- One more number.
pub numbers_last : (n : ℕ) (made x more : List ℕ) (ps qs : List Range) (part : MadePart) (from to : ℕ) → AllByRecursion (Lies n (length made)) ps → more ≡ made ++ x → from ≡ length made
    → to ≡ length more →
    qs ≡ ps ++ ranges.Made part from to ∷ [] → IsMadeBytes part x → AllByRecursion (IsMadeBytesIn made) ps → AllByRecursion (IsMadeBytesIn more) qs
numbers_last n made x more ps qs part from to a e f t q i b =
    let old : AllByRecursion (IsMadeBytesIn more) ps = subst (λ z. AllByRecursion (IsMadeBytesIn z) ps) (sym e) (numbers_more n made x ps a b) in
    subst (AllByRecursion (IsMadeBytesIn more)) (sym q)
    (all_append (IsMadeBytesIn more) ps (ranges.Made part from to ∷ []) old (subst (IsMadeBytes part) (sym (made_last made x more from to e f t)) i, tt))

-- One more range of the chunk.
pub numbers_range : (made : List ℕ) (ps qs : List Range) (from to : ℕ) → qs ≡ ps ++ ranges.Copied from to ∷ [] → AllByRecursion (IsMadeBytesIn made) ps → AllByRecursion (IsMadeBytesIn made) qs
numbers_range made ps qs from to q b = subst (AllByRecursion (IsMadeBytesIn made)) (sym q) (all_append (IsMadeBytesIn made) ps (ranges.Copied from to ∷ []) b (tt, tt))

-- The header before the numbers.
pub headed_first : (c made x more : List ℕ) (ps qs : List Range) (from to : ℕ) → AllByRecursion (Lies (length c) (length made)) ps → more ≡ made ++ x → from ≡ length made → to ≡ length more →
    qs ≡ ranges.Made ChunkHeader from to ∷ ps → IsHeader x → AllByRecursion (IsMadeBytesIn made) ps → IsHeaded (record { chunk = c; made = more; pieces = qs })
headed_first c made x more ps qs from to a e f t q i b = record {
  from = from;
  to = to;
  others = ps;
  pieces = q;
  header = subst IsHeader (sym (made_last made x more from to e f t)) i;
  numbers = subst (λ z. AllByRecursion (IsMadeBytesIn z) ps) (sym e) (numbers_more (length c) made x ps a b);
}
