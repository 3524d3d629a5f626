-- Formats that read the same bytes in the same way, at any offsets.
use Rattle.std.specs.Prelude.{◌≡◌, ℕ, zero, suc, ◌+◌, ◌-◌, ◌≤◌, List, [], ◌∷◌, slice_range, slice_index, None, ⊤}
use Rattle.std.proofs.Common.{ap, arith, refl, sym, ◌∙◌, subst}
use Rattle.jfr_base.specs.Integer.{IntAt}
use Rattle.jfr_base.specs.Formats.{Format, Done, Int, Byte, Run, Here, Refuse, ◌>>=◌, times, for_each, Reads}
use Rattle.jfr_base.proofs.Copies.{Copy, copy_cut, copy_int, copy_byte}
use Rattle.jfr_base.proofs.ReadLaws.{reads_order}

-- Formats with the same units, whatever offsets they get from `Here`; the values that they give are related.
abbrev pub Alike : {A B : Type 0} → (A → B → Type 0) → Format A → Format B → Type 0
Alike R (Done a) (Done b) = R a b
Alike R (Int c f) (Int d g) = (v : ℕ) (s : List ℕ) → (c v ≡ None → d v ≡ None) × Alike R (f v s) (g v s)
Alike R (Byte c f) (Byte d g) = (v : ℕ) → (c v ≡ None → d v ≡ None) × Alike R (f v) (g v)
Alike R (Run m f) (Run n g) = (m ≡ n) × ((bytes : List ℕ) → Alike R (f bytes) (g bytes))
Alike R (Here f) (Here g) = (p q : ℕ) → Alike R (f p) (g q)
Alike R (Refuse why) (Refuse other) = ⊤
Alike R _ _ = ⊥

-- The bytes that one format has read are read by the other in a copy of them.
pub alike_reads : {A B : Type 0} (R : A → B → Type 0) (f : Format A) (g : Format B) → Alike R f g → (x y : List ℕ) (end to_end p q n : ℕ) (v : A)
    → Reads f x end p v (p + n) → Copy x y p q n → q + n ≤ to_end → (w : B) × R v w × Reads g y to_end q w (q + n)
alike_reads {B = B} R (Done a) (Done b) e x y end to_end p q n v r c h =
    let m : p + n ≡ p = r.1 in
    (b, subst (λ z. R z b) (sym r.0) e, (refl, omega arith))
alike_reads {B = B} R (Int c f) (Int d g) e x y end to_end p q n v r cp h =
    let u : ℕ = r.1 in
    let b : List ℕ = slice_range x p r.0 in
    let i : r.0 ≤ p + n = reads_order (f u b) x end r.0 v (p + n) r.5 in
    let j : p ≤ r.0 = r.2.order in
    let k : ℕ = r.0 - p in
    let l : ℕ = p + n - r.0 in
    let s : n ≡ k + l = omega arith in
    let t : r.0 ≡ p + k = omega arith in
    let cut = copy_cut x y p q k l (subst (Copy x y p q) s cp) in
    let z : p + n ≡ p + k + l = omega arith in
    let w : q + k + l ≡ q + n = omega arith in
    let rest : Reads (f u b) x end (p + k) v (p + k + l) = subst (λ m. Reads (f u b) x end m v (p + k + l)) t (subst (Reads (f u b) x end r.0 v) z r.5) in
    let a = alike_reads R (f u b) (g u b) (e u b).1 x y end to_end (p + k) (q + k) l v rest cut.1 (omega arith) in
    let same : b ≡ slice_range y q (q + k) = ap (slice_range x p) t ∙ cut.0.same in (
      a.0,
      a.1,
      (
        q + k,
        u,
        copy_int x y p q k u cut.0 (subst (λ m. IntAt x p m u) t r.2),
        omega arith,
        (e u b).0 r.4,
        subst (λ s. Reads (g u s) y to_end (q + k) a.0 (q + n)) same
            (subst (Reads (g u b) y to_end (q + k) a.0) w a.2),
      ),
    )
alike_reads {B = B} R (Byte c f) (Byte d g) e x y end to_end p q n v r cp h =
    let b : ℕ = slice_index x p in
    let i : p + 1 ≤ p + n = reads_order (f b) x end (p + 1) v (p + n) r.2 in
    let l : ℕ = n - 1 in
    let s : n ≡ 1 + l = omega arith in
    let cut = copy_cut x y p q 1 l (subst (Copy x y p q) s cp) in
    let z : p + n ≡ p + 1 + l = omega arith in
    let w : q + 1 + l ≡ q + n = omega arith in
    let same : b ≡ slice_index y q = copy_byte x y p q cut.0 in
    let a = alike_reads R (f b) (g b) (e b).1 x y end to_end (p + 1) (q + 1) l v (subst (Reads (f b) x end (p + 1) v) z r.2) cut.1 (omega arith) in
    (a.0, a.1, (omega arith, subst (λ m. d m ≡ None) same ((e b).0 r.1), subst (λ m. Reads (g m) y to_end (q + 1) a.0 (q + n)) same (subst (Reads (g b) y to_end (q + 1) a.0) w a.2)))
alike_reads {B = B} R (Run m f) (Run k g) e x y end to_end p q n v r cp h =
    let b : List ℕ = slice_range x p (p + m) in
    let i : p + m ≤ p + n = reads_order (f b) x end (p + m) v (p + n) r.1 in
    let l : ℕ = n - m in
    let s : n ≡ m + l = omega arith in
    let cut = copy_cut x y p q m l (subst (Copy x y p q) s cp) in
    let z : p + n ≡ p + m + l = omega arith in
    let w : q + m + l ≡ q + n = omega arith in
    let a = alike_reads R (f b) (g b) (e.1 b) x y end to_end (p + m) (q + m) l v (subst (Reads (f b) x end (p + m) v) z r.1) cut.1 (omega arith) in
    let o : Reads (g (slice_range y q (q + m))) y to_end (q + m) a.0 (q + n) = subst (λ z. Reads (g z) y to_end (q + m) a.0 (q + n)) cut.0.same (subst (Reads (g b) y to_end (q + m) a.0) w a.2) in
    (a.0, a.1, subst (λ k. (q + k ≤ to_end) × Reads (g (slice_range y q (q + k))) y to_end (q + k) a.0 (q + n)) e.0 (omega arith, o))
alike_reads {B = B} R (Here f) (Here g) e x y end to_end p q n v r cp h = alike_reads R (f p) (g q) (e p q) x y end to_end p q n v r cp h
alike_reads {B = B} R (Refuse why) g e x y end to_end p q n v r cp h = absurd r
alike_reads {B = B} R f g e x y end to_end p q n v r cp h = absurd e

-- Formats that are made alike.
pub alike_then : {A B C D : Type 0} (R : A → B → Type 0) (S : C → D → Type 0) (f : Format A) (g : Format B) (h : A → Format C) (k : B → Format D)
    → Alike R f g → ((a : A) (b : B) → R a b → Alike S (h a) (k b)) → Alike S (f >>= h) (g >>= k)
alike_then R S (Done a) (Done b) h k e l = l a b e
alike_then R S (Int c f) (Int d g) h k e l = λ v s. ((e v s).0, alike_then R S (f v s) (g v s) h k (e v s).1 l)
alike_then R S (Byte c f) (Byte d g) h k e l = λ v. ((e v).0, alike_then R S (f v) (g v) h k (e v).1 l)
alike_then R S (Run m f) (Run n g) h k e l = (e.0, λ b. alike_then R S (f b) (g b) h k (e.1 b) l)
alike_then R S (Here f) (Here g) h k e l = λ p q. alike_then R S (f p) (g q) h k (e p q) l
alike_then R S (Refuse why) (Refuse other) h k e l = tt
alike_then R S f g h k e l = absurd e

-- As many, one related to the other in order.
abbrev pub Each : {A B : Type 0} → (A → B → Type 0) → List A → List B → Type 0
Each R [] [] = ⊤
Each R (a ∷ xs) (b ∷ ys) = R a b × Each R xs ys
Each R _ _ = ⊥

pub alike_times : {A B : Type 0} (R : A → B → Type 0) (n : ℕ) (f : Format A) (g : Format B) → Alike R f g → Alike (Each R) (times n f) (times n g)
alike_times R zero f g e = tt
alike_times R (suc n) f g e =
    alike_then R (Each R) f g (λ a. times n f >>= λ rest. Done (a ∷ rest)) (λ b. times n g >>= λ rest. Done (b ∷ rest)) e
    (λ a b r. alike_then (Each R) (Each R) (times n f) (times n g) (λ rest. Done (a ∷ rest)) (λ rest. Done (b ∷ rest)) (alike_times R n f g e) (λ s t q. (r, q)))

pub alike_for_each : {X A B : Type 0} (R : A → B → Type 0) (xs : List X) (f : X → Format A) (g : X → Format B) → ((x : X) → Alike R (f x) (g x)) → Alike (Each R) (for_each xs f) (for_each xs g)
alike_for_each R [] f g e = tt
alike_for_each R (x ∷ xs) f g e =
    alike_then R (Each R) (f x) (g x) (λ a. for_each xs f >>= λ rest. Done (a ∷ rest)) (λ b. for_each xs g >>= λ rest. Done (b ∷ rest)) (e x)
    (λ a b r. alike_then (Each R) (Each R) (for_each xs f) (for_each xs g) (λ rest. Done (a ∷ rest)) (λ rest. Done (b ∷ rest)) (alike_for_each R xs f g e) (λ s t q. (r, q)))
