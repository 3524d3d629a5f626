-- What is written of a checkpoint, part by part.
use Rattle.std.specs.Prelude.{◌≡◌, ℕ, zero, suc, ◌+◌, ◌-◌, ◌^◌, ◌<◌, ◌≤◌, Bool, true, false, ◌&&◌, ◌==◌, List, [], ◌∷◌, ◌++◌, length, take, drop, slice_range, slice_get, Some, if◌then◌else◌}
use Rattle.std.specs.List.{flat_map, AllByRecursion}
use Rattle.std.proofs.Common.{ap, arith, refl, sym, ◌∙◌, subst, get_or, add-one, append_assoc, length-append}
use Rattle.std.proofs.lemmas.List.{append-nil}
use Rattle.jfr_base.specs.Integer.{spell, spell_in}
use Rattle.jfr_base.proofs.Ranges.{range_split, range_length}
use Rattle.jfr_meta.specs.Written.{capped}
use Rattle.jfr_pool.specs.declared.link.Link.{Link}
use Rattle.jfr_pool.specs.declared.entry.EntryAt.{EntryAt}
use Rattle.jfr_chunk.specs.Written.{Group, add_entry, by_pool, entry_bytes, group_bytes, checkpoint_tail, checkpoint_bytes}
use Rattle.jfr_output.specs.Pools.{leading}
use Rattle.jfr_output.proofs.Widths.{spelled_length}
use Rattle.jfr_output.proofs.PoolLaws.{by_leading}
use Rattle.jfr_scrub.specs.Sizes.{HasRange, entries_size, pool_size, groups_size}
use Rattle.jfr_scrub.specs.declared.piece.MadePart.TheVariants.{EntryCount, PoolClass}
use Rattle.jfr_scrub.specs.Bodies.{pool_parts}
use Rattle.jfr_scrub.specs.Fits.{LinkFits}
use Rattle.jfr_scrub.specs.Pieces.{OutputSoFar, more}
use Rattle.jfr_scrub.proofs.MeasureLaws.{range_drop}

-- The entries of a group lie in the chunk.
abbrev pub GroupRange : ℕ → Group → Type 0
GroupRange n g = AllByRecursion (HasRange n) g.entries

pub groups_range : (n : ℕ) (es : List EntryAt) → AllByRecursion (HasRange n) es → AllByRecursion (GroupRange n) (by_pool es)
groups_range n [] a = tt
groups_range n (e ∷ es) a = by_groups (by_pool es) a.0 (groups_range n es a.1)
  where
    by_groups : (gs : List Group) → HasRange n e → AllByRecursion (GroupRange n) gs → AllByRecursion (GroupRange n) (add_entry e gs)
    by_groups [] r h = ((r, tt), tt)
    by_groups (g ∷ gs) r h = by_test ((e.pool == g.pool) && (e.class == g.class))
      where
        by_test : (b : Bool) → AllByRecursion (GroupRange n) (if b then record { class = g.class; pool = g.pool; entries = e ∷ g.entries } ∷ gs else record { class = e.class; pool = e.pool; entries = e ∷ [] } ∷ (g ∷ gs))
        by_test true = ((r, h.0), h.1)
        by_test false = ((r, tt), h)

pub entries_length : (c : List ℕ) (es : List EntryAt) → AllByRecursion (HasRange (length c)) es → length (flat_map (entry_bytes c) es) ≡ entries_size es
entries_length c [] a = refl
entries_length c (e ∷ es) a =
    let l : length (entry_bytes c e ++ flat_map (entry_bytes c) es) ≡ length (entry_bytes c e) + length (flat_map (entry_bytes c) es) = length-append (entry_bytes c e) (flat_map (entry_bytes c) es) in
    let k : length (entry_bytes c e) ≡ e.end - e.key_at = range_length c e.key_at e.end a.0.within in
    let i = entries_length c es a.1 in
    omega arith

pub group_length : (c : List ℕ) (g : Group) → GroupRange (length c) g → length (group_bytes c g) ≡ pool_size g.class g.entries
group_length c g a =
    let n = spell (length g.entries) in
    let b = flat_map (entry_bytes c) g.entries in
    let l : length (group_bytes c g) ≡ length (spell g.class) + length (n ++ b) = length-append (spell g.class) (n ++ b) in
    let k : length (n ++ b) ≡ length n + length b = length-append n b in
    let i : length b ≡ entries_size g.entries = entries_length c g.entries a in
    omega arith

pub groups_length : (c : List ℕ) (gs : List Group) → AllByRecursion (GroupRange (length c)) gs → length (flat_map (group_bytes c) gs) ≡ groups_size gs
groups_length c [] a = refl
groups_length c (g ∷ gs) a =
    let l : length (flat_map (group_bytes c) (g ∷ gs)) ≡ length (group_bytes c g) + length (flat_map (group_bytes c) gs) = length-append (group_bytes c g) (flat_map (group_bytes c) gs) in
    let k = group_length c g a.0 in
    let i = groups_length c gs a.1 in
    omega arith

-- The number of bytes after the size.
pub tail_length : (c : List ℕ) (l : Link) (delta : ℕ) (gs : List Group) → LinkFits c l delta gs → AllByRecursion (GroupRange (length c)) gs →
    length (checkpoint_tail c l delta gs) ≡ (l.delta_at - l.frame.type_at) + length (spell delta) + 1 + length (spell (length gs)) + groups_size gs
tail_length c l delta gs f a =
    let t = slice_range c l.frame.type_at l.frame.body in
    let m = slice_range c l.frame.body l.delta_at in
    let d = spell delta in
    let k = slice_range c l.delta_end (l.delta_end + 1) in
    let n = spell (length gs) in
    let b = flat_map (group_bytes c) gs in
    let e₁ : length (t ++ (m ++ (d ++ (k ++ (n ++ b))))) ≡ length t + length (m ++ (d ++ (k ++ (n ++ b)))) = length-append t (m ++ (d ++ (k ++ (n ++ b)))) in
    let e₂ : length (m ++ (d ++ (k ++ (n ++ b)))) ≡ length m + length (d ++ (k ++ (n ++ b))) = length-append m (d ++ (k ++ (n ++ b))) in
    let e₃ : length (d ++ (k ++ (n ++ b))) ≡ length d + length (k ++ (n ++ b)) = length-append d (k ++ (n ++ b)) in
    let e₄ : length (k ++ (n ++ b)) ≡ length k + length (n ++ b) = length-append k (n ++ b) in
    let e₅ : length (n ++ b) ≡ length n + length b = length-append n b in
    let w : l.delta_end + 1 ≤ length c = f.kind in
    let o : l.delta_at ≤ l.delta_end = f.order in
    let h : l.frame.body ≤ l.delta_at = f.behind in
    let s : l.frame.type_at ≤ l.frame.body = f.framed.type_spelled.order in
    let t₁ : length t ≡ l.frame.body - l.frame.type_at = range_length c l.frame.type_at l.frame.body (omega arith) in
    let t₂ : length m ≡ l.delta_at - l.frame.body = range_length c l.frame.body l.delta_at (omega arith) in
    let t₃ : length k ≡ (l.delta_end + 1) - l.delta_end = range_length c l.delta_end (l.delta_end + 1) w in
    let t₄ : length b ≡ groups_size gs = groups_length c gs a in
    omega arith

-- One part after another.
pub more_more : (o : OutputSoFar) (a b : List ℕ) → more (more o a) b ≡ more o (a ++ b)
more_more o a b = λ i. record { chunk = o.chunk; bytes = append_assoc o.bytes a b i }

-- One entry after another.
flat_map_suc : (f : EntryAt → List ℕ) (es : List EntryAt) (i : ℕ) (d : EntryAt) → i < length es → flat_map f (take (suc i) es) ≡ flat_map f (take i es) ++ f (get_or es i d)
flat_map_suc f [] i d h = absurd (omega arith)
flat_map_suc f (e ∷ es) zero d h = append-nil (f e)
flat_map_suc f (e ∷ es) (suc i) d h = ap (λ z. f e ++ z) (flat_map_suc f es i d (omega arith)) ∙ sym (append_assoc (f e) (flat_map f (take i es)) (f (get_or es i d)))

pub entry_laid : (o now next : OutputSoFar) (es : List EntryAt) (i : ℕ) (d : EntryAt) → i < length es → now ≡ more o (flat_map (entry_bytes o.chunk) (take i es))
    → next ≡ more now (entry_bytes now.chunk (get_or es i d)) →
    next ≡ more o (flat_map (entry_bytes o.chunk) (take (i + 1) es))
entry_laid o now next es i d h l n =
    let f = entry_bytes o.chunk in
    let t : flat_map f (take (i + 1) es) ≡ flat_map f (take i es) ++ f (get_or es i d) = ap (λ m. flat_map f (take m es)) (add-one i) ∙ flat_map_suc f es i d h in
    n ∙ (ap (λ (z : OutputSoFar). more z (entry_bytes z.chunk (get_or es i d))) l ∙ (more_more o (flat_map f (take i es)) (f (get_or es i d)) ∙ ap (more o) (sym t)))

regrouped : (o s a t m d k n g : List ℕ) → a ≡ t ++ m → (((((o ++ s) ++ a) ++ d) ++ k) ++ n) ++ g ≡ o ++ (s ++ (t ++ (m ++ (d ++ (k ++ (n ++ g))))))
regrouped o s a t m d k n g e = rw e (simp append_assoc)

-- Parts one after another, of the chunk that doesn't change.
pub laid_parts : (o a b d e f g : OutputSoFar) (s v n : List ℕ) (p q t u : ℕ) (h : List ℕ → List ℕ) → a ≡ more o s → b ≡ more a (slice_range a.chunk p q) → d ≡ more b v
    → e ≡ more d (slice_range d.chunk t u) → f ≡ more e n → g ≡ more f (h f.chunk) →
    g ≡ more (more (more (more (more (more o s) (slice_range o.chunk p q)) v) (slice_range o.chunk t u)) n) (h o.chunk)
laid_parts o a b d e f g s v n p q t u h i j k l m w =
    let b' : b ≡ more (more o s) (slice_range o.chunk p q) = j ∙ ap (λ (z : OutputSoFar). more z (slice_range z.chunk p q)) i in
    let d' : d ≡ more (more (more o s) (slice_range o.chunk p q)) v = k ∙ ap (λ z. more z v) b' in
    let e' : e ≡ more (more (more (more o s) (slice_range o.chunk p q)) v) (slice_range o.chunk t u) = l ∙ ap (λ (z : OutputSoFar). more z (slice_range z.chunk t u)) d' in
    let f' : f ≡ more (more (more (more (more o s) (slice_range o.chunk p q)) v) (slice_range o.chunk t u)) n = m ∙ ap (λ z. more z n) e' in
    w ∙ ap (λ (z : OutputSoFar). more z (h z.chunk)) f'

-- The parts of a checkpoint.
pub laid_checkpoint : (o : OutputSoFar) (l : Link) (delta size : ℕ) (gs : List Group) → LinkFits o.chunk l delta gs
    → size ≡ (l.frame.type_at - l.frame.at) + length (checkpoint_tail o.chunk l delta gs) →
    more (more (more (more (more (more o (spell_in (l.frame.type_at - l.frame.at) size)) (slice_range o.chunk l.frame.type_at l.delta_at)) (spell delta))
    (slice_range o.chunk l.delta_end (l.delta_end + 1))) (spell (length gs))) (flat_map (group_bytes o.chunk) gs)
    ≡ more o (checkpoint_bytes o.chunk l delta gs)
laid_checkpoint o l delta size gs f e =
    let w = l.frame.type_at - l.frame.at in
    let a : slice_range o.chunk l.frame.type_at l.delta_at ≡ slice_range o.chunk l.frame.type_at l.frame.body ++ slice_range o.chunk l.frame.body l.delta_at =
    range_split o.chunk l.frame.type_at l.frame.body l.delta_at f.framed.type_spelled.order f.behind in
    let b = regrouped o.bytes (spell_in w size) (slice_range o.chunk l.frame.type_at l.delta_at) (slice_range o.chunk l.frame.type_at l.frame.body) (slice_range o.chunk l.frame.body l.delta_at)
    (spell delta) (slice_range o.chunk l.delta_end (l.delta_end + 1)) (spell (length gs)) (flat_map (group_bytes o.chunk) gs) a in
    (λ i. record { chunk = o.chunk; bytes = b i }) ∙ ap (λ n. more o (spell_in w n ++ checkpoint_tail o.chunk l delta gs)) e

-- The pools that are left to lay out.
pub record LayingPools (o now : OutputSoFar) (es rest : List EntryAt) : Type 0 where
  pub chunk : now.chunk ≡ o.chunk
  pub laid : more now (flat_map (group_bytes o.chunk) (by_pool rest)) ≡ more o (flat_map (group_bytes o.chunk) (by_pool es))
  pub ranges : AllByRecursion (HasRange (length o.chunk)) rest

pub laying_none : (o : OutputSoFar) (es : List EntryAt) → AllByRecursion (HasRange (length o.chunk)) es → LayingPools o o es es
laying_none o es a = record { chunk = refl; laid = refl; ranges = a }

one_group : (x a b d f : List ℕ) → (((x ++ a) ++ b) ++ d) ++ f ≡ x ++ ((a ++ (b ++ d)) ++ f)
one_group x a b d f = simp append_assoc

pub group_laid : (o a b d : OutputSoFar) (x y : List ℕ) (f : List ℕ → List ℕ) → a ≡ more o x → b ≡ more a y → d ≡ more b (f b.chunk) → d ≡ more (more (more o x) y) (f o.chunk)
group_laid o a b d x y f p q r =
    let m : b ≡ more (more o x) y = q ∙ ap (λ z. more z y) p in
    r ∙ ap (λ (z : OutputSoFar). more z (f z.chunk)) m

pub laying_next : (o now next : OutputSoFar) (es rest : List EntryAt) (e : EntryAt) → LayingPools o now es rest → slice_get rest 0 ≡ Some e →
    next ≡ more (more (more now (spell e.class)) (spell (length (take (leading e rest) rest)))) (flat_map (entry_bytes now.chunk) (take (leading e rest) rest)) → LayingPools o next es
    (drop (leading e rest) rest)
laying_next o now next es [] e m r n = cc
laying_next o now next es (x ∷ behind) e m r n =
    let same : x ≡ e = cc in
    let rest : List EntryAt = x ∷ behind in
    let pool = take (leading e rest) rest in
    let others = drop (leading e rest) rest in
    let b : by_pool rest ≡ record { class = e.class; pool = e.pool; entries = pool } ∷ by_pool others =
    subst (λ z. by_pool rest ≡ record { class = z.class; pool = z.pool; entries = take (leading z rest) rest } ∷ by_pool (drop (leading z rest) rest)) same (by_leading x behind) in
    let f = flat_map (group_bytes o.chunk) (by_pool others) in
    let g = spell e.class ++ (spell (length pool) ++ flat_map (entry_bytes o.chunk) pool) in
    let u : next ≡ more (more (more now (spell e.class)) (spell (length pool))) (flat_map (entry_bytes o.chunk) pool) =
    n ∙ ap (λ z. more (more (more now (spell e.class)) (spell (length pool))) (flat_map (entry_bytes z) pool)) m.chunk in
    let v = one_group now.bytes (spell e.class) (spell (length pool)) (flat_map (entry_bytes o.chunk) pool) f in
    record {
      chunk = ap (λ (z : OutputSoFar). z.chunk) n ∙ m.chunk;
      laid = ap (λ z. more z f) u ∙ ((λ i. record { chunk = now.chunk; bytes = v i }) ∙ (ap (λ gs. more now (flat_map (group_bytes o.chunk) gs)) (sym b) ∙ m.laid));
      ranges = range_drop (length o.chunk) rest (leading e rest) m.ranges;
    }

pub laying_all : (o now : OutputSoFar) (es rest : List EntryAt) → LayingPools o now es rest → length rest ≤ 0 → now ≡ more o (flat_map (group_bytes o.chunk) (by_pool es))
laying_all o now es [] m h = (λ i. record { chunk = now.chunk; bytes = sym (append-nil now.bytes) i }) ∙ m.laid
laying_all o now es (e ∷ rest) m h = absurd (omega arith)

-- The size of what is written of a checkpoint.
pub size_is : (c : List ℕ) (l : Link) (delta : ℕ) (gs : List Group) (bytes v w : ℕ) → LinkFits c l delta gs → AllByRecursion (GroupRange (length c)) gs → length c < 2 ^ 64 →
    bytes ≡ capped (groups_size gs) → v ≡ length (spell delta) → w ≡ length (spell (length gs)) →
    (((l.frame.type_at - l.frame.at) + (l.delta_at - l.frame.type_at) + v + 1 + w) + bytes ≡ (l.frame.type_at - l.frame.at) + length (checkpoint_tail c l delta gs))
size_is c l delta gs bytes v w f a h b d e =
    let t = tail_length c l delta gs f a in
    let r : (l.frame.type_at - l.frame.at) + length (checkpoint_tail c l delta gs) ≤ l.frame.size = f.room in
    let k : l.frame.at + l.frame.size ≤ length c = f.framed.within in
    omega arith

-- And how long it is.
pub checkpoint_length : (c : List ℕ) (l : Link) (delta : ℕ) (gs : List Group) → LinkFits c l delta gs
    → length (checkpoint_bytes c l delta gs) ≡ (l.frame.type_at - l.frame.at) + length (checkpoint_tail c l delta gs)
checkpoint_length c l delta gs f =
    let w = l.frame.type_at - l.frame.at in
    let n = w + length (checkpoint_tail c l delta gs) in
    let a : length (spell_in w n ++ checkpoint_tail c l delta gs) ≡ length (spell_in w n) + length (checkpoint_tail c l delta gs) = length-append (spell_in w n) (checkpoint_tail c l delta gs) in
    let b : length (spell_in w n) ≡ w = spelled_length c l.frame n f.framed f.room in
    omega arith

-- What is made of the first pool, and of the others.
pub pools_parts : (es others : List EntryAt) (e : EntryAt) (n : ℕ) → slice_get es 0 ≡ Some e → n ≡ leading e es → others ≡ drop n es
    → flat_map pool_parts (by_pool es) ≡ (PoolClass ∷ EntryCount ∷ []) ++ flat_map pool_parts (by_pool others)
pools_parts [] others e n g l o = cc
pools_parts (x ∷ es) others e n g l o =
    let same : x ≡ e = cc in
    let rest : List EntryAt = x ∷ es in
    let d : others ≡ drop (leading x rest) rest = o ∙ (ap (λ m. drop m rest) l ∙ ap (λ z. drop (leading z rest) rest) (sym same)) in
    ap (flat_map pool_parts) (by_leading x es) ∙ ap (λ z. PoolClass ∷ EntryCount ∷ flat_map pool_parts (by_pool z)) (sym d)
