-- The chained checkpoints of a chunk that was read: each can be written with the entries that are left.
use Rattle.std.specs.Prelude.{◌≡◌, ℕ, ◌+◌, ◌-◌, ◌<◌, ◌≤◌, ◌^◌, pos, ◌+ℤ◌, ◌⊎◌, ◌==◌, nat_lt, Bool, true, false, List, [], ◌∷◌, ◌++◌, length, map, drop, filter, slice_range, None, cond}
use Rattle.std.specs.Int.{cast_signed, w64}
use Rattle.std.specs.List.{flat_map, AllByRecursion, enumerate_from}
use Rattle.std.proofs.Common.{ap, arith, refl, sym, ◌∙◌, subst, append_assoc, length-append, inl, inr}
use Rattle.std.proofs.lemmas.Bool.{cases_lt}
use Rattle.std.proofs.lemmas.Int.{ints}
use Rattle.std.proofs.lemmas.List.{append-nil, drop-drop}
use Rattle.std.proofs.lemmas.List.Elements.{filter-append}
use Rattle.std.proofs.lemmas.Map.Views.{exact_unsigned_eq}
use Rattle.jfr_base.specs.Integer.{IntAt, spell}
use Rattle.jfr_base.specs.Formats.{Reads}
use Rattle.jfr_base.proofs.OneInt.{int_one}
use Rattle.jfr_base.proofs.Ranges.{range_length}
use Rattle.jfr_base.proofs.Spelling.{nine_bytes}
use Rattle.jfr_layout.specs.Classes.{Classes}
use Rattle.jfr_frame.specs.declared.framed.Framed.{Framed}
use Rattle.jfr_frame.specs.Records.{IsRecord, record_end}
use Rattle.jfr_pool.specs.declared.link.Link.{Link}
use Rattle.jfr_pool.specs.declared.entry.EntryAt.{EntryAt}
use Rattle.jfr_pool.specs.Chains.{Delta, IsLink, StepsTo}
use Rattle.jfr_pool.specs.Entries.{pool_check, Constant, PoolAt, checkpoint_format, entry_of, entries_from, AreEntries}
use Rattle.jfr_chunk.specs.Reach.{marked}
use Rattle.jfr_chunk.specs.Written.{Group, by_pool, group_bytes}
use Rattle.jfr_chunk.specs.Scrub.{groups_of}
use Rattle.jfr_chunk.proofs.AllLaws.{all_append}
use Rattle.jfr_chunk.proofs.TestLaws.{is_eq}
use Rattle.jfr_laws.proofs.Marks.{all_marked, marked_append}
use Rattle.jfr_laws.specs.InChunk.{IsEntryIn, IsGroupIn, IsLinkIn, AreConstants, ArePools, BodyStands}
use Rattle.jfr_laws.proofs.InChunk.{body_stands}
use Rattle.jfr_laws.proofs.Groups.{groups_stand}
use Rattle.jfr_laws.proofs.Room.{int_room, have_room}

-- A link whose body was read.
link_stands : (c : List ℕ) (k : Classes) (rs : List Framed) (l : Link) (pools : List PoolAt) → IsRecord c l.frame → IsLink c rs l → (s : BodyStands c k (record_end l.frame) l.frame.body pools)
    → IsLinkIn c l × (s.delta_end ≡ l.delta_end)
link_stands c k rs l pools r i s =
    let h = i.head in
    let d = h.5 in
    let z = d.5 in
    let e = z.5.0 in
    let a : l.delta_at ≡ d.0 = ap (λ (x : Delta). x.at) e in
    let b : l.delta_end ≡ z.0 = ap (λ (x : Delta). x.end) e in
    let v : l.delta ≡ cast_signed w64 z.1 = ap (λ (x : Delta). x.value) e in
    let m = int_one c l.frame.body s.middle h.0 s.start h.1 s.start_spelled h.2 in
    let n = int_one c h.0 s.delta_at d.0 s.duration d.1 (subst (λ p. IntAt c p s.delta_at s.duration) m.0 s.duration_spelled) d.2 in
    let o = int_one c d.0 s.delta_end z.0 s.word z.1 (subst (λ p. IntAt c p s.delta_end s.word) n.0 s.delta_spelled) z.2 in
    let f : s.delta_end ≡ l.delta_end = o.0 ∙ sym b in
    let g : s.delta_end + 1 ≤ record_end l.frame = s.kind_within in
    let w : record_end l.frame ≤ length c = r.within in (
      record {
        record_stands = r;
        is_checkpoint = i.checkpoint;
        middle = h.0;
        start = h.1;
        duration = d.1;
        word = z.1;
        start_spelled = h.2;
        duration_spelled = subst (λ p. IntAt c h.0 p d.1) (sym a) d.2;
        delta_spelled = subst (λ p. IntAt c p l.delta_end z.1) (sym a) (subst (λ p. IntAt c d.0 p z.1) (sym b) z.2);
        delta_is = v;
        kind_within = omega arith;
      },
      f,
    )

-- The entries of pools that are spelled by bytes.
constants_entries : (c : List ℕ) (k : Classes) (checkpoint number class at : ℕ) (xs : List Constant) (to : ℕ) → pool_check k class ≡ None → AreConstants c k class at xs to
    → AllByRecursion (IsEntryIn c k) (map (entry_of checkpoint number class) xs)
constants_entries c k checkpoint number class at [] to n s = tt
constants_entries c k checkpoint number class at (x ∷ xs) to n s =
    (record { value = x.value; known = n; key = s.0.key; order = s.0.order; within = s.0.within; exact = s.0.exact }, constants_entries c k checkpoint number class x.end xs to n s.1)

pools_entries : (c : List ℕ) (k : Classes) (checkpoint number at : ℕ) (pools : List PoolAt) (to : ℕ) → ArePools c k at pools to → AllByRecursion (IsEntryIn c k) (entries_from checkpoint number pools)
pools_entries c k checkpoint number at [] to s = tt
pools_entries c k checkpoint number at (p ∷ ps) to s =
    all_append (IsEntryIn c k) (map (entry_of checkpoint number p.class) p.constants) (entries_from checkpoint (number + 1) ps)
    (constants_entries c k checkpoint number p.class s.1.first p.constants s.0 s.1.known s.1.constants) (pools_entries c k checkpoint (number + 1) s.0 ps to s.2)

-- What is needed to write a checkpoint with these groups.
pub record CanWrite (c : List ℕ) (k : Classes) (l : Link) (gs : List Group) : Type 0 where
  pub link : IsLinkIn c l
  pub groups : AllByRecursion (IsGroupIn c k) gs
  pub room : l.delta_end + 1 + length (spell (length gs)) + length (flat_map (group_bytes c) gs) ≤ record_end l.frame

-- A checkpoint that was read, with those of its entries that are marked.
one_can : (c : List ℕ) (k : Classes) (rs : List Framed) (marks : List Bool) (number : ℕ) (l : Link) (pools : List PoolAt) → IsRecord c l.frame → IsLink c rs l
    → Reads (checkpoint_format k) c (record_end l.frame) l.frame.body pools (record_end l.frame) → CanWrite c k l (by_pool (marked marks (entries_from number 0 pools)))
one_can c k rs marks number l pools r h b =
    let end : ℕ = record_end l.frame in
    let s = body_stands c k end r.within l.frame.body pools b in
    let ls = link_stands c k rs l pools r h s in
    let es : List EntryAt = entries_from number 0 pools in
    let gs : List Group = by_pool (marked marks es) in
    let m = have_room c k number 0 s.first pools end marks s.rest in
    let n : length (spell (length gs)) + (s.delta_end + 1) ≤ s.first = int_room c (s.delta_end + 1) s.first (length gs) (length pools) s.count m.count in
    let f : s.delta_end ≡ l.delta_end = ls.1 in
    record {
      link = ls.0;
      groups = groups_stand c k (marked marks es) (all_marked (IsEntryIn c k) marks es (pools_entries c k number 0 s.first pools end s.rest));
      room = omega (arith, m.bytes);
    }

-- Entries of a checkpoint, and of others.
abbrev pub Of : ℕ → List EntryAt → Type 0
Of n es = AllByRecursion (λ e. e.checkpoint ≡ n) es

abbrev pub NotOf : ℕ → List EntryAt → Type 0
NotOf n es = AllByRecursion (λ e. (e.checkpoint == n) ≡ false) es

abbrev those_of : ℕ → List EntryAt → List EntryAt
those_of n es = filter (λ e. e.checkpoint == n) es

-- No entry of others is one of the checkpoint, and each of its own is.
none_of : (n : ℕ) (es : List EntryAt) → NotOf n es → those_of n es ≡ []
none_of n [] a = refl
none_of n (e ∷ es) a = rw a.0 (none_of n es a.1)

all_of : (n : ℕ) (es : List EntryAt) → Of n es → those_of n es ≡ es
all_of n [] a = refl
all_of n (e ∷ es) a = rw (is_eq e.checkpoint n a.0) (ap (λ z. e ∷ z) (all_of n es a.1))

-- Entries of one checkpoint are not of another.
pub others : (n m : ℕ) (es : List EntryAt) → (n ≡ m → ⊥) → Of n es → NotOf m es
others n m [] h a = tt
others n m (e ∷ es) h a = (by_test (e.checkpoint == m) refl, others n m es h a.1)
  where
    by_test : (t : Bool) → (e.checkpoint == m) ≡ t → t ≡ false
    by_test true q = absurd (h (sym a.0 ∙ exact_unsigned_eq e.checkpoint m q))
    by_test false q = refl

-- The pools of a checkpoint have its number.
pub of_number : (checkpoint number : ℕ) (pools : List PoolAt) → Of checkpoint (entries_from checkpoint number pools)
of_number checkpoint number [] = tt
of_number checkpoint number (p ∷ ps) =
    all_append (λ e. e.checkpoint ≡ checkpoint) (map (entry_of checkpoint number p.class) p.constants) (entries_from checkpoint (number + 1) ps) (each p.constants)
    (of_number checkpoint (number + 1) ps)
  where
    each : (xs : List Constant) → Of checkpoint (map (entry_of checkpoint number p.class) xs)
    each [] = tt
    each (x ∷ xs) = (refl, each xs)

-- Those of later checkpoints are not of an earlier one.
pub later_numbers : (c : List ℕ) (k : Classes) (before number : ℕ) (ls : List Link) (es : List EntryAt) → before < number → AreEntries c k number ls es → NotOf before es
later_numbers c k before number [] es h a = subst (NotOf before) (sym a) tt
later_numbers c k before number (l ∷ ls) es h a =
    let block : List EntryAt = entries_from number 0 a.0 in
    subst (NotOf before) (sym a.3)
    (all_append (λ e. (e.checkpoint == before) ≡ false) block a.2 (others number before block (λ q. omega arith) (of_number number 0 a.0))
    (later_numbers c k before (number + 1) ls a.2 (omega arith) a.4))

-- The entries of one checkpoint, between those of others.
pub block_only : (n : ℕ) (before block later : List EntryAt) → NotOf n before → Of n block → NotOf n later → those_of n (before ++ (block ++ later)) ≡ block
block_only n before block later a b d =
    let t : EntryAt → Bool = λ e. e.checkpoint == n in
    filter-append t before (block ++ later)
    ∙ (ap (λ u. u ++ filter t (block ++ later)) (none_of n before a)
    ∙ (filter-append t block later ∙ (ap (λ u. filter t block ++ u) (none_of n later d) ∙ (append-nil (filter t block) ∙ all_of n block b))))

-- The marked entries of one checkpoint.
block_marked : (n : ℕ) (marks : List Bool) (before block later : List EntryAt) → NotOf n before → Of n block → NotOf n later
    → those_of n (marked marks (before ++ (block ++ later))) ≡ marked (drop (length before) marks) block
block_marked n marks before block later a b d =
    let more : List Bool = drop (length before) marks in
    let last : List Bool = drop (length block) more in
    let x : List EntryAt = marked marks before in
    let e : marked marks (before ++ (block ++ later)) ≡ x ++ (marked more block ++ marked last later) =
    marked_append marks before (block ++ later) ∙ ap (λ u. x ++ u) (marked_append more block later) in
    ap (those_of n) e
    ∙ block_only n x (marked more block) (marked last later) (all_marked (λ e. (e.checkpoint == n) ≡ false) marks before a) (all_marked (λ e. e.checkpoint ≡ n) more block b)
    (all_marked (λ e. (e.checkpoint == n) ≡ false) last later d)

-- The entries after those of the checkpoints before.
record Behind (c : List ℕ) (k : Classes) (whole : List EntryAt) (number : ℕ) (ls : List Link) (before es : List EntryAt) : Type 0 where
  entries : AreEntries c k number ls es
  split : whole ≡ before ++ es
  earlier : (n : ℕ) → number ≤ n → NotOf n before

-- Behind one more checkpoint.
behind_next : (c : List ℕ) (k : Classes) (whole : List EntryAt) (number : ℕ) (l : Link) (ls : List Link) (before es : List EntryAt) → (h : Behind c k whole number (l ∷ ls) before es)
    → Behind c k whole (number + 1) ls (before ++ entries_from number 0 h.entries.0) h.entries.2
behind_next c k whole number l ls before es h =
    let block : List EntryAt = entries_from number 0 h.entries.0 in
    record {
      entries = h.entries.4;
      split = h.split ∙ (ap (λ z. before ++ z) h.entries.3 ∙ sym (append_assoc before block h.entries.2));
      earlier = λ n i. all_append (λ e. (e.checkpoint == n) ≡ false) before block (h.earlier n (omega arith)) (others number n block (λ q. omega arith) (of_number number 0 h.entries.0));
    }

-- The marked entries of the next checkpoint.
behind_block : (c : List ℕ) (k : Classes) (whole : List EntryAt) (marks : List Bool) (number : ℕ) (l : Link) (ls : List Link) (before es : List EntryAt)
    → (h : Behind c k whole number (l ∷ ls) before es)
    → those_of number (marked marks whole) ≡ marked (drop (length before) marks) (entries_from number 0 h.entries.0)
behind_block c k whole marks number l ls before es h =
    let block : List EntryAt = entries_from number 0 h.entries.0 in
    let e : whole ≡ before ++ (block ++ h.entries.2) = h.split ∙ ap (λ z. before ++ z) h.entries.3 in
    ap (λ z. those_of number (marked marks z)) e
    ∙ block_marked number marks before block h.entries.2 (h.earlier number (omega arith)) (of_number number 0 h.entries.0)
    (later_numbers c k number (number + 1) ls h.entries.2 (omega arith) h.entries.4)

can_behind : (c : List ℕ) (k : Classes) (rs : List Framed) (marks : List Bool) (whole : List EntryAt) (number : ℕ) (ls : List Link) (before es : List EntryAt)
    → AllByRecursion (λ l. IsRecord c l.frame × IsLink c rs l) ls → Behind c k whole number ls before es
    → AllByRecursion (λ (m : ℕ × Link). CanWrite c k m.1 (groups_of (marked marks whole) m.0)) (enumerate_from number ls)
can_behind c k rs marks whole number [] before es h a = tt
can_behind c k rs marks whole number (l ∷ ls) before es h a =
    let block : List EntryAt = entries_from number 0 a.entries.0 in (
      subst (λ z. CanWrite c k l (by_pool z)) (sym (behind_block c k whole marks number l ls before es a)) (one_can c k rs (drop (length before) marks) number l a.entries.0 h.0.0 h.0.1 a.entries.1),
      can_behind c k rs marks whole (number + 1) ls (before ++ block) a.entries.2 h.1 (behind_next c k whole number l ls before es a),
    )

-- Each checkpoint can be written with those of its entries that are marked.
pub checkpoints_can : (c : List ℕ) (k : Classes) (rs : List Framed) (marks : List Bool) (ls : List Link) (es : List EntryAt)
    → AllByRecursion (λ l. IsRecord c l.frame × IsLink c rs l) ls → AreEntries c k 0 ls es
    → AllByRecursion (λ (m : ℕ × Link). CanWrite c k m.1 (groups_of (marked marks es) m.0)) (enumerate_from 0 ls)
checkpoints_can c k rs marks ls es h a = can_behind c k rs marks es 0 ls [] es h (record { entries = a; split = refl; earlier = λ n i. tt })

all_after : (c : List ℕ) (k : Classes) (marks : List Bool) (whole : List EntryAt) (number : ℕ) (ls : List Link) (before es : List EntryAt) → Behind c k whole number ls before es
    → flat_map (λ (m : ℕ × Link). those_of m.0 (marked marks whole)) (enumerate_from number ls) ≡ marked (drop (length before) marks) es
all_after c k marks whole number [] before es a = sym (ap (marked (drop (length before) marks)) a.entries ∙ none_marked (drop (length before) marks))
  where
    none_marked : (ms : List Bool) → marked {X = EntryAt} ms [] ≡ []
    none_marked [] = refl
    none_marked (m ∷ ms) = refl
all_after c k marks whole number (l ∷ ls) before es a =
    let block : List EntryAt = entries_from number 0 a.entries.0 in
    let more : List Bool = drop (length before) marks in
    let later : List EntryAt = flat_map (λ (m : ℕ × Link). those_of m.0 (marked marks whole)) (enumerate_from (number + 1) ls) in
    let e : drop (length (before ++ block)) marks ≡ drop (length block) more = ap (λ n. drop n marks) (length-append before block) ∙ sym (drop-drop (length block) (length before) marks) in
    let r : later ≡ marked (drop (length block) more) a.entries.2 =
    all_after c k marks whole (number + 1) ls (before ++ block) a.entries.2 (behind_next c k whole number l ls before es a) ∙ ap (λ z. marked z a.entries.2) e in
    ap (λ z. z ++ later) (behind_block c k whole marks number l ls before es a)
    ∙ (ap (λ z. marked more block ++ z) r ∙ (sym (marked_append more block a.entries.2) ∙ ap (marked more) (sym a.entries.3)))

-- Those of one checkpoint after another are all that are marked.
pub all_numbers : (c : List ℕ) (k : Classes) (marks : List Bool) (ls : List Link) (es : List EntryAt) → AreEntries c k 0 ls es
    → flat_map (λ (m : ℕ × Link). filter (λ e. e.checkpoint == m.0) (marked marks es)) (enumerate_from 0 ls) ≡ marked marks es
all_numbers c k marks ls es a = all_after c k marks es 0 ls [] es (record { entries = a; split = refl; earlier = λ n i. tt })

-- Entries of one checkpoint have its number.
pub have_number : (n : ℕ) (es : List EntryAt) → AllByRecursion (λ e. e.checkpoint ≡ n) (filter (λ e. e.checkpoint == n) es)
have_number n [] = tt
have_number n (e ∷ es) = by_test (e.checkpoint == n) refl (have_number n es)
  where
    by_test : (t : Bool) → (e.checkpoint == n) ≡ t → Of n (those_of n es) → Of n (cond t (e ∷ those_of n es) (those_of n es))
    by_test true h i = (exact_unsigned_eq e.checkpoint n h, i)
    by_test false h i = i

-- A small word is a delta that leads nowhere earlier.
small_word : (w : ℕ) → w < 72057594037927936 → cast_signed w64 w ≡ pos w
small_word w h = let t : nat_lt w (2 ^ 63) ≡ true = grind arith in rw t refl

no_way : (at to w : ℕ) → to < at → pos at +ℤ pos w ≡ pos to → ⊥
no_way at to w h e = omega (arith, ints)

-- A delta that leads to an earlier place took nine bytes.
pub nine_of : (c : List ℕ) (l : Link) (to : ℕ) → IsLinkIn c l → StepsTo l.frame.at l.delta to → l.delta_end ≡ l.delta_at + 9
nine_of c l to s t = by_size (cases_lt s.word 72057594037927936)
  where
    by_size : (s.word < 72057594037927936) ⊎ (72057594037927936 ≤ s.word) → l.delta_end ≡ l.delta_at + 9
    by_size (inl i) =
        let d : l.delta ≡ pos s.word = s.delta_is ∙ small_word s.word i in
        absurd (no_way l.frame.at to s.word t.earlier (ap (λ z. pos l.frame.at +ℤ z) (sym d) ∙ t.lands))
    by_size (inr i) =
        let n : length (slice_range c l.delta_at l.delta_end) ≡ 9 = nine_bytes (slice_range c l.delta_at l.delta_end) s.word s.delta_spelled.spelled i in
        let m : length (slice_range c l.delta_at l.delta_end) ≡ l.delta_end - l.delta_at = range_length c l.delta_at l.delta_end s.delta_spelled.within in
        omega arith
