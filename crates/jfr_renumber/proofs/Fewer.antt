-- Some of these entries, with new keys, take no more bytes than all of them with their old keys: pool by
-- pool, and so checkpoint by checkpoint.
use Rattle.std.specs.Prelude.{◌≡◌, ℕ, zero, suc, ◌+◌, ◌-◌, ◌^◌, ◌<◌, ◌≤◌, ◌==◌, Bool, true, false, List, [], ◌∷◌, ◌++◌, length, map, drop, filter, slice_range, Option, Some, None, is_some, ⊤}
use Rattle.std.specs.List.{flat_map, AllByRecursion}
use Rattle.std.proofs.Common.{ap, arith, refl, sym, ◌∙◌, subst, length-append}
use Rattle.std.proofs.lemmas.List.Elements.{filter-append}
use Rattle.std.proofs.lemmas.Map.Views.{exact_unsigned_eq}
use Rattle.jfr_base.specs.Integer.{spell, spell_in}
use Rattle.jfr_base.proofs.Ranges.{range_length}
use Rattle.jfr_base.proofs.Spelling.{spell_most, spell_short, spell_spells, nine_bytes}
use Rattle.jfr_layout.specs.Classes.{Sound}
use Rattle.jfr_pool.specs.declared.link.Link.{Link}
use Rattle.jfr_pool.specs.declared.entry.EntryAt.{EntryAt}
use Rattle.jfr_pool.specs.Entries.{PoolAt, entry_node, entry_of, entries_from, AreEntries}
use Rattle.jfr_chunk.specs.Parts.{Parts}
use Rattle.jfr_chunk.specs.Reach.{marked}
use Rattle.jfr_chunk.specs.Written.{Group, by_pool, distance, sized}
use Rattle.jfr_chunk.specs.Written as old
use Rattle.jfr_chunk.proofs.TestLaws.{is_eq}
use Rattle.jfr_laws.proofs.Marks.{all_marked, marked_append}
use Rattle.jfr_laws.specs.InChunk.{IsEntryIn}
use Rattle.jfr_laws.proofs.Groups.{apart, in_front, by_front}
use Rattle.jfr_laws.proofs.Room.{of_pool, later_pools}
use Rattle.jfr_laws.proofs.Checkpoints.{Of, NotOf, others, of_number, later_numbers, block_only}
use Rattle.jfr_renumber.specs.Rekeyed.{rekeyed_bytes}
use Rattle.jfr_renumber.specs.Renumber.{entry_bytes, group_bytes, checkpoint_tail, pair_of}
use Rattle.jfr_rewrite.proofs.Pools.{all_parts}
use Rattle.jfr_rewrite.proofs.Sizes.{in_length}
use Rattle.jfr_rewrite.proofs.CheckpointWriting.{entry_is}
use Rattle.jfr_renumber.proofs.RekeyedLaws.{node_short}

-- Each that is marked is marked there too.
abbrev pub Under : List Bool → List Bool → Type 0
Under [] ms = ⊤
Under (f ∷ fs) [] = (f ≡ false) × Under fs []
Under (f ∷ fs) (m ∷ ms) = (f ≡ true → m ≡ true) × Under fs ms

pub under_same : (fs : List Bool) → Under fs fs
under_same [] = tt
under_same (f ∷ fs) = ((λ e. e), under_same fs)

under_drop : (n : ℕ) (fs ms : List Bool) → Under fs ms → Under (drop n fs) (drop n ms)
under_drop zero fs ms u = u
under_drop (suc n) [] ms u = tt
under_drop (suc n) (f ∷ fs) [] u = under_drop_none n fs u.1
  where
    under_drop_none : (n : ℕ) (fs : List Bool) → Under fs [] → Under (drop n fs) []
    under_drop_none zero fs u = u
    under_drop_none (suc n) [] u = tt
    under_drop_none (suc n) (f ∷ fs) u = under_drop_none n fs u.1
under_drop (suc n) (f ∷ fs) (m ∷ ms) u = under_drop n fs ms u.1

pub marked_none : {X : Type 0} (ms : List Bool) → marked {X = X} ms [] ≡ []
marked_none [] = refl
marked_none (m ∷ ms) = refl

under_fewer : {X : Type 0} (fs ms : List Bool) (xs : List X) → Under fs ms → length (marked fs xs) ≤ length (marked ms xs)
under_fewer [] ms xs u = omega arith
under_fewer (f ∷ fs) ms [] u = omega arith
under_fewer (true ∷ fs) [] (x ∷ xs) u = let e = u.0 in cc
under_fewer (false ∷ fs) [] (x ∷ xs) u = under_fewer fs [] xs u.1
under_fewer (true ∷ fs) (true ∷ ms) (x ∷ xs) u = omega (arith, under_fewer fs ms xs u.1)
under_fewer (true ∷ fs) (false ∷ ms) (x ∷ xs) u = let e = u.0 refl in cc
under_fewer (false ∷ fs) (true ∷ ms) (x ∷ xs) u = omega (arith, under_fewer fs ms xs u.1)
under_fewer (false ∷ fs) (false ∷ ms) (x ∷ xs) u = under_fewer fs ms xs u.1

pub sized_length : (n : ℕ) (tail : List ℕ) → length (sized n tail) ≡ n + length tail
sized_length n tail = length-append (spell_in n (n + length tail)) tail ∙ ap (λ z. z + length tail) (in_length n (n + length tail))

number_short : (m n : ℕ) → m ≤ n → length (spell m) ≤ length (spell n)
number_short m n h = spell_short (spell n) m n (spell_spells n) h

-- The length of groups whose first one has these entries, given the bytes of an entry.
front_length : (entry : EntryAt → List ℕ) (number class : ℕ) (f : EntryAt) (fs : List EntryAt) (gs : List Group)
    → length (flat_map (λ g. spell g.class ++ (spell (length g.entries) ++ flat_map entry g.entries)) (in_front number class (f ∷ fs) gs))
    ≡ length (spell class) + (length (spell (length (f ∷ fs))) + length (flat_map entry (f ∷ fs))) + length (flat_map (λ g. spell g.class ++ (spell (length g.entries) ++ flat_map entry g.entries)) gs)
front_length entry number class f fs gs =
    let later : List ℕ = flat_map (λ (g : Group). spell g.class ++ (spell (length g.entries) ++ flat_map entry g.entries)) gs in
    let count : List ℕ = spell (length (f ∷ fs)) in
    let items : List ℕ = flat_map entry (f ∷ fs) in
    omega (arith, length-append (spell class ++ (count ++ items)) later, length-append (spell class) (count ++ items), length-append count items)

-- The length of what a checkpoint has after its size.
pub tail_length : (a b d k n g : List ℕ) → length (a ++ (b ++ (d ++ (k ++ (n ++ g))))) ≡ length a + (length b + (length d + (length k + (length n + length g))))
tail_length a b d k n g =
    omega (arith, length-append a (b ++ (d ++ (k ++ (n ++ g)))), length-append b (d ++ (k ++ (n ++ g))), length-append d (k ++ (n ++ g)), length-append k (n ++ g), length-append n g)

module _ (p : Parts) (sound : Sound p.classes) (new : ℕ × ℕ → ℕ) (most : (t : ℕ × ℕ) → new t ≤ t.1) where
  one_short : (e : EntryAt) → IsEntryIn p.bytes p.classes e → length (entry_bytes new p e) ≤ length (old.entry_bytes p.bytes e)
  one_short e s =
      let a = spell_short (slice_range p.bytes e.key_at e.value_at) (new (pair_of e)) e.key s.key.spelled (most (pair_of e)) in
      let b = node_short new p.classes sound p.bytes (entry_node e) s.value (entry_is p.classes p.bytes e s) most in
      let o : e.key_at ≤ e.value_at = s.key.order in
      let w : e.value_at ≤ e.end = s.order in
      omega (
        arith,
        a,
        b,
        range_length p.bytes e.key_at e.value_at s.key.within,
        range_length p.bytes e.key_at e.end s.within,
        length-append (spell (new (pair_of e))) (rekeyed_bytes new p.classes p.bytes (entry_node e)),
      )

  under_short : (fs ms : List Bool) (xs : List EntryAt) → Under fs ms → AllByRecursion (IsEntryIn p.bytes p.classes) (marked fs xs)
      → length (flat_map (entry_bytes new p) (marked fs xs)) ≤ length (flat_map (old.entry_bytes p.bytes) (marked ms xs))
  under_short [] ms xs u a = omega arith
  under_short (f ∷ fs) ms [] u a = omega arith
  under_short (true ∷ fs) [] (x ∷ xs) u a = let e = u.0 in cc
  under_short (false ∷ fs) [] (x ∷ xs) u a = under_short fs [] xs u.1 a
  under_short (true ∷ fs) (true ∷ ms) (x ∷ xs) u a =
      let i = under_short fs ms xs u.1 a.1 in
      let j = one_short x a.0 in
      omega (arith, length-append (entry_bytes new p x) (flat_map (entry_bytes new p) (marked fs xs)), length-append (old.entry_bytes p.bytes x) (flat_map (old.entry_bytes p.bytes) (marked ms xs)))
  under_short (true ∷ fs) (false ∷ ms) (x ∷ xs) u a = let e = u.0 refl in cc
  under_short (false ∷ fs) (true ∷ ms) (x ∷ xs) u a =
      let i = under_short fs ms xs u.1 a in
      omega (arith, length-append (old.entry_bytes p.bytes x) (flat_map (old.entry_bytes p.bytes) (marked ms xs)))
  under_short (false ∷ fs) (false ∷ ms) (x ∷ xs) u a = under_short fs ms xs u.1 a

  -- Groups that are no more, and with new keys no longer.
  pub record Shorter (gs hs : List Group) : Type 0 where
    pub count : length gs ≤ length hs
    pub bytes : length (flat_map (group_bytes new p) gs) ≤ length (flat_map (old.group_bytes p.bytes) hs)

  front_short : (number class : ℕ) (fs es : List EntryAt) (gs hs : List Group) → length fs ≤ length es → length (flat_map (entry_bytes new p) fs) ≤ length (flat_map (old.entry_bytes p.bytes) es)
      → Shorter gs hs → Shorter (in_front number class fs gs) (in_front number class es hs)
  front_short number class [] [] gs hs n b s = s
  front_short number class [] (e ∷ es) gs hs n b s = record { count = omega (arith, s.count); bytes = omega (arith, s.bytes, front_length (old.entry_bytes p.bytes) number class e es hs) }
  front_short number class (f ∷ fs) [] gs hs n b s = absurd (omega (arith, n))
  front_short number class (f ∷ fs) (e ∷ es) gs hs n b s =
      let m = number_short (length (f ∷ fs)) (length (e ∷ es)) n in
      record {
        count = omega (arith, s.count);
        bytes = omega
            (arith, s.bytes, m, b, front_length (entry_bytes new p) number class f fs gs, front_length (old.entry_bytes p.bytes) number class e es hs);
      }

  none_short : Shorter [] []
  none_short = record { count = omega arith; bytes = omega arith }

  -- The groups of a pool's entries, before those of later pools.
  split_groups : (checkpoint number : ℕ) (q : PoolAt) (ps : List PoolAt) (marks : List Bool)
      → by_pool (marked marks (map (entry_of checkpoint number q.class) q.constants ++ entries_from checkpoint (number + 1) ps))
      ≡ in_front number q.class (marked marks (map (entry_of checkpoint number q.class) q.constants))
      (by_pool (marked (drop (length (map (entry_of checkpoint number q.class) q.constants)) marks) (entries_from checkpoint (number + 1) ps)))
  split_groups checkpoint number q ps marks =
      let these : List EntryAt = map (entry_of checkpoint number q.class) q.constants in
      let rest : List EntryAt = entries_from checkpoint (number + 1) ps in
      let more : List Bool = drop (length these) marks in
      ap by_pool (marked_append marks these rest)
      ∙ by_front number q.class (marked marks these) (marked more rest)
      (all_marked (λ e. (e.pool ≡ number) × (e.class ≡ q.class)) marks these (of_pool checkpoint number q.class q.constants))
      (apart number (marked more rest) (all_marked (λ e. number < e.pool) more rest (later_pools checkpoint number (number + 1) ps (omega arith))))

  pub pools_short : (checkpoint number : ℕ) (pools : List PoolAt) (fs ms : List Bool) → Under fs ms → AllByRecursion (IsEntryIn p.bytes p.classes) (marked fs (entries_from checkpoint number pools))
      → Shorter (by_pool (marked fs (entries_from checkpoint number pools))) (by_pool (marked ms (entries_from checkpoint number pools)))
  pools_short checkpoint number [] fs ms u a = subst (λ z. Shorter (by_pool z) (by_pool (marked ms []))) (sym (marked_none fs)) (subst (λ z. Shorter [] (by_pool z)) (sym (marked_none ms)) none_short)
  pools_short checkpoint number (q ∷ ps) fs ms u a =
      let these : List EntryAt = map (entry_of checkpoint number q.class) q.constants in
      let rest : List EntryAt = entries_from checkpoint (number + 1) ps in
      let n : ℕ = length these in
      let b = all_parts (IsEntryIn p.bytes p.classes) (marked fs these) (marked (drop n fs) rest) (subst (AllByRecursion (IsEntryIn p.bytes p.classes)) (marked_append fs these rest) a) in
      let i = pools_short checkpoint (number + 1) ps (drop n fs) (drop n ms) (under_drop n fs ms u) b.1 in
      let s = front_short number q.class (marked fs these) (marked ms these) (by_pool (marked (drop n fs) rest)) (by_pool (marked (drop n ms) rest)) (under_fewer fs ms these u)
      (under_short fs ms these u b.0) i in
      subst (λ z. Shorter z (by_pool (marked ms (these ++ rest)))) (sym (split_groups checkpoint number q ps fs))
      (subst (λ z. Shorter (in_front number q.class (marked fs these) (by_pool (marked (drop n fs) rest))) z) (sym (split_groups checkpoint number q ps ms)) s)

  -- The entries of one checkpoint.
  abbrev of_one : ℕ → List EntryAt → List EntryAt
  of_one n es = filter (λ e. e.checkpoint == n) es

  none_of : (n : ℕ) (es : List EntryAt) → NotOf n es → of_one n es ≡ []
  none_of n [] a = refl
  none_of n (e ∷ es) a = rw a.0 (none_of n es a.1)

  block_here : (n : ℕ) (marks : List Bool) (block later : List EntryAt) → Of n block → NotOf n later → of_one n (marked marks (block ++ later)) ≡ marked marks block
  block_here n marks block later b d =
      let more : List Bool = drop (length block) marks in
      ap (of_one n) (marked_append marks block later)
      ∙ block_only n [] (marked marks block) (marked more later) tt (all_marked (λ e. e.checkpoint ≡ n) marks block b) (all_marked (λ e. (e.checkpoint == n) ≡ false) more later d)

  block_there : (n : ℕ) (marks : List Bool) (block later : List EntryAt) → NotOf n block → of_one n (marked marks (block ++ later)) ≡ of_one n (marked (drop (length block) marks) later)
  block_there n marks block later b =
      let more : List Bool = drop (length block) marks in
      ap (of_one n) (marked_append marks block later)
      ∙ (filter-append (λ e. e.checkpoint == n) (marked marks block) (marked more later)
      ∙ ap (λ z. z ++ of_one n (marked more later)) (none_of n (marked marks block) (all_marked (λ e. (e.checkpoint == n) ≡ false) marks block b)))

  pub numbers_short : (number : ℕ) (ls : List Link) (es : List EntryAt) (fs ms : List Bool) → Under fs ms → AreEntries p.bytes p.classes number ls es
      → (i : ℕ) → AllByRecursion (IsEntryIn p.bytes p.classes) (of_one i (marked fs es)) → Shorter (by_pool (of_one i (marked fs es))) (by_pool (of_one i (marked ms es)))
  numbers_short number [] es fs ms u a i s =
      subst (λ z. Shorter (by_pool (of_one i (marked fs z))) (by_pool (of_one i (marked ms z)))) (sym a)
      (subst (λ z. Shorter (by_pool (of_one i z)) (by_pool (of_one i (marked ms [])))) (sym (marked_none fs)) (subst (λ z. Shorter [] (by_pool (of_one i z))) (sym (marked_none ms)) none_short))
  numbers_short number (l ∷ ls) es fs ms u a i s =
      subst (λ z. Shorter (by_pool (of_one i (marked fs z))) (by_pool (of_one i (marked ms z)))) (sym a.3)
      (by_test (numbers_short (number + 1) ls a.2 (drop (length (entries_from number 0 a.0)) fs) (drop (length (entries_from number 0 a.0)) ms)
      (under_drop (length (entries_from number 0 a.0)) fs ms u) a.4 i) (number == i) refl (subst (λ z. AllByRecursion (IsEntryIn p.bytes p.classes) (of_one i (marked fs z))) a.3 s))
    where
      n : ℕ
      n = length (entries_from number 0 a.0)

      Later : Type 0
      Later = AllByRecursion (IsEntryIn p.bytes p.classes) (of_one i (marked (drop n fs) a.2)) → Shorter (by_pool (of_one i (marked (drop n fs) a.2))) (by_pool (of_one i (marked (drop n ms) a.2)))

      by_test : Later → (t : Bool) → (number == i) ≡ t → AllByRecursion (IsEntryIn p.bytes p.classes) (of_one i (marked fs (entries_from number 0 a.0 ++ a.2)))
          → Shorter (by_pool (of_one i (marked fs (entries_from number 0 a.0 ++ a.2)))) (by_pool (of_one i (marked ms (entries_from number 0 a.0 ++ a.2))))
      by_test r true e st =
          let q : number ≡ i = exact_unsigned_eq number i e in
          let mine : Of i (entries_from number 0 a.0) = subst (λ z. Of z (entries_from number 0 a.0)) q (of_number number 0 a.0) in
          let none : NotOf i a.2 = later_numbers p.bytes p.classes i (number + 1) ls a.2 (omega arith) a.4 in
          let x = block_here i fs (entries_from number 0 a.0) a.2 mine none in
          let y = block_here i ms (entries_from number 0 a.0) a.2 mine none in
          subst (λ z. Shorter (by_pool z) (by_pool (of_one i (marked ms (entries_from number 0 a.0 ++ a.2))))) (sym x)
          (subst (λ z. Shorter (by_pool (marked fs (entries_from number 0 a.0))) (by_pool z)) (sym y) (pools_short number 0 a.0 fs ms u (subst (AllByRecursion (IsEntryIn p.bytes p.classes)) x st)))
      by_test r false e st =
          let none : NotOf i (entries_from number 0 a.0) = others number i (entries_from number 0 a.0) (λ q. differ q e) (of_number number 0 a.0) in
          let x = block_there i fs (entries_from number 0 a.0) a.2 none in
          let y = block_there i ms (entries_from number 0 a.0) a.2 none in
          subst (λ z. Shorter (by_pool z) (by_pool (of_one i (marked ms (entries_from number 0 a.0 ++ a.2))))) (sym x)
          (subst (λ z. Shorter (by_pool (of_one i (marked (drop n fs) a.2))) (by_pool z)) (sym y) (r (subst (AllByRecursion (IsEntryIn p.bytes p.classes)) x st)))
        where
          differ : number ≡ i → (number == i) ≡ false → ⊥
          differ q e = let f : (number == i) ≡ true = is_eq number i q in cc

  -- A delta is no longer if neither or both have an older checkpoint.
  delta_short : (at other : ℕ) (older elder : Option ℕ) → is_some older ≡ is_some elder → other < 2 ^ 63 → length (spell (distance at older)) ≤ length (spell (distance other elder))
  delta_short at other None None e h = omega arith
  delta_short at other None (Some y) e h = cc
  delta_short at other (Some x) None e h = cc
  delta_short at other (Some x) (Some y) e h =
      let d : ℕ = distance other (Some y) in
      let big : 72057594037927936 ≤ d = omega (arith, h) in
      omega (arith, spell_most (distance at (Some x)), nine_bytes (spell d) d (spell_spells d) big)

  -- A checkpoint is no longer.
  pub checkpoint_short : (l : Link) (at other : ℕ) (older elder : Option ℕ) (gs hs : List Group) → is_some older ≡ is_some elder → other < 2 ^ 63 → Shorter gs hs
      → length (sized (l.frame.type_at - l.frame.at) (checkpoint_tail new p l (distance at older) gs)) ≤ length (old.checkpoint_bytes p.bytes l (distance other elder) hs)
  checkpoint_short l at other older elder gs hs e h s =
      let n : ℕ = l.frame.type_at - l.frame.at in
      let c : List ℕ = p.bytes in
      let a : List ℕ = slice_range c l.frame.type_at l.frame.body in
      let b : List ℕ = slice_range c l.frame.body l.delta_at in
      let k : List ℕ = slice_range c l.delta_end (l.delta_end + 1) in
      let dx : List ℕ = spell (distance at older) in
      let dy : List ℕ = spell (distance other elder) in
      let nx : List ℕ = spell (length gs) in
      let ny : List ℕ = spell (length hs) in
      let gx : List ℕ = flat_map (group_bytes new p) gs in
      let gy : List ℕ = flat_map (old.group_bytes c) hs in
      let d = delta_short at other older elder e h in
      let m = number_short (length gs) (length hs) s.count in
      let tails : length (checkpoint_tail new p l (distance at older) gs) ≤ length (old.checkpoint_tail c l (distance other elder) hs) =
      omega (arith, s.bytes, tail_length a b dx k nx gx, tail_length a b dy k ny gy) in
      omega (arith, tails, sized_length n (checkpoint_tail new p l (distance at older) gs), sized_length n (old.checkpoint_tail c l (distance other elder) hs))
