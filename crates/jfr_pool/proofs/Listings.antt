-- Entries read one after another.
use Rattle.std.specs.Prelude.{◌≡◌, ℕ, suc, ◌+◌, ◌-◌, ◌<◌, ◌≤◌, List, [], ◌∷◌, ◌++◌, map, Bool, true, false, is_some, Some, None, Result, Ok, Err, nat_lt, if◌then◌else◌}
use Rattle.std.proofs.Common.{ap, arith, refl, sym, ◌∙◌, subst, append_assoc}
use Rattle.std.proofs.lemmas.List.{append-nil}
use Rattle.jfr_base.specs.declared.flaw.Flaw.{Flaw}
use Rattle.jfr_base.specs.declared.flaw.ReadFault.{ReadFault}
use Rattle.jfr_base.specs.declared.flaw.ReadFault.TheVariants.{Flawed, Memory}
use Rattle.jfr_base.specs.declared.integer.Var.{Var}
use Rattle.jfr_base.specs.declared.reason.Reason.TheVariants.{Short, Trailing, PoolType}
use Rattle.jfr_base.specs.Formats.{Format, Done, Stop, Here, ◌>>=◌, Answer, run, end_or_flaw, on, times, integer, int_at, unchecked, after_int, refused, checked}
use Rattle.jfr_base.proofs.FormatLaws.{run-bind}
use Rattle.jfr_layout.specs.Classes.{Classes, find_class}
use Rattle.jfr_value.specs.Values.{Value}
use Rattle.jfr_value.specs.Reading.{value_format}
use Rattle.jfr_pool.specs.declared.checkpoint.PoolId.{PoolId}
use Rattle.jfr_pool.specs.declared.entry.EntryAt.{EntryAt}
use Rattle.jfr_pool.specs.Entries.{inline, Constant, PoolAt, pool_check, constant_format, pool_format, checkpoint_format, entry_of, entries_from}
use Rattle.jfr_pool.specs.Faults.{TellsFlaw}
use Rattle.jfr_pool.specs.Listing.{Listing, listed, single, Adds, entry_in, only_entry, pool_entries, count_format, integer_by}

-- Entries before others.
abbrev pub behind : List EntryAt → Listing → Listing
behind es (Ok l) = Ok (es ++ l.0, l.1)
behind es (Err f) = Err f

-- Some entries, and what follows them.
abbrev pub chained : Listing → (ℕ → Listing) → Listing
chained (Ok l) next = behind l.0 (next l.1)
chained (Err f) next = Err f

behind_behind : (es fs : List EntryAt) (l : Listing) → behind es (behind fs l) ≡ behind (es ++ fs) l
behind_behind es fs (Ok l) = ap (λ z. Ok (z, l.1)) (sym (append_assoc es fs l.0))
behind_behind es fs (Err f) = refl

-- The first of several, and the others.
module _ {A : Type 0} (one : A → List EntryAt) (all rest : List A → List EntryAt) (parts : (a : A) (bs : List A) → all (a ∷ bs) ≡ one a ++ rest bs) where
  listed_rest : (a : A) (r : Answer (List A)) → listed all (on r (λ bs p. Ok (record { value = a ∷ bs; place = p }))) ≡ behind (one a) (listed rest r)
  listed_rest a (Ok g) = ap (λ z. Ok (z, g.place)) (parts a g.value)
  listed_rest a (Err f) = refl

  times_step : (n : ℕ) (f : Format A) (x : List ℕ) (end at : ℕ) → listed all (run (times (suc n) f) x end at) ≡ chained (listed one (run f x end at)) (λ p. listed rest (run (times n f) x end p))
  unfolding run
  times_step n f x end at = ap (listed all) (run-bind f (λ a. times n f >>= λ bs. Done (a ∷ bs)) x end at) ∙ by_first (run f x end at)
    where
      by_first : (r : Answer A) → listed all (on r (λ a p. run (times n f >>= λ bs. Done (a ∷ bs)) x end p)) ≡ chained (listed one r) (λ p. listed rest (run (times n f) x end p))
      by_first (Ok g) = ap (listed all) (run-bind (times n f) (λ bs. Done (g.value ∷ bs)) x end g.place) ∙ listed_rest g.value (run (times n f) x end g.place)
      by_first (Err e) = refl

  pub left_step : (n i : ℕ) (f : Format A) (x : List ℕ) (end at : ℕ) → i < n
      → listed all (run (times (n - i) f) x end at) ≡ chained (listed one (run f x end at)) (λ p. listed rest (run (times (n - (i + 1)) f) x end p))
  left_step n i f x end at h = let e : n - i ≡ suc (n - (i + 1)) = omega arith in rw e (times_step (n - (i + 1)) f x end at)

pub none_left : {A : Type 0} (all : List A → List EntryAt) (n i : ℕ) (f : Format A) (x : List ℕ) (end at : ℕ) → all [] ≡ [] → n ≤ i → listed all (run (times (n - i) f) x end at) ≡ Ok ([], at)
unfolding run
none_left all n i f x end at q h = let e : n - i ≡ 0 = omega arith in ap (λ k. listed all (run (times k f) x end at)) e ∙ ap (λ z. Ok (z, at)) q

-- Some entries of a whole are added, and this is left.
pub record Adding (whole : Listing) (old new : List EntryAt) (left : Listing) : Type 0 where
  pub added : List EntryAt
  pub items : new ≡ old ++ added
  pub same : whole ≡ behind added left

pub adding_none : (whole left : Listing) (old new : List EntryAt) → new ≡ old → left ≡ whole → Adding whole old new left
adding_none whole left old new e q = record { added = []; items = e ∙ sym (append-nil old); same = sym q ∙ by_left left }
  where
    by_left : (l : Listing) → l ≡ behind [] l
    by_left (Ok l) = refl
    by_left (Err f) = refl

module _ (whole left one : Listing) (next : ℕ → Listing) (old new : List EntryAt) (h : Adding whole old new left) (step : left ≡ chained one next) where
  pub adding_more : (es more : List EntryAt) (p : ℕ) → one ≡ Ok (es, p) → more ≡ new ++ es → Adding whole old more (next p)
  adding_more es more p e q = record {
    added = h.added ++ es;
    items = q ∙ ap (λ z. z ++ es) h.items ∙ append_assoc old h.added es;
    same = h.same ∙ ap (behind h.added) (step ∙ ap (λ l. chained l next) e) ∙ behind_behind h.added es (next p);
  }

  pub adding_stops : (f : Flaw) → one ≡ Err f → whole ≡ Err f
  adding_stops f e = h.same ∙ ap (behind h.added) (step ∙ ap (λ l. chained l next) e)

  pub adding_fault : (fault : ReadFault) → TellsFlaw one fault → TellsFlaw whole fault
  adding_fault (Flawed f) e = adding_stops f e
  adding_fault Memory e = tt

pub adding_done : (whole left : Listing) (old new : List EntryAt) (to : ℕ) → Adding whole old new left → left ≡ Ok ([], to) → Adds whole old new (Ok to)
adding_done whole left old new to h e = (h.added ++ [], h.same ∙ ap (behind h.added) e, h.items ∙ ap (λ z. old ++ z) (sym (append-nil h.added)))

-- What adds the one adds the other.
pub adds_same : (one other : Listing) (old new : List EntryAt) (r : Result ℕ ReadFault) → other ≡ one → Adds one old new r → Adds other old new r
adds_same one other old new r e h = subst (λ l. Adds l old new r) (sym e) h

pub none_yet : {A : Type 0} (all : List A → List EntryAt) (n : ℕ) (f : Format A) (x : List ℕ) (end at : ℕ) → listed all (run (times (n - 0) f) x end at) ≡ listed all (run (times n f) x end at)
none_yet all n f x end at = let e : n - 0 ≡ n = omega arith in ap (λ k. listed all (run (times k f) x end at)) e

-- So many entries of a pool.
module _ (pool : PoolId) (k : Classes) (x : List ℕ) (end at count : ℕ) where
  abbrev pub entries_at : ℕ → ℕ → Listing
  entries_at n p = listed (map (entry_in pool)) (run (times n (constant_format k pool.class)) x end p)

  abbrev pub entry_there : ℕ → Listing
  entry_there p = listed (only_entry pool) (run (constant_format k pool.class) x end p)

  entry_step : (i p : ℕ) → i < count → entries_at (count - i) p ≡ chained (entry_there p) (λ q. entries_at (count - (i + 1)) q)
  entry_step i p h = left_step (only_entry pool) (map (entry_in pool)) (map (entry_in pool)) (λ a bs. refl) count i (constant_format k pool.class) x end p h

  pub entries_start : (old : List EntryAt) → Adding (entries_at count at) old old (entries_at (count - 0) at)
  entries_start old = adding_none (entries_at count at) (entries_at (count - 0) at) old old refl (none_yet (map (entry_in pool)) count (constant_format k pool.class) x end at)

  pub entries_more : (i p : ℕ) (old new more : List EntryAt) (e : EntryAt) → i < count → Adding (entries_at count at) old new (entries_at (count - i) p) → entry_there p ≡ single (Ok e)
      → more ≡ new ++ e ∷ [] → Adding (entries_at count at) old more (entries_at (count - (i + 1)) e.end)
  entries_more i p old new more e h a s q =
      adding_more (entries_at count at) (entries_at (count - i) p) (entry_there p) (λ q. entries_at (count - (i + 1)) q) old new a (entry_step i p h) (e ∷ []) more e.end s q

  pub entries_stop : (i p : ℕ) (old new : List EntryAt) (f : Flaw) → i < count → Adding (entries_at count at) old new (entries_at (count - i) p) → entry_there p ≡ single (Err f)
      → entries_at count at ≡ Err f
  entries_stop i p old new f h a s = adding_stops (entries_at count at) (entries_at (count - i) p) (entry_there p) (λ q. entries_at (count - (i + 1)) q) old new a (entry_step i p h) f s

  pub entries_done : (i p : ℕ) (old new : List EntryAt) → count ≤ i → Adding (entries_at count at) old new (entries_at (count - i) p) → Adds (entries_at count at) old new (Ok p)
  entries_done i p old new h a = adding_done (entries_at count at) (entries_at (count - i) p) old new p a (none_left (map (entry_in pool)) count i (constant_format k pool.class) x end p refl h)

-- So many pools of a checkpoint.
module _ (checkpoint : ℕ) (k : Classes) (x : List ℕ) (end at count : ℕ) where
  abbrev pub pools_at : ℕ → ℕ → ℕ → Listing
  pools_at number n p = listed (entries_from checkpoint number) (run (times n (pool_format k)) x end p)

  abbrev pub pool_there : ℕ → ℕ → Listing
  pool_there number p = listed (pool_entries checkpoint number) (run (pool_format k) x end p)

  pool_step : (i p : ℕ) → i < count → pools_at i (count - i) p ≡ chained (pool_there i p) (λ q. pools_at (i + 1) (count - (i + 1)) q)
  pool_step i p h = left_step (pool_entries checkpoint i) (entries_from checkpoint i) (entries_from checkpoint (i + 1)) (λ a bs. refl) count i (pool_format k) x end p h

  pub pools_start : (old : List EntryAt) → Adding (pools_at 0 count at) old old (pools_at 0 (count - 0) at)
  pools_start old = adding_none (pools_at 0 count at) (pools_at 0 (count - 0) at) old old refl (none_yet (entries_from checkpoint 0) count (pool_format k) x end at)

  pub pools_more : (i p q : ℕ) (old new more : List EntryAt) → i < count → Adding (pools_at 0 count at) old new (pools_at i (count - i) p) → Adds (pool_there i p) new more (Ok q)
      → Adding (pools_at 0 count at) old more (pools_at (i + 1) (count - (i + 1)) q)
  pools_more i p q old new more h a s = adding_more (pools_at 0 count at) (pools_at i (count - i) p) (pool_there i p) (λ q. pools_at (i + 1) (count - (i + 1)) q) old new a
      (pool_step i p h) s.0 more q s.1 s.2

  pub pools_stop : (i p : ℕ) (old new : List EntryAt) (fault : ReadFault) → i < count → Adding (pools_at 0 count at) old new (pools_at i (count - i) p) → TellsFlaw (pool_there i p) fault
      → TellsFlaw (pools_at 0 count at) fault
  pools_stop i p old new fault h a s = adding_fault (pools_at 0 count at) (pools_at i (count - i) p) (pool_there i p) (λ q. pools_at (i + 1) (count - (i + 1)) q) old new a (pool_step i p h) fault s

  pub pools_done : (i p : ℕ) (old new : List EntryAt) → count ≤ i → Adding (pools_at 0 count at) old new (pools_at i (count - i) p) → Adds (pools_at 0 count at) old new (Ok p)
  pools_done i p old new h a = adding_done (pools_at 0 count at) (pools_at i (count - i) p) old new p a (none_left (entries_from checkpoint i) count i (pool_format k) x end p refl h)

-- An entry: its key, and its value.
abbrev pub valued : PoolId → ℕ → Var → Result ℕ Flaw → Listing
valued pool at v (Ok to) = single (Ok (record { class = pool.class; key = v.value; key_at = at; value_at = v.end; end = to; checkpoint = pool.checkpoint; pool = pool.number }))
valued pool at v (Err f) = Err f

module _ (pool : PoolId) (k : Classes) (x : List ℕ) (end at : ℕ) where
  pub entry_short : int_at x at end ≡ None → listed (only_entry pool) (run (constant_format k pool.class) x end at) ≡ Err (record { offset = at; reason = Short })
  unfolding run
  entry_short e = ap (λ o. listed (only_entry pool)
      (after_int x at unchecked (λ v s p. run (value_format k (inline pool.class) >>= λ value. Here λ to. Done (record { key = v; key_at = at; value_at = p; end = to; value = value })) x end p) o)) e

  pub entry_valued : (v : Var) → int_at x at end ≡ Some v
      → listed (only_entry pool) (run (constant_format k pool.class) x end at) ≡ valued pool at v (end_or_flaw (run (value_format k (inline pool.class)) x end v.end))
  unfolding run
  entry_valued v e =
      ap (λ o. listed (only_entry pool) (after_int x at unchecked
      (λ v s p. run (value_format k (inline pool.class) >>= λ value. Here λ to. Done (record { key = v; key_at = at; value_at = p; end = to; value = value })) x end p) o)) e
      ∙ ap (listed (only_entry pool)) (run-bind (value_format k (inline pool.class)) (λ value. Here λ to. Done (record { key = v.value; key_at = at; value_at = v.end; end = to; value = value })) x end
      v.end)
      ∙ by_value (run (value_format k (inline pool.class)) x end v.end)
    where
      by_value : (r : Answer Value)
          → listed (only_entry pool) (on r (λ value p. run (Here λ to. Done (record { key = v.value; key_at = at; value_at = v.end; end = to; value = value })) x end p)) ≡ valued pool at v (end_or_flaw r)
      by_value (Ok g) = refl
      by_value (Err f) = refl

-- A pool: its class, and its entries.
module _ (checkpoint number : ℕ) (k : Classes) (x : List ℕ) (end at : ℕ) where
  abbrev after_class : ℕ → Format PoolAt
  after_class class = integer >>= λ n. times n (constant_format k class) >>= λ constants. Done (record { class = class; constants = constants })

  abbrev pooled : Answer PoolAt → Listing
  pooled a = listed (pool_entries checkpoint number) a

  pub class_short : int_at x at end ≡ None → pooled (run (pool_format k) x end at) ≡ Err (record { offset = at; reason = Short })
  unfolding run
  class_short e = ap (λ o. pooled (after_int x at (pool_check k) (λ v s p. run (after_class v) x end p) o)) e

  pub class_unknown : (v : Var) → int_at x at end ≡ Some v → is_some (find_class k v.value) ≡ false → pooled (run (pool_format k) x end at) ≡ Err (record { offset = at; reason = PoolType })
  unfolding run
  class_unknown v e u =
      ap (λ o. pooled (after_int x at (pool_check k) (λ v s p. run (after_class v) x end p) o)) e
      ∙ ap (λ b. pooled (checked at (if b then None else Some PoolType) (run (after_class v.value) x end v.end))) u

  class_known : (v : Var) → int_at x at end ≡ Some v → is_some (find_class k v.value) ≡ true → pooled (run (pool_format k) x end at) ≡ pooled (run (after_class v.value) x end v.end)
  unfolding run
  class_known v e u =
      ap (λ o. pooled (after_int x at (pool_check k) (λ v s p. run (after_class v) x end p) o)) e
      ∙ ap (λ b. pooled (checked at (if b then None else Some PoolType) (run (after_class v.value) x end v.end))) u

  pub count_short : (v : Var) → int_at x at end ≡ Some v → is_some (find_class k v.value) ≡ true → int_at x v.end end ≡ None
      → pooled (run (pool_format k) x end at) ≡ Err (record { offset = v.end; reason = Short })
  unfolding run
  count_short v e u q =
      class_known v e u
      ∙ ap (λ o. pooled (after_int x v.end unchecked (λ n s p. run (times n (constant_format k v.value) >>= λ constants. Done (record { class = v.value; constants = constants })) x end p) o)) q

  pub pool_counted : (v : Var) (n : Var) → int_at x at end ≡ Some v → is_some (find_class k v.value) ≡ true → int_at x v.end end ≡ Some n
      → pooled (run (pool_format k) x end at) ≡ listed (map (entry_of checkpoint number v.value)) (run (times n.value (constant_format k v.value)) x end n.end)
  unfolding run
  pool_counted v n e u q =
      class_known v e u
      ∙ ap (λ o. pooled (after_int x v.end unchecked (λ n s p. run (times n (constant_format k v.value) >>= λ constants. Done (record { class = v.value; constants = constants })) x end p) o)) q
      ∙ ap pooled (run-bind (times n.value (constant_format k v.value)) (λ constants. Done (record { class = v.value; constants = constants })) x end n.end)
      ∙ by_constants (run (times n.value (constant_format k v.value)) x end n.end)
    where
      by_constants : (r : Answer (List Constant))
          → pooled (on r (λ constants p. run (Done (record { class = v.value; constants = constants })) x end p)) ≡ listed (map (entry_of checkpoint number v.value)) r
      by_constants (Ok g) = refl
      by_constants (Err f) = refl

-- A checkpoint: its pools, and the end.
module _ (number : ℕ) (k : Classes) (x : List ℕ) (end at : ℕ) where
  abbrev pools_format : ℕ → Format (List PoolAt)
  pools_format n = times n (pool_format k) >>= λ pools. Stop (Done pools)

  abbrev bodied : Answer (List PoolAt) → Listing
  bodied a = listed (entries_from number 0) a

  after_count : run (checkpoint_format k) x end at ≡ on (run count_format x end at) (λ n p. run (pools_format n) x end p)
  unfolding checkpoint_format
  after_count = run-bind count_format pools_format x end at

  pub body_short : (f : Flaw) → Err f ≡ integer_by (run count_format x end at) → bodied (run (checkpoint_format k) x end at) ≡ Err f
  body_short f e = ap bodied after_count ∙ by_count (run count_format x end at) e
    where
      by_count : (r : Answer ℕ) → Err f ≡ integer_by r → bodied (on r (λ n p. run (pools_format n) x end p)) ≡ Err f
      by_count (Ok g) e = cc
      by_count (Err g) e = cc

  -- The end, after the pools.
  abbrev ended : Listing → Listing
  ended (Ok l) = if nat_lt l.1 end then Err (record { offset = l.1; reason = Trailing }) else Ok l
  ended (Err f) = Err f

  body_counted : (n : Var) → Ok n ≡ integer_by (run count_format x end at) → bodied (run (checkpoint_format k) x end at) ≡ ended (bodied (run (times n.value (pool_format k)) x end n.end))
  unfolding run
  body_counted n e = ap bodied after_count ∙ by_count (run count_format x end at) e
    where
      by_pools : (r : Answer (List PoolAt)) → bodied (on r (λ pools p. run (Stop (Done pools)) x end p)) ≡ ended (bodied r)
      by_pools (Ok g) = by_test (nat_lt g.place end)
        where
          by_test : (t : Bool) → bodied (if t then refused g.place Trailing else Ok (record { value = g.value; place = g.place })) ≡ (if t then Err (record { offset = g.place; reason = Trailing }) else Ok (entries_from number 0 g.value, g.place))
          by_test true = refl
          by_test false = refl
      by_pools (Err f) = refl

      by_count : (r : Answer ℕ) → Ok n ≡ integer_by r → bodied (on r (λ n p. run (pools_format n) x end p)) ≡ ended (bodied (run (times n.value (pool_format k)) x end n.end))
      by_count (Ok g) e =
          let q : record { value = g.value; end = g.place } ≡ n = cc in
          let v : g.value ≡ n.value = ap (λ (z : Var). z.value) q in
          let p : g.place ≡ n.end = ap (λ (z : Var). z.end) q in
          ap (λ m. bodied (run (pools_format m) x end g.place)) v ∙ ap (λ m. bodied (run (pools_format n.value) x end m)) p
          ∙ ap bodied (run-bind (times n.value (pool_format k)) (λ pools. Stop (Done pools)) x end n.end) ∙ by_pools (run (times n.value (pool_format k)) x end n.end)
      by_count (Err g) e = cc

  -- What is added of a body whose pools are added.
  module _ (n : Var) (counted : Ok n ≡ integer_by (run count_format x end at)) (old new : List EntryAt) where
    pub body_fault : (fault : ReadFault) → TellsFlaw (bodied (run (times n.value (pool_format k)) x end n.end)) fault → TellsFlaw (bodied (run (checkpoint_format k) x end at)) fault
    body_fault (Flawed f) e = body_counted n counted ∙ ap ended e
    body_fault Memory e = tt

    pub body_trails : (to : ℕ) → Adds (bodied (run (times n.value (pool_format k)) x end n.end)) old new (Ok to) → to < end
        → bodied (run (checkpoint_format k) x end at) ≡ Err (record { offset = to; reason = Trailing })
    body_trails to h i = let t : nat_lt to end ≡ true = grind arith in body_counted n counted ∙ ap ended h.1 ∙ rw t refl

    pub body_ends : (to : ℕ) → Adds (bodied (run (times n.value (pool_format k)) x end n.end)) old new (Ok to) → end ≤ to → Adds (bodied (run (checkpoint_format k) x end at)) old new (Ok to)
    body_ends to h i = let t : nat_lt to end ≡ false = grind arith in (h.0, body_counted n counted ∙ ap ended h.1 ∙ rw t refl, h.2)
