-- The later stages of reading a chunk: what is computed is there, or is the first flaw, and the converse.
use Rattle.std.specs.Prelude.{◌≡◌, ℕ, ◌+◌, ◌≤◌, Bool, true, false, ◌&&◌, ◌==◌, List, [], ◌∷◌, ◌++◌, find, All, Option, Some, None, Result, Ok, Err, if◌then◌else◌}
use Rattle.std.specs.List.{AllByRecursion}
use Rattle.std.proofs.Common.{ap, arith, refl, sym, ◌∙◌, subst, inl, inr}
use Rattle.std.proofs.lemmas.List.Elements.{All-cons, All-nil, All-head, All-tail}
use Rattle.std.proofs.lemmas.Map.Views.{exact_unsigned_eq}
use Rattle.jfr_base.specs.declared.flaw.Flaw.{Flaw}
use Rattle.jfr_base.specs.declared.reason.Reason.{Reason}
use Rattle.jfr_base.specs.Formats.{Format, Done, Stop, ◌>>=◌, times, Reads, Fails, Answer, run}
use Rattle.jfr_base.proofs.Exact.{ReadsOrFails, run_reads_or_fails}
use Rattle.jfr_base.proofs.OneAnswer.{reads_computed, fails_computed}
use Rattle.jfr_base.proofs.ReadLaws.{reads_parted, reads_within}
use Rattle.jfr_layout.specs.Classes.{Classes}
use Rattle.jfr_frame.specs.declared.framed.Framed.{Framed}
use Rattle.jfr_frame.specs.Records.{IsRecord, record_end, record_there}
use Rattle.jfr_frame.proofs.RecordLaws.{record_one}
use Rattle.jfr_value.specs.Values.{Value}
use Rattle.jfr_value.specs.Reading.{value_format}
use Rattle.jfr_pool.specs.declared.link.Link.{Link}
use Rattle.jfr_pool.specs.declared.entry.EntryAt.{EntryAt}
use Rattle.jfr_pool.specs.Entries.{inline, PoolAt, pool_format, checkpoint_format, entries_from, AreEntries, before_entries, entries_by, entries_of}
use Rattle.jfr_chunk.specs.Parts.{StartsAt, HasFields}
use Rattle.jfr_chunk.specs.Refusal.{FirstFails, fields_by, events_checked}
use Rattle.jfr_worklist.specs.Members.{In}
use Rattle.jfr_worklist.proofs.Members.{contains_in, in_contains}
use Rattle.jfr_chunk.proofs.AllLaws.{all_in}
use Rattle.jfr_chunk.proofs.TestLaws.{left_true, right_true, is_eq}

pub flaw_is : (e : Flaw) (o : ℕ) (why : Reason) → e.offset ≡ o → e.reason ≡ why → record { offset = o; reason = why } ≡ e
flaw_is e o why p q =
    let flaw : ℕ → Reason → Flaw = λ o r. record { offset = o; reason = r } in
    ap (λ z. flaw z why) (sym p) ∙ ap (λ z. flaw e.offset z) (sym q)

-- What a test finds passes it.
pub found_in : {X : Type 0} (t : X → Bool) (xs : List X) (x : X) → find t xs ≡ Some x → In xs x × (t x ≡ true)
found_in t [] x e = cc
found_in {X = X} t (y ∷ ys) x e = by_test (t y) refl e (found_in t ys x)
  where
    by_test : (b : Bool) → t y ≡ b → (if b then Some y else find t ys) ≡ Some x → (find t ys ≡ Some x → In ys x × (t x ≡ true)) → In (y ∷ ys) x × (t x ≡ true)
    by_test true h e f = let g : y ≡ x = cc in (inl g, subst (λ z. t z ≡ true) g h)
    by_test false h e f = let g = f e in (inr g.0, g.1)

none_found : {X : Type 0} (t : X → Bool) (xs : List X) (x : X) → find t xs ≡ None → In xs x → t x ≡ true → ⊥
none_found t [] x e i h = i
none_found {X = X} t (y ∷ ys) x e i h = by_test (t y) refl e i (none_found t ys x)
  where
    by_test : (b : Bool) → t y ≡ b → (if b then Some y else find t ys) ≡ None → In (y ∷ ys) x → (find t ys ≡ None → In ys x → t x ≡ true → ⊥) → ⊥
    by_test true g e i f = cc
    by_test false g e (inl q) f = let z : t y ≡ true = ap t q ∙ h in cc
    by_test false g e (inr j) f = f e j h

pub there_starts : (rs : List Framed) (at type_id : ℕ) (r : Framed) → record_there rs at type_id ≡ Some r → StartsAt rs at type_id r
there_starts rs at type_id r e =
    let f = found_in (λ (z : Framed). (z.at == at) && (z.type_id == type_id)) rs r e in
    record {
      listed = in_contains rs r f.0;
      place = exact_unsigned_eq r.at at (left_true (r.at == at) (r.type_id == type_id) f.1);
      type_is = exact_unsigned_eq r.type_id type_id (right_true (r.at == at) (r.type_id == type_id) f.1);
    }

pub none_starts : (rs : List Framed) (at type_id : ℕ) → record_there rs at type_id ≡ None → (r : Framed) → StartsAt rs at type_id r → ⊥
none_starts rs at type_id e r s =
    none_found (λ (z : Framed). (z.at == at) && (z.type_id == type_id)) rs r e (contains_in rs r s.listed)
    (ap (λ b. b && (r.type_id == type_id)) (is_eq r.at at s.place) ∙ is_eq r.type_id type_id s.type_is)

pub starts_there : (c : List ℕ) (rs : List Framed) (at type_id : ℕ) (r : Framed) → AllByRecursion (IsRecord c) rs → StartsAt rs at type_id r → record_there rs at type_id ≡ Some r
starts_there c rs at type_id r each s = by_found (record_there rs at type_id) refl
  where
    by_found : (o : Option Framed) → record_there rs at type_id ≡ o → o ≡ Some r
    by_found None e = absurd (none_starts rs at type_id e r s)
    by_found (Some q) e =
        let t = there_starts rs at type_id q e in
        ap (λ z. Some z) (record_one c q r (all_in (IsRecord c) rs q each (contains_in rs q t.listed)) (all_in (IsRecord c) rs r each (contains_in rs r s.listed)) (t.place ∙ sym s.place))

pub starts_none : (rs : List Framed) (at type_id : ℕ) → ((r : Framed) → StartsAt rs at type_id r → ⊥) → record_there rs at type_id ≡ None
starts_none rs at type_id n = by_found (record_there rs at type_id) refl
  where
    by_found : (o : Option Framed) → record_there rs at type_id ≡ o → o ≡ None
    by_found None e = refl
    by_found (Some q) e = absurd (n q (there_starts rs at type_id q e))

-- A format whose last unit is the end stops there.
pub to_end : {A : Type 0} (f : Format A) (c : List ℕ) (end at : ℕ) (a : A) (to : ℕ) → at ≤ end → Reads (f >>= λ b. Stop (Done b)) c end at a to → to ≡ end
to_end f c end at a to h r =
    let s = reads_parted f (λ b. Stop (Done b)) c end at a to r in
    let w : s.place ≤ end = reads_within f c end at s.value s.place h s.first in
    let l : end ≤ s.place = s.second.0 in
    let e : to ≡ s.place = s.second.1.1 in
    omega arith

pub checkpoint_end : (k : Classes) (c : List ℕ) (end at : ℕ) (xs : List PoolAt) (to : ℕ) → Reads (checkpoint_format k) c end at xs to → to ≡ end
unfolding checkpoint_format
checkpoint_end k c end at xs to r = let s = r.5.5.5.1 in to_end (times s.1 (pool_format k)) c end s.0 xs to s.3 s.5

-- The first failure of a list, one member further.
first_more : {X : Type 0} (Good : X → Type 0) (Bad : X → ℕ → Reason → Type 0) (x : X) (xs : List X) (f : Flaw) → Good x → FirstFails Good Bad xs f → FirstFails Good Bad (x ∷ xs) f
first_more Good Bad x xs f g h = record { before = x ∷ h.before; first = h.first; after = h.after; parts = ap (λ z. x ∷ z) h.parts; good = All-cons Good x h.before g h.good; fails = h.fails }

first_here : {X : Type 0} (Good : X → Type 0) (Bad : X → ℕ → Reason → Type 0) (x : X) (xs : List X) (f : Flaw) → Bad x f.offset f.reason → FirstFails Good Bad (x ∷ xs) f
first_here Good Bad x xs f b = record { before = []; first = x; after = xs; parts = refl; good = All-nil Good; fails = b }

-- The events.
module _ (c : List ℕ) (k : Classes) (all : List Framed) where
  abbrev pub FieldsFail : Framed → ℕ → Reason → Type 0
  FieldsFail r = Fails (value_format k (inline r.type_id)) c (record_end r) r.body

  abbrev pub EventsTell : List Framed → Result (List Framed) Flaw → Type 0
  EventsTell rs (Ok es) = AllByRecursion (HasFields c k) rs
  EventsTell rs (Err f) = FirstFails (HasFields c k) FieldsFail rs f

  pub events_tell : (rs : List Framed) → AllByRecursion (IsRecord c) rs → EventsTell rs (events_checked c k all rs)
  events_tell [] i = tt
  events_tell (r ∷ rs) i =
      by_answer (run (value_format k (inline r.type_id)) c (record_end r) r.body) (events_checked c k all rs)
      (run_reads_or_fails (value_format k (inline r.type_id)) c (record_end r) r.body i.0.covers i.0.within) (events_tell rs i.1)
    where
      by_answer : (a : Answer Value) (later : Result (List Framed) Flaw) → ReadsOrFails (value_format k (inline r.type_id)) c (record_end r) r.body a → EventsTell rs later
          → EventsTell (r ∷ rs) (fields_by a later)
      by_answer (Ok g) (Ok es) s t = ((g.value, g.place, s), t)
      by_answer (Ok g) (Err f) s t = first_more (HasFields c k) FieldsFail r rs f (g.value, g.place, s) t
      by_answer (Err e) later s t = first_here (HasFields c k) FieldsFail r rs e s

  pub events_ok : (rs : List Framed) → AllByRecursion (IsRecord c) rs → AllByRecursion (HasFields c k) rs → events_checked c k all rs ≡ Ok all
  events_ok [] i h = refl
  events_ok (r ∷ rs) i h =
      ap (λ a. fields_by a (events_checked c k all rs)) (reads_computed c (record_end r) i.0.within (value_format k (inline r.type_id)) r.body h.0.0 h.0.1 i.0.covers h.0.2)
      ∙ events_ok rs i.1 h.1

  events_first : (before : List Framed) (r : Framed) (after : List Framed) (f : Flaw) → AllByRecursion (IsRecord c) (before ++ r ∷ after) → All (HasFields c k) before → FieldsFail r f.offset f.reason
      → events_checked c k all (before ++ r ∷ after) ≡ Err f
  events_first [] r after f i g b =
      ap (λ a. fields_by a (events_checked c k all after)) (fails_computed c (record_end r) i.0.within (value_format k (inline r.type_id)) r.body f.offset f.reason i.0.covers b)
  events_first (x ∷ before) r after f i g b =
      let h = All-head (HasFields c k) x before g in
      ap (λ a. fields_by a (events_checked c k all (before ++ r ∷ after))) (reads_computed c (record_end x) i.0.within (value_format k (inline x.type_id)) x.body h.0 h.1 i.0.covers h.2)
      ∙ events_first before r after f i.1 (All-tail (HasFields c k) x before g) b

  pub events_err : (rs : List Framed) (f : Flaw) → AllByRecursion (IsRecord c) rs → FirstFails (HasFields c k) FieldsFail rs f → events_checked c k all rs ≡ Err f
  events_err rs f i h = ap (events_checked c k all) h.parts ∙ events_first h.before h.first h.after f (subst (AllByRecursion (IsRecord c)) h.parts i) h.good h.fails

-- The entries.
module _ (c : List ℕ) (k : Classes) where
  abbrev pub IsRead : Link → Type 0
  IsRead l = (es : List EntryAt) × AreEntries c k 0 (l ∷ []) es

  abbrev pub BodyFails : Link → ℕ → Reason → Type 0
  BodyFails l = Fails (checkpoint_format k) c (record_end l.frame) l.frame.body

  abbrev pub EntriesTell : ℕ → List Link → Result (List EntryAt) Flaw → Type 0
  EntriesTell number ls (Ok es) = AreEntries c k number ls es
  EntriesTell number ls (Err f) = FirstFails IsRead BodyFails ls f

  abbrev LinkRecord : Link → Type 0
  LinkRecord l = IsRecord c l.frame

  append_nothing : {X : Type 0} (xs : List X) → xs ++ [] ≡ xs
  append_nothing [] = refl
  append_nothing (x ∷ xs) = ap (λ z. x ∷ z) (append_nothing xs)

  read_alone : (l : Link) (pools : List PoolAt) → Reads (checkpoint_format k) c (record_end l.frame) l.frame.body pools (record_end l.frame) → IsRead l
  read_alone l pools r = (entries_from 0 0 pools, (pools, r, [], sym (append_nothing (entries_from 0 0 pools)), refl))

  pub entries_tell : (number : ℕ) (ls : List Link) → AllByRecursion LinkRecord ls → EntriesTell number ls (entries_of c k number ls)
  entries_tell number [] i = refl
  entries_tell number (l ∷ ls) i =
      by_answer (run (checkpoint_format k) c (record_end l.frame) l.frame.body) (entries_of c k (number + 1) ls)
      (run_reads_or_fails (checkpoint_format k) c (record_end l.frame) l.frame.body i.0.covers i.0.within) (entries_tell (number + 1) ls i.1)
    where
      by_answer : (a : Answer (List PoolAt)) (later : Result (List EntryAt) Flaw) → ReadsOrFails (checkpoint_format k) c (record_end l.frame) l.frame.body a → EntriesTell (number + 1) ls later
          → EntriesTell number (l ∷ ls) (entries_by number a later)
      by_answer (Ok g) (Ok es) s t =
          let r = subst (λ to. Reads (checkpoint_format k) c (record_end l.frame) l.frame.body g.value to) (checkpoint_end k c (record_end l.frame) l.frame.body g.value g.place s) s in
          (g.value, r, es, refl, t)
      by_answer (Ok g) (Err f) s t =
          let r = subst (λ to. Reads (checkpoint_format k) c (record_end l.frame) l.frame.body g.value to) (checkpoint_end k c (record_end l.frame) l.frame.body g.value g.place s) s in
          first_more IsRead BodyFails l ls f (read_alone l g.value r) t
      by_answer (Err e) later s t = first_here IsRead BodyFails l ls e s

  computed : (l : Link) (pools : List PoolAt) → IsRecord c l.frame → Reads (checkpoint_format k) c (record_end l.frame) l.frame.body pools (record_end l.frame)
      → run (checkpoint_format k) c (record_end l.frame) l.frame.body ≡ Ok (record { value = pools; place = record_end l.frame })
  computed l pools i r = reads_computed c (record_end l.frame) i.within (checkpoint_format k) l.frame.body pools (record_end l.frame) i.covers r

  pub entries_ok : (number : ℕ) (ls : List Link) (es : List EntryAt) → AllByRecursion LinkRecord ls → AreEntries c k number ls es → entries_of c k number ls ≡ Ok es
  entries_ok number [] es i h = ap (λ z. Ok z) (sym h)
  entries_ok number (l ∷ ls) es i h =
      ap (λ a. entries_by number a (entries_of c k (number + 1) ls)) (computed l h.0 i.0 h.1)
      ∙ (ap (before_entries (entries_from number 0 h.0)) (entries_ok (number + 1) ls h.2 i.1 h.4) ∙ ap (λ z. Ok z) (sym h.3))

  entries_first : (number : ℕ) (before : List Link) (l : Link) (after : List Link) (f : Flaw) → AllByRecursion LinkRecord (before ++ l ∷ after) → All IsRead before → BodyFails l f.offset f.reason
      → entries_of c k number (before ++ l ∷ after) ≡ Err f
  entries_first number [] l after f i g b =
      ap (λ a. entries_by number a (entries_of c k (number + 1) after)) (fails_computed c (record_end l.frame) i.0.within (checkpoint_format k) l.frame.body f.offset f.reason i.0.covers b)
  entries_first number (x ∷ before) l after f i g b =
      let h = All-head IsRead x before g in
      ap (λ a. entries_by number a (entries_of c k (number + 1) (before ++ l ∷ after))) (computed x h.1.0 i.0 h.1.1)
      ∙ ap (before_entries (entries_from number 0 h.1.0)) (entries_first (number + 1) before l after f i.1 (All-tail IsRead x before g) b)

  pub entries_err : (number : ℕ) (ls : List Link) (f : Flaw) → AllByRecursion LinkRecord ls → FirstFails IsRead BodyFails ls f → entries_of c k number ls ≡ Err f
  entries_err number ls f i h = ap (entries_of c k number) h.parts ∙ entries_first number h.before h.first h.after f (subst (AllByRecursion LinkRecord) h.parts i) h.good h.fails
