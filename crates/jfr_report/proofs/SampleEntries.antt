-- The checkpoint of a sample: one, with one pool, whose entries are read one after another.
use Rattle.std.specs.Prelude.{◌≡◌, ℕ, ◌+◌, ◌^◌, ◌<◌, ◌≤◌, pos, List, [], ◌∷◌, ◌++◌, length, decimal, reverse, None}
use Rattle.std.specs.List.{range_with_len, AllByRecursion}
use Rattle.std.proofs.Common.{ap, arith, refl, sym, ◌∙◌, subst, length-append, append_assoc, append-nil, inl, inr}
use Rattle.std.proofs.lemmas.List.FromFn.{length-range_with_len}
use Rattle.jfr_base.specs.Integer.{Spells, IntAt, spell}
use Rattle.jfr_base.specs.Formats.{Reads, Done, Stop, Here, times, ◌>>=◌}
use Rattle.jfr_base.proofs.HoldLaws.{Holds, holds_parts, holds_int, placed_each, times_read}
use Rattle.jfr_base.proofs.ReadLaws.{reads_then}
use Rattle.jfr_base.proofs.Spelling.{spell_spells}
use Rattle.jfr_text.specs.Strings.{Utf8}
use Rattle.jfr_frame.specs.declared.framed.Framed.{Framed}
use Rattle.jfr_frame.specs.Records.{IsRecord, record_end}
use Rattle.jfr_frame.specs.Written.{record_in}
use Rattle.jfr_frame.proofs.WrittenRecords.{framed, length-record_in, spelled_int, written_record}
use Rattle.jfr_layout.specs.Classes.{kind_of}
use Rattle.jfr_layout.specs.declared.kind.Kind.TheVariants as kinds
use Rattle.jfr_value.specs.declared.leaf.LeafKind.TheVariants as leaf_kinds
use Rattle.jfr_value.specs.Values.{Value, Single, Group, Nil, Cons, Fits, bytes_of}
use Rattle.jfr_value.specs.Reading.{value_format}
use Rattle.jfr_pool.specs.declared.link.Link.{Link}
use Rattle.jfr_pool.specs.declared.entry.EntryAt.{EntryAt}
use Rattle.jfr_pool.specs.Chains.{head_format}
use Rattle.jfr_pool.specs.Entries.{Constant, PoolAt, AreEntries, checkpoint_format, constant_format, entries_from, inline, pool_check, pool_format}
use Rattle.jfr_sample.specs.Metadata.{string_of}
use Rattle.jfr_sample.specs.Sample.{next_of, entry, entries_to, checkpoint}
use Rattle.jfr_report.proofs.SampleMetadata.{node_class, text_class, sample_classes, classes_sound, plain}
use Rattle.jfr_report.proofs.SampleValues.{value_read}
use Rattle.jfr_report.proofs.SampleEvents.{node_value}

-- The value of entry n.
abbrev fields_of : ℕ → Value
fields_of n = Group (inline 7) [] (Cons (node_value (next_of n)) (Cons (Single (plain 6) (leaf_kinds.Base kinds.Text) (string_of (decimal n)) None) Nil))

value_fits : (n : ℕ) → Fits sample_classes (fields_of n)
unfolding sample_classes kind_of
value_fits n =
    let text : List ℕ = decimal n in (
      inr (refl, refl, node_class, refl, refl, refl, refl),
      (
        inl (refl, refl, next_of n, spell_spells (next_of n), refl, refl),
        (inr (refl, refl, text_class, refl, refl, (Utf8 text, (refl, (spell (length text), text, refl, spell_spells (length text), refl)), refl)), tt),
      ),
    )

entry_is : (n : ℕ) → entry n ≡ spell n ++ bytes_of (fields_of n)
unfolding entry
entry_is n =
    let text : List ℕ = string_of (decimal n) in
    append_assoc (spell n) (spell (next_of n)) text ∙ ap (λ z. spell n ++ (spell (next_of n) ++ z)) (sym (append-nil text))

-- Entry n at an offset.
abbrev constant_at : ℕ → ℕ → Constant
constant_at at n = record { key = n; key_at = at; value_at = at + length (spell n); end = at + length (spell n) + length (bytes_of (fields_of n)); value = fields_of n }

abbrev IsAny : ℕ → Type 0
IsAny n = Unit {0}

entry_read : (c : List ℕ) (end n at : ℕ) → IsAny n → Holds c end at (entry n) → Reads (constant_format sample_classes 7) c end at (constant_at at n) (at + length (entry n))
entry_read c end n at any h =
    let v : Value = fields_of n in
    let m : ℕ = at + length (spell n) in
    let p = holds_parts c end at (spell n) (bytes_of v) (subst (Holds c end at) (entry_is n) h) in
    let w : m ≤ end = p.0.within in
    let to : m + length (bytes_of v) ≡ at + length (entry n) = omega (arith, ap length (entry_is n), length-append (spell n) (bytes_of v)) in
    let read : Reads (value_format sample_classes (inline 7)) c end m v (m + length (bytes_of v)) = value_read sample_classes c end m v classes_sound (value_fits n) p.1 in
    let behind = λ (value : Value). Here (λ (last : ℕ). Done (record { key = n; key_at = at; value_at = m; end = last; value = value })) in
    let both : Reads (value_format sample_classes (inline 7) >>= behind) c end m (constant_at at n) (m + length (bytes_of v)) =
    reads_then (value_format sample_classes (inline 7)) behind c end m v (m + length (bytes_of v)) (constant_at at n) (m + length (bytes_of v)) read (refl, refl) in
    (m, n, spelled_int c end at n p.0, w, refl, subst (Reads (value_format sample_classes (inline 7) >>= behind) c end m (constant_at at n)) to both)

all_any : (ns : List ℕ) → AllByRecursion IsAny ns
all_any [] = tt
all_any (n ∷ ns) = (tt, all_any ns)

-- The entries from 1 to n, from an offset on.
abbrev constants_at : ℕ → ℕ → List Constant
constants_at at n = placed_each entry constant_at at (range_with_len 1 n)

constants_read : (c : List ℕ) (end n at : ℕ) → Holds c end at (entries_to n) → Reads (times n (constant_format sample_classes 7)) c end at (constants_at at n) (at + length (entries_to n))
constants_read c end n at h =
    subst (λ z. Reads (times z (constant_format sample_classes 7)) c end at (constants_at at n) (at + length (entries_to n))) (length-range_with_len 1 n)
    (times_read (constant_format sample_classes 7) entry constant_at IsAny c end (λ m p. entry_read c end m p) (range_with_len 1 n) at (all_any (range_with_len 1 n)) h)

abbrev pool_at : ℕ → ℕ → PoolAt
pool_at at n = record { class = 7; constants = constants_at at n }

class_known : pool_check sample_classes 7 ≡ None
unfolding sample_classes
class_known = refl

zero_spelled : Spells (0 ∷ []) 0
zero_spelled = record { form = omega arith; worth = refl }

one_spelled : Spells (1 ∷ []) 1
one_spelled = record { form = omega arith; worth = refl }

seven_spelled : Spells (7 ∷ []) 7
seven_spelled = record { form = omega arith; worth = refl }

-- The pool: its class, its number of entries, and the entries.
pool_read : (c : List ℕ) (end n at : ℕ) → Holds c end at (7 ∷ (spell n ++ entries_to n))
    → Reads (pool_format sample_classes) c end at (pool_at (at + 1 + length (spell n)) n) (at + 1 + length (spell n) + length (entries_to n))
pool_read c end n at h =
    let p = holds_parts c end at (7 ∷ []) (spell n ++ entries_to n) h in
    let q = holds_parts c end (at + 1) (spell n) (entries_to n) p.1 in
    let first : ℕ = at + 1 + length (spell n) in
    let w : at + 1 ≤ end = p.0.within in
    let x : first ≤ end = q.0.within in
    let read = constants_read c end n first q.1 in
    let behind = λ (constants : List Constant). Done (record { class = 7; constants = constants }) in (
      at + 1,
      7,
      holds_int c end at (7 ∷ []) 7 p.0 seven_spelled,
      w,
      class_known,
      (
        first,
        n,
        spelled_int c end (at + 1) n q.0,
        x,
        refl,
        reads_then (times n (constant_format sample_classes 7)) behind c end first (constants_at first n) (first + length (entries_to n)) (pool_at first n) (first + length (entries_to n)) read
            (refl, refl),
      ),
    )

-- What follows the checkpoint's type.
abbrev after_type : ℕ → List ℕ
after_type n = 0 ∷ 0 ∷ 0 ∷ 0 ∷ 1 ∷ 7 ∷ (spell n ++ entries_to n)

checkpoint_is : (n : ℕ) → checkpoint n ≡ record_in 4 (spell 1 ++ after_type n)
unfolding checkpoint spell
checkpoint_is n = refl

-- One byte, and those after it.
one_more : (c : List ℕ) (end at b : ℕ) (rest : List ℕ) → Holds c end at (b ∷ rest) → Holds c end at (b ∷ []) × Holds c end (at + 1) rest
one_more c end at b rest h = holds_parts c end at (b ∷ []) rest h

abbrev pub checkpoint_at : ℕ → ℕ → Framed
checkpoint_at at n = framed 4 at 1 (after_type n)

abbrev body_at : ℕ → ℕ
body_at at = at + 4 + length (spell 1)

-- Where the pool's entries begin.
abbrev first_at : ℕ → ℕ → ℕ
first_at at n = body_at at + 1 + 1 + 1 + 1 + 1 + 1 + length (spell n)

abbrev pub link_at : ℕ → ℕ → Link
link_at at n = record { frame = checkpoint_at at n; delta_at = body_at at + 1 + 1; delta_end = body_at at + 1 + 1 + 1; delta = pos 0 }

abbrev pub entries_at : ℕ → ℕ → List EntryAt
entries_at at n = entries_from 0 0 (pool_at (first_at at n) n ∷ []) ++ []

-- The checkpoint: its record, its head, and its entries.
pub record CheckpointStands (c : List ℕ) (at n : ℕ) : Type 0 where
  pub is : IsRecord c (checkpoint_at at n)
  pub end : record_end (checkpoint_at at n) ≡ at + length (checkpoint n)
  pub head : Reads head_format c (record_end (checkpoint_at at n)) (body_at at) (record { at = body_at at + 1 + 1; end = body_at at + 1 + 1 + 1; value = pos 0 }) (body_at at + 1 + 1 + 1)
  pub entries : AreEntries c sample_classes 0 (reverse (link_at at n ∷ [])) (entries_at at n)

pub checkpoint_stands : (c : List ℕ) (at n : ℕ) → length c < 2 ^ 28 → Holds c (length c) at (checkpoint n) → CheckpointStands c at n
unfolding checkpoint_format
checkpoint_stands c at n small h =
    let s = written_record c 4 at 1 (after_type n) (omega arith) (omega arith) (omega (arith, small)) (subst (Holds c (length c) at) (checkpoint_is n) h) in
    let end : ℕ = record_end (checkpoint_at at n) in
    let p : ℕ = body_at at in
    let a = one_more c end p 0 (0 ∷ 0 ∷ 0 ∷ 1 ∷ 7 ∷ (spell n ++ entries_to n)) s.body in
    let b = one_more c end (p + 1) 0 (0 ∷ 0 ∷ 1 ∷ 7 ∷ (spell n ++ entries_to n)) a.1 in
    let d = one_more c end (p + 1 + 1) 0 (0 ∷ 1 ∷ 7 ∷ (spell n ++ entries_to n)) b.1 in
    let e = one_more c end (p + 1 + 1 + 1) 0 (1 ∷ 7 ∷ (spell n ++ entries_to n)) d.1 in
    let f = one_more c end (p + 1 + 1 + 1 + 1) 1 (7 ∷ (spell n ++ entries_to n)) e.1 in
    let start : IntAt c p (p + 1) 0 = holds_int c end p (0 ∷ []) 0 a.0 zero_spelled in
    let duration : IntAt c (p + 1) (p + 1 + 1) 0 = holds_int c end (p + 1) (0 ∷ []) 0 b.0 zero_spelled in
    let delta : IntAt c (p + 1 + 1) (p + 1 + 1 + 1) 0 = holds_int c end (p + 1 + 1) (0 ∷ []) 0 d.0 zero_spelled in
    let count : IntAt c (p + 1 + 1 + 1 + 1) (p + 1 + 1 + 1 + 1 + 1) 1 = holds_int c end (p + 1 + 1 + 1 + 1) (1 ∷ []) 1 f.0 one_spelled in
    let ea : p + 1 ≤ end = a.0.within in
    let eb : p + 1 + 1 ≤ end = b.0.within in
    let ed : p + 1 + 1 + 1 ≤ end = d.0.within in
    let ee : p + 1 + 1 + 1 + 1 ≤ end = e.0.within in
    let ef : p + 1 + 1 + 1 + 1 + 1 ≤ end = f.0.within in
    let pool : PoolAt = pool_at (first_at at n) n in
    let last : ℕ = first_at at n + length (entries_to n) in
    let ends : last ≡ end = omega (arith, length-append (spell 1) (after_type n), length-append (spell n) (entries_to n)) in
    let read = pool_read c end n (p + 1 + 1 + 1 + 1 + 1) f.1 in
    let one : Reads (times 1 (pool_format sample_classes)) c end (p + 1 + 1 + 1 + 1 + 1) (pool ∷ []) last =
    reads_then (pool_format sample_classes) (λ q. Done (q ∷ [])) c end (p + 1 + 1 + 1 + 1 + 1) pool last (pool ∷ []) last read (refl, refl) in
    let all : Reads (times 1 (pool_format sample_classes) >>= λ pools. Stop (Done pools)) c end (p + 1 + 1 + 1 + 1 + 1) (pool ∷ []) last =
    reads_then (times 1 (pool_format sample_classes)) (λ pools. Stop (Done pools)) c end (p + 1 + 1 + 1 + 1 + 1) (pool ∷ []) last (pool ∷ []) last one (omega arith, (refl, refl)) in
    let whole : Reads (checkpoint_format sample_classes) c end p (pool ∷ []) last =
    (p + 1, 0, start, ea, refl, (p + 1 + 1, 0, duration, eb, refl, (p + 1 + 1 + 1, 0, delta, ed, refl, (ee, (p + 1 + 1 + 1 + 1 + 1, 1, count, ef, refl, all))))) in
    record {
      is = s.is;
      end = omega (arith, ap length (checkpoint_is n), length-record_in 4 (spell 1 ++ after_type n));
      head = (p + 1, 0, start, ea, refl, (p + 1 + 1, 0, duration, eb, refl, (p + 1 + 1 + 1, 0, delta, ed, refl, (refl, refl))));
      entries = (pool ∷ [], subst (Reads (checkpoint_format sample_classes) c end p (pool ∷ [])) ends whole, [], refl, refl);
    }
