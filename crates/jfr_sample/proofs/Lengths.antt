-- How long the parts of a sample are.
use Rattle.std.proofs.Common.{◌≡◌, ℕ, zero, suc, ◌+◌, ◌-◌, ◌*◌, ◌<◌, ◌≤◌, ◌/◌, ◌%◌, Bool, true, false, List, [], ◌∷◌, ◌++◌, length, decimal, refl, sym, ◌∙◌, ap, arith, nat_lt, ◌==◌, if◌then◌else◌, length-append, mul-suc, add-one}
use Rattle.std.specs.List.{flat_map, range_with_len}
use Rattle.std.proofs.lemmas.Fmt.{length-decimal-le}
use Rattle.std.proofs.lemmas.Nat.{mod_below}
use Rattle.jfr_base.specs.Integer.{spell, Spells}
use Rattle.jfr_base.proofs.Spelling.{spell_short}
use Rattle.jfr_frame.proofs.WrittenRecords.{length-record_in}
use Rattle.jfr_sample.specs.Metadata.{string_of, metadata}
use Rattle.jfr_sample.specs.Sample.{draw, key_of, event_a, event_b, event, events_to, next_of, entry, entries_to, checkpoint}
use Rattle.jfr_sample.proofs.PartLaws.{parts_more}

three_bytes : Spells (255 ∷ 255 ∷ 127 ∷ []) 2097151
three_bytes = record { form = (omega arith, (omega arith, omega arith)); worth = refl }

-- Integers below 2^21 have at most three bytes.
few_bytes : (v : ℕ) → v < 2097152 → length (spell v) ≤ 3
few_bytes v small = spell_short (255 ∷ 255 ∷ 127 ∷ []) v 2097151 three_bytes (omega arith)

one_byte : (v : ℕ) → v < 128 → length (spell v) ≤ 1
one_byte v small = spell_short (127 ∷ []) v 127 (record { form = omega arith; worth = refl }) (omega arith)

class_a : length (spell 8) ≡ 1
unfolding spell
class_a = refl

class_b : length (spell 9) ≡ 1
unfolding spell
class_b = refl

key-le : (events x : ℕ) → 1 ≤ events → key_of events x ≤ events
key-le events x some = omega (arith, mod_below (x / 256) events (omega arith))

-- Parts one after another.
join-le : (a b : List ℕ) (m n : ℕ) → length a ≤ m → length b ≤ n → length (a ++ b) ≤ m + n
join-le a b m n p q = omega (arith, length-append a b)

event_a-le : (i key : ℕ) → i ≤ 1000000 → key ≤ 1000000 → length (event_a i key) ≤ 11
event_a-le i key low few =
    let front : length (spell 8 ++ spell i) ≤ 4 = join-le (spell 8) (spell i) 1 3 (omega (arith, class_a)) (few_bytes i (omega arith)) in
    let body : length (spell 8 ++ spell i ++ spell key) ≤ 7 = join-le (spell 8 ++ spell i) (spell key) 4 3 front (few_bytes key (omega arith)) in
    omega (arith, length-record_in 4 (spell 8 ++ spell i ++ spell key), body)

event_b-le : (key : ℕ) → key ≤ 1000000 → length (event_b key) ≤ 11
event_b-le key few =
    let body : length (spell 9 ++ spell key) ≤ 4 = join-le (spell 9) (spell key) 1 3 (omega (arith, class_b)) (few_bytes key (omega arith)) in
    omega (arith, length-record_in 4 (spell 9 ++ spell key), body)

event-le : (seed events i : ℕ) → 1 ≤ events → events ≤ 1000000 → i ≤ 1000000 → length (event seed events i) ≤ 11
unfolding event
event-le seed events i some most low =
    let key : key_of events (draw seed i) ≤ 1000000 = omega (arith, key-le events (draw seed i) some) in
    by_half (nat_lt (draw seed i) 2147483648) i (key_of events (draw seed i)) low key
  where
    by_half : (half : Bool) (i key : ℕ) → i ≤ 1000000 → key ≤ 1000000 → length (if half then event_a i key else event_b key) ≤ 11
    by_half true i key low few = event_a-le i key low few
    by_half false i key low few = event_b-le key few

next_of-le : (k : ℕ) → next_of k ≤ k + 1
next_of-le k = by_third (k % 3 == 0) k
  where
    by_third : (third : Bool) (k : ℕ) → (if third then k - 2 else k + 1) ≤ k + 1
    by_third true k = omega arith
    by_third false k = omega arith

string_of-le : (text : List ℕ) → length text ≤ 7 → length (string_of text) ≤ 9
string_of-le text short = join-le (3 ∷ spell (length text)) text 2 7 (omega (arith, one_byte (length text) (omega arith))) short

entry-le : (k : ℕ) → k ≤ 1000000 → length (entry k) ≤ 15
unfolding entry
entry-le k low =
    let front : length (spell k ++ spell (next_of k)) ≤ 6 = join-le (spell k) (spell (next_of k)) 3 3 (few_bytes k (omega arith)) (few_bytes (next_of k) (omega (arith, next_of-le k))) in
    join-le (spell k ++ spell (next_of k)) (string_of (decimal k)) 6 9 front (string_of-le (decimal k) (length-decimal-le 7 k (omega arith) (omega arith) (omega arith)))

-- n parts, each of at most `most` bytes.
parts-le : (part : ℕ → List ℕ) (most last : ℕ) → ((i : ℕ) → i ≤ last → length (part i) ≤ most) → (n : ℕ) → n ≤ last → length (flat_map part (range_with_len 1 n)) ≤ most * n
parts-le part most last each zero low = omega arith
parts-le part most last each (suc n) low =
    let before = parts-le part most last each n (omega arith) in
    let all : flat_map part (range_with_len 1 (suc n)) ≡ flat_map part (range_with_len 1 n) ++ part (n + 1) =
    ap (λ (k : ℕ). flat_map part (range_with_len 1 k)) (sym (add-one n)) ∙ parts_more part n in
    let sum : most * suc n ≡ most * n + most = mul-suc most n in
    omega (arith, ap length all, join-le (flat_map part (range_with_len 1 n)) (part (n + 1)) (most * n) most before (each (n + 1) (omega arith)), sum)

pub events-le : (seed events n : ℕ) → 1 ≤ events → events ≤ 1000000 → n ≤ 1000000 → length (events_to seed events n) ≤ 11 * n
events-le seed events n some most low = parts-le (event seed events) 11 1000000 (λ i few. event-le seed events i some most few) n low

pub entries-le : (n : ℕ) → n ≤ 1000000 → length (entries_to n) ≤ 15 * n
entries-le n low = parts-le entry 15 1000000 entry-le n low

pub length-metadata : length metadata ≡ 257
unfolding metadata spell
length-metadata = refl

pub checkpoint-le : (n : ℕ) → n ≤ 1000000 → length (checkpoint n) ≤ 14 + 15 * n
unfolding checkpoint
checkpoint-le n low =
    let front : List ℕ = 1 ∷ 0 ∷ 0 ∷ 0 ∷ 0 ∷ 1 ∷ 7 ∷ [] in
    let counted : length (front ++ spell n) ≤ 7 + 3 = join-le front (spell n) 7 3 (omega arith) (few_bytes n (omega arith)) in
    omega (arith, length-record_in 4 (front ++ spell n ++ entries_to n), join-le (front ++ spell n) (entries_to n) 10 (15 * n) counted (entries-le n low))
