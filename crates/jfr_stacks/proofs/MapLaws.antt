-- Counts by text, in a map and as a value.
use Rattle.std.specs.Prelude.{◌≡◌, ℕ, ◌+◌, ◌==◌, Bool, true, false, cond, List, [], map, Option, None, Some, String, string_bytes, unwrap_or}
use Rattle.std.specs.FinMap as fin
use Rattle.std.specs.Ordering.{nat_cmp}
use Rattle.std.specs.Cmp.Lexicographic.{slice_cmp}
use Rattle.std.specs.List.Sorted.{IsStrictlySortedBy}
use Rattle.std.specs.Map.{keys_of}
use Rattle.std.specs.Str.{bytes_eq}
use Rattle.std.specs.String.{string_cmp}
use Rattle.std.specs.BTreeMap.{BTreeMap, get_by_text, UpdatesBy}
use Rattle.std.specs.declared.alloc.Global.{Global}
use Rattle.std.proofs.Common.{ap, arith, refl, sym, subst, ◌∙◌}
use Rattle.std.proofs.lemmas.Slice.Eq.{bytes_eq-Decides}
use Rattle.jfr_chunk.proofs.TextMaps.{changed, entries-values_in, get-values_in, no_value}
use Rattle.jfr_stacks.specs.Adding.{AddsText, is_text, plus}
use Rattle.jfr_stacks.specs.Held.{counts_in, entry_in}

-- Counts in memory, by text.
abbrev pub CountMap : Type 0
CountMap = BTreeMap (String Global) ℕ

-- A count of the map; a map without entries has none.
pub get-counts_in : (m : CountMap) (q : List ℕ) → fin.get (counts_in m) q ≡ get_by_text m q
get-counts_in = get-values_in ℕ

pub none_there : (m : CountMap) (q : List ℕ) (n : ℕ) → m.entries ≡ [] → fin.get (counts_in m) q ≡ Some n → ⊥
none_there = no_value ℕ

-- What is added under a text, if there are events.
under : (b : Bool) (kept o : Option ℕ) (count : ℕ) → (count == 0) ≡ false → (b ≡ true → o ≡ kept) → cond b (Some (unwrap_or kept 0 + count)) o ≡ cond b (plus o count) o
under true kept o count h same = ap (λ k. Some (unwrap_or k 0 + count)) (sym (same refl)) ∙ sym (ap (λ z. cond z o (Some (unwrap_or o 0 + count))) h)
under false kept o count h same = refl

adds_by : (m n : CountMap) (text : List ℕ) (kept : Option ℕ) (count v : ℕ) → (count == 0) ≡ false → get_by_text m text ≡ kept → v ≡ unwrap_or kept 0 + count
    → UpdatesBy string_cmp (λ k. slice_cmp nat_cmp text (string_bytes k)) m n (Some v) → AddsText (counts_in m) (Some text) count (counts_in n)
adds_by m n text kept count v h is e u = record {
  each = λ q.
      changed ℕ m n text v u q
      ∙ (ap (λ z. cond (bytes_eq text q) (Some z) (fin.get (counts_in m) q)) e
      ∙ under (bytes_eq text q) kept (fin.get (counts_in m) q) count h (λ b. ap (fin.get (counts_in m)) (sym ((bytes_eq-Decides text q).0 b)) ∙ (get-counts_in m text ∙ is)));
}

-- The count under a text is replaced by a larger one.
pub adds_kept : (m n : CountMap) (text : List ℕ) (kept count v : ℕ) → (count == 0) ≡ false → Some kept ≡ get_by_text m text → v ≡ kept + count
    → UpdatesBy string_cmp (λ k. slice_cmp nat_cmp text (string_bytes k)) m n (Some v) → AddsText (counts_in m) (Some text) count (counts_in n)
adds_kept m n text kept count v h is e u = adds_by m n text (Some kept) count v h (sym is) e u

-- A count is put under a text that had none.
pub adds_new : (m looked n : CountMap) (key : String Global) (text : List ℕ) (count : ℕ) → looked ≡ m → (count == 0) ≡ false → string_bytes key ≡ text → None ≡ get_by_text m text
    → UpdatesBy string_cmp (string_cmp key) looked n (Some count) → AddsText (counts_in m) (Some text) count (counts_in n)
adds_new m looked n key text count same h k is u =
    let at : AddsText (counts_in m) (Some (string_bytes key)) count (counts_in n) = adds_by m n (string_bytes key) None count count h (ap (get_by_text m) k ∙ sym is)
    (let z : count ≡ 0 + count = omega arith in z) (subst (λ z. UpdatesBy string_cmp (string_cmp key) z n (Some count)) same u) in
    subst (λ z. AddsText (counts_in m) (Some z) count (counts_in n)) k at

-- Without events nothing is added.
pub adds_none : (m : CountMap) (text : Option (List ℕ)) (count : ℕ) → (count == 0) ≡ true → AddsText (counts_in m) text count (counts_in m)
adds_none m text count h = record { each = λ q. same (is_text q text) (fin.get (counts_in m) q) }
  where
    same : (b : Bool) (o : Option ℕ) → o ≡ cond b (plus o count) o
    same true o = sym (ap (λ z. cond z o (Some (unwrap_or o 0 + count))) h)
    same false o = refl

-- The entries of the map, in order.
pub entries-counts_in : (m : CountMap) → IsStrictlySortedBy string_cmp (keys_of m.entries) → fin.entries (counts_in m) ≡ map entry_in m.entries
entries-counts_in = entries-values_in ℕ
