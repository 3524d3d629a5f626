-- Tallies by name, in a map and as a value.
use Rattle.std.specs.Prelude.{◌≡◌, ℕ, ◌==◌, Bool, true, false, cond, List, [], map, Option, None, Some, String, string_bytes, unwrap_or}
use Rattle.std.specs.FinMap as fin
use Rattle.std.specs.Ordering.{nat_cmp}
use Rattle.std.specs.Cmp.Lexicographic.{slice_cmp}
use Rattle.std.specs.List.Sorted.{IsStrictlySortedBy}
use Rattle.std.specs.Map.{keys_of}
use Rattle.std.specs.Str.{bytes_eq}
use Rattle.std.specs.String.{string_cmp}
use Rattle.std.specs.BTreeMap.{BTreeMap, get_by_text, UpdatesBy}
use Rattle.std.specs.declared.alloc.Global.{Global}
use Rattle.std.proofs.Common.{ap, arith, refl, sym, subst, ◌∙◌}
use Rattle.std.proofs.lemmas.Slice.Eq.{bytes_eq-Decides}
use Rattle.jfr_chunk.proofs.TextMaps.{changed, entries-values_in, get-values_in, no_value}
use Rattle.jfr_show.specs.declared.tally.Tally.{Tally}
use Rattle.jfr_show.specs.Counting.{AddsTally, added, both, no_tally}
use Rattle.jfr_show.specs.Held.{entry_of, tallies_in}

-- Tallies in memory, by name.
abbrev pub TallyMap : Type 0
TallyMap = BTreeMap (String Global) Tally

-- A tally of the map; a map without entries has none.
pub get-tallies_in : (m : TallyMap) (q : List ℕ) → fin.get (tallies_in m) q ≡ get_by_text m q
get-tallies_in = get-values_in Tally

pub none_there : (m : TallyMap) (q : List ℕ) (t : Tally) → m.entries ≡ [] → fin.get (tallies_in m) q ≡ Some t → ⊥
none_there = no_value Tally

-- Equal numbers, equal tallies.
pub tally_path : (s t : Tally) → s.events ≡ t.events → s.bytes ≡ t.bytes → s ≡ t
tally_path s t a b = λ i. record { events = a i; bytes = b i }

-- Of a tally that has events, what is added under a name.
under : (b : Bool) (kept o : Option Tally) (t : Tally) → (t.events == 0) ≡ false → (b ≡ true → o ≡ kept) → cond b (Some (both (unwrap_or kept no_tally) t)) o ≡ cond b (added o t) o
under true kept o t h same = ap (λ k. Some (both (unwrap_or k no_tally) t)) (sym (same refl)) ∙ sym (ap (λ z. cond z o (Some (both (unwrap_or o no_tally) t))) h)
under false kept o t h same = refl

adds_by : (m n : TallyMap) (name : List ℕ) (kept : Option Tally) (t v : Tally) → (t.events == 0) ≡ false → get_by_text m name ≡ kept → v ≡ both (unwrap_or kept no_tally) t
    → UpdatesBy string_cmp (λ k. slice_cmp nat_cmp name (string_bytes k)) m n (Some v) → AddsTally (tallies_in m) name t (tallies_in n)
adds_by m n name kept t v h is e u = record {
  each = λ q.
      changed Tally m n name v u q
      ∙ (ap (λ z. cond (bytes_eq name q) (Some z) (fin.get (tallies_in m) q)) e
      ∙ under (bytes_eq name q) kept (fin.get (tallies_in m) q) t h (λ b. ap (fin.get (tallies_in m)) (sym ((bytes_eq-Decides name q).0 b)) ∙ (get-tallies_in m name ∙ is)));
}

-- The tally under a name is replaced by that and another.
pub adds_kept : (m n : TallyMap) (name : List ℕ) (kept t v : Tally) → (t.events == 0) ≡ false → Some kept ≡ get_by_text m name → v ≡ both kept t
    → UpdatesBy string_cmp (λ k. slice_cmp nat_cmp name (string_bytes k)) m n (Some v) → AddsTally (tallies_in m) name t (tallies_in n)
adds_kept m n name kept t v h is e u = adds_by m n name (Some kept) t v h (sym is) e u

-- A tally is put under a name that had none.
pub adds_new : (m looked n : TallyMap) (key : String Global) (name : List ℕ) (t : Tally) → looked ≡ m → (t.events == 0) ≡ false → string_bytes key ≡ name → None ≡ get_by_text m name
    → UpdatesBy string_cmp (string_cmp key) looked n (Some t) → AddsTally (tallies_in m) name t (tallies_in n)
adds_new m looked n key name t same h k is u =
    let alone : t ≡ both no_tally t = tally_path t (both no_tally t) (omega arith) (omega arith) in
    let at : AddsTally (tallies_in m) (string_bytes key) t (tallies_in n) =
    adds_by m n (string_bytes key) None t t h (ap (get_by_text m) k ∙ sym is) alone (subst (λ z. UpdatesBy string_cmp (string_cmp key) z n (Some t)) same u) in
    subst (λ z. AddsTally (tallies_in m) z t (tallies_in n)) k at

-- The entries of the map, in order.
pub entries-tallies_in : (m : TallyMap) → IsStrictlySortedBy string_cmp (keys_of m.entries) → fin.entries (tallies_in m) ≡ map entry_of m.entries
entries-tallies_in = entries-values_in Tally
