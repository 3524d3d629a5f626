-- The stacks of chunks, with a chunk more.
use Rattle.std.specs.Prelude.{◌≡◌, ℕ, ◌+◌, ◌==◌, Bool, true, false, cond, List, [], ◌∷◌, ◌++◌, map, None, Some}
use Rattle.std.specs.List.{flat_map}
use Rattle.std.specs.FinMap as fin
use Rattle.std.specs.FinMap.{find, get-from_entries, same_map, slice_cmp-IsAntisymmetric, nat_cmp-IsAntisymmetric}
use Rattle.std.specs.Ordering.{eq_by_cmp, nat_cmp}
use Rattle.std.specs.Cmp.{eq_by_cmp_equiv}
use Rattle.std.specs.Cmp.Lexicographic.{slice_cmp, nat_list_cmp_total}
use Rattle.std.specs.Str.{bytes_eq}
use Rattle.std.proofs.Common.{ap, append-nil, arith, refl, subst, sym, ◌∙◌}
use Rattle.std.proofs.lemmas.Bool.Decides.{nat_tests}
use Rattle.std.proofs.lemmas.Map.Text.{is_eq-slice_cmp}
use Rattle.std.proofs.lemmas.List.Concat.{flat_map-append}
use Rattle.std.proofs.lemmas.List.Sums.{sum_by-append, sum_by-cons}
use Rattle.std.proofs.lemmas.Slice.Eq.{bytes_eq-Decides}
use Rattle.jfr_filter.specs.Filters.{Given}
use Rattle.jfr_chunk.specs.Parts.{Parts}
use Rattle.jfr_stacks.specs.Adding.{AddsTexts, plus}
use Rattle.jfr_stacks.specs.Folded.{Counts, count_of, counted, stacks_of, texts_of}
use Rattle.jfr_stacks.proofs.CountLaws.{plus_plus}

-- Texts compare as equal if they have the same bytes.
tied : (a b : List ℕ) → eq_by_cmp (slice_cmp nat_cmp) a b ≡ bytes_eq b a
tied a b = (eq_by_cmp_equiv nat_list_cmp_total).symm a b ∙ is_eq-slice_cmp b a

-- What is put under a text.
abbrev entry : List (List ℕ) → List ℕ → List ℕ × ℕ
entry all t = (t, count_of t all)

count_cons : (q t : List ℕ) (ts : List (List ℕ)) → count_of q (t ∷ ts) ≡ cond (bytes_eq t q) 1 0 + count_of q ts
count_cons q t ts = sum_by-cons (λ t. cond (bytes_eq t q) 1 0) t ts

-- What is found under a text.
found : (all ts : List (List ℕ)) (q : List ℕ) → find (slice_cmp nat_cmp) q (map (entry all) ts) ≡ cond (count_of q ts == 0) None (Some (count_of q all))
found all [] q = refl
found all (t ∷ ts) q =
    ap (λ b. cond b (Some (count_of t all)) (find (slice_cmp nat_cmp) q (map (entry all) ts))) (tied q t)
    ∙ (by_text (bytes_eq t q) refl (found all ts q) ∙ ap (λ n. cond (n == 0) None (Some (count_of q all))) (sym (count_cons q t ts)))
  where
    by_text : (b : Bool) → bytes_eq t q ≡ b → find (slice_cmp nat_cmp) q (map (entry all) ts) ≡ cond (count_of q ts == 0) None (Some (count_of q all))
        → cond b (Some (count_of t all)) (find (slice_cmp nat_cmp) q (map (entry all) ts)) ≡ cond (cond b 1 0 + count_of q ts == 0) None (Some (count_of q all))
    by_text true is h =
        let z : (1 + count_of q ts == 0) ≡ false = grind (arith, nat_tests) in
        ap (λ n. Some (count_of n all)) ((bytes_eq-Decides t q).0 is) ∙ sym (ap (λ b. cond b None (Some (count_of q all))) z)
    by_text false is h = let z : count_of q ts ≡ 0 + count_of q ts = omega arith in h ∙ ap (λ n. cond (n == 0) None (Some (count_of q all))) z

-- Under each text its number is added to nothing.
pub get-counted : (ts : List (List ℕ)) (q : List ℕ) → fin.get (counted ts) q ≡ plus None (count_of q ts)
get-counted ts q =
    let z : count_of q ts ≡ 0 + count_of q ts = omega arith in
    get-from_entries nat_list_cmp_total (map (entry ts) ts) q ∙ (found ts ts q ∙ ap (λ n. cond (count_of q ts == 0) None (Some n)) z)

-- Texts that are added to the counts of others.
counted_next : (ds ts : List (List ℕ)) (now : Counts) → AddsTexts (counted ds) ts now → now ≡ counted (ds ++ ts)
counted_next ds ts now a =
    same_map nat_list_cmp_total (slice_cmp-IsAntisymmetric nat_cmp-IsAntisymmetric) now (counted (ds ++ ts)) (λ q.
    a.each q
    ∙ (ap (λ o. plus o (count_of q ts)) (get-counted ds q)
    ∙ (plus_plus None (count_of q ds) (count_of q ts)
    ∙ (ap (plus None) (sym (sum_by-append (λ t. cond (bytes_eq t q) 1 0) ds ts))
    ∙ sym (get-counted (ds ++ ts) q)))))

all_next : (g : Given) (ps : List Parts) (p : Parts) → flat_map (texts_of g) ps ++ texts_of g p ≡ flat_map (texts_of g) (ps ++ p ∷ [])
all_next g ps p = sym (flat_map-append (texts_of g) ps (p ∷ []) ∙ ap (λ ts. flat_map (texts_of g) ps ++ ts) (append-nil (texts_of g p)))

pub stacks_added : (g : Given) (ps : List Parts) (p : Parts) (old now : Counts) → old ≡ stacks_of g ps → AddsTexts old (texts_of g p) now → now ≡ stacks_of g (ps ++ p ∷ [])
unfolding stacks_of
stacks_added g ps p old now e a =
    counted_next (flat_map (texts_of g) ps) (texts_of g p) now (subst (λ m. AddsTexts m (texts_of g p) now) e a) ∙ ap counted (all_next g ps p)
