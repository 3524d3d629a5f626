-- Names in a folder, and the names of a map in memory.
use Rattle.std.proofs.Common.{◌≡◌, ◌≢◌, ℕ, suc, ◌+◌, ◌<◌, ◌==◌, ◌&&◌, List, [], ◌∷◌, ◌++◌, length, get_or, take, drop, map, refl, sym, subst, ◌∙◌, ap, Bool, true, false, not, if◌then◌else◌, T, append_assoc, String, string_bytes, Vec, Option, None, Some, arith}
use Rattle.std.specs.List.{filter_map, cons_option, AllByRecursion}
use Rattle.std.specs.List.Sorted.{IsStrictlySortedBy}
use Rattle.std.specs.Str.{bytes_eq, encode_utf8_all, chars, IsUtf8}
use Rattle.std.specs.Borrow.{Bor}
use Rattle.std.specs.Ordering.{nat_cmp, is_lt}
use Rattle.std.specs.Cmp.Lexicographic.{slice_cmp, nat_list_cmp_total}
use Rattle.std.specs.FinMap as fin
use Rattle.std.specs.FinMap.{get-from_entries, get-from_sorted, entries-from_sorted, same_map, is_sorted, slice_cmp-IsAntisymmetric, nat_cmp-IsAntisymmetric}
use Rattle.std.specs.FinMap.Entries.{below_all}
use Rattle.std.specs.String.{string_cmp}
use Rattle.std.specs.BTreeMap as tree
use Rattle.std.specs.declared.alloc.Global.{Global}
use Rattle.std.specs.declared.cmp.Ordering.TheVariants.{Less}
use Rattle.std.proofs.lemmas.Bool.Decides.{nat_tests}
use Rattle.std.proofs.lemmas.Slice.Eq.{bytes_eq-Decides}
use Rattle.std.proofs.lemmas.List.{take-append-drop, append_cancel_left, map-append, length-append, append-nil}
use Rattle.std.proofs.lemmas.List.Elements.{filter_map-append}
use Rattle.std.proofs.lemmas.Grind.{common_steps}
use Rattle.std.proofs.lemmas.Str.{IsUtf8-drop, IsCharBoundary-after_ascii, encodes-chars}
use Rattle.std.specs.Map.Iter.{deref}
use Rattle.std.proofs.lemmas.List.Folds.{list_all_at}
use Rattle.std.proofs.lemmas.Simd.{map-map}
use Rattle.std.proofs.Math.Seq.{take-append-add, drop-append-add}
use Rattle.jfr_outside.specs.World.{names_in, rest_in, in_folder, is_plain}
use Rattle.jfr_outside.specs.Held.{files_of, entry_of}
use Rattle.jfr_outside.proofs.HeldLaws.{FileMap}

both : (a b : Bool) → a ≡ true → b ≡ true → (a && b) ≡ true
both true b p q = q
both false b p q = p

both_T : (a b : Bool) → T a → T b → T (a && b)
both_T true b p q = q
both_T false b p q = p

-- What isn't this number passes the test.
unlike : (b n : ℕ) → b ≢ n → not (b == n) ≡ true
unlike b n h = grind (arith, nat_tests)

-- The test of the front, and of the rest.
front : (folder rest : List ℕ) → take (length folder + 1) (folder ++ 47 ∷ rest) ≡ in_folder folder []
front folder rest = take-append-add folder (47 ∷ rest) 1

back : (folder rest : List ℕ) → drop (length folder + 1) (folder ++ 47 ∷ rest) ≡ rest
back folder rest = drop-append-add folder (47 ∷ rest) 1

begins : (folder rest : List ℕ) → bytes_eq (take (length folder + 1) (folder ++ 47 ∷ rest)) (in_folder folder []) ≡ true
begins folder rest = (bytes_eq-Decides _ _).1 (front folder rest)

-- A name that begins with the folder and a slash, by its rest.
chosen : (begin plain : Bool) (some rest : List ℕ) → begin ≡ true → some ≡ rest → (if begin && plain then Some some else None) ≡ (if plain then Some rest else None)
chosen true plain some rest is same = ap (λ (r : List ℕ). if plain then Some r else None) same
chosen false plain some rest is same = cc

rest_at : (folder rest : List ℕ) → rest_in folder (folder ++ 47 ∷ rest) ≡ (if is_plain rest then Some rest else None)
rest_at folder rest = chosen _ _ _ rest (begins folder rest) (back folder rest) ∙ ap (λ (r : List ℕ). if is_plain r then Some rest else None) (back folder rest)

-- A name that doesn't.
not_begun : (begin plain : Bool) (some : List ℕ) → begin ≢ true → (if begin && plain then Some some else None) ≡ None
not_begun true plain some h = absurd (h refl)
not_begun false plain some h = refl

no_rest : (folder name : List ℕ) → ((rest : List ℕ) → name ≢ folder ++ 47 ∷ rest) → rest_in folder name ≡ None
no_rest folder name other =
    let n : ℕ = length folder + 1 in
    not_begun _ (is_plain (drop n name)) (drop n name) (λ same.
    other (drop n name) (sym (take-append-drop n name) ∙ ap (λ (l : List ℕ). l ++ drop n name) ((bytes_eq-Decides (take n name) (in_folder folder [])).0 same)
    ∙ append_assoc folder (47 ∷ []) (drop n name)))

-- A name without a slash.
pub is_plain_without : (rest : List ℕ) → ((k : ℕ) → k < length rest → get_or rest k 0 ≢ 47) → is_plain rest ≡ true
is_plain_without [] none = refl
is_plain_without (b ∷ bs) none = both _ _ (unlike b 47 (none 0 (omega arith))) (is_plain_without bs (λ k small. none (suc k) (omega arith)))

-- A name with a slash.
pub not_plain_with : (rest : List ℕ) (k : ℕ) → k < length rest → get_or rest k 0 ≡ 47 → is_plain rest ≡ false
not_plain_with rest k small is = list_all_at _ rest k 0 small (ap (λ (b : ℕ). not (b == 47)) is)

-- What the tests of a text in turn find: no folder in front, no slash then, or a slash in the rest.
pub not_in_front : (folder name : List ℕ) → ((rest : List ℕ) → name ≢ folder ++ rest) → rest_in folder name ≡ None
not_in_front folder name other = no_rest folder name (λ rest. other (47 ∷ rest))

pub no_slash : (folder name after : List ℕ) → name ≡ folder ++ after → ((rest : List ℕ) → after ≢ 47 ∷ rest) → rest_in folder name ≡ None
no_slash folder name after is other = no_rest folder name (λ rest same. other rest (append_cancel_left folder _ _ (sym is ∙ same)))

pub rest_by : (folder name after rest : List ℕ) (plain : Bool) → name ≡ folder ++ after → after ≡ 47 ∷ rest → is_plain rest ≡ plain → rest_in folder name ≡ (if plain then Some rest else None)
rest_by folder name after rest plain is slash test = ap (rest_in folder) (is ∙ ap (λ (l : List ℕ). folder ++ l) slash) ∙ rest_at folder rest ∙ ap (λ (b : Bool). if b then Some rest else None) test

-- What is below all entries by the order of texts is below all their names.
below : (k : String Global) (es : List (String Global × Vec ℕ Global)) → AllByRecursion (λ y. string_cmp k y ≡ Less) (map (λ e. e.0) es)
    → T (below_all (slice_cmp nat_cmp) (string_bytes k) (map entry_of es))
below k [] h = tt
below k (e ∷ es) h = both_T _ _ (subst (λ o. T (is_lt o)) (sym h.0) tt) (below k es h.1)

-- Entries in the order of texts are in the order of names.
sorted : (es : List (String Global × Vec ℕ Global)) → IsStrictlySortedBy string_cmp (map (λ e. e.0) es) → T (is_sorted (slice_cmp nat_cmp) (map entry_of es))
unfolding IsStrictlySortedBy
sorted [] h = tt
sorted (e ∷ es) h = both_T _ _ (below e.0 es h.0) (sorted es h.1)

-- The entries of the files that the map holds.
same_entries : (m : FileMap) → tree.IsOrdered string_cmp m → fin.entries (files_of m) ≡ map entry_of m.entries
same_entries m ordered =
    let s = sorted m.entries ordered in
    ap fin.entries (same_map nat_list_cmp_total (slice_cmp-IsAntisymmetric nat_cmp-IsAntisymmetric) (files_of m) (fin.from_sorted (map entry_of m.entries))
    (λ q. get-from_entries nat_list_cmp_total (map entry_of m.entries) q ∙ sym (get-from_sorted (slice_cmp nat_cmp) (map entry_of m.entries) q s)))
    ∙ entries-from_sorted (slice_cmp nat_cmp) (map entry_of m.entries) s

-- The names of the files that the map holds, in order.
keys-files_of : (m : FileMap) → tree.IsOrdered string_cmp m → fin.keys (files_of m) ≡ map string_bytes (tree.keys m)
keys-files_of m ordered = ap (map (λ e. e.0)) (same_entries m ordered) ∙ map-map _ _ m.entries ∙ sym (map-map _ _ m.entries)

-- The rest of a text after its folder is a text.
pub rest_is_text : (folder name after rest : List ℕ) → IsUtf8 name → name ≡ folder ++ after → after ≡ 47 ∷ rest → IsUtf8 rest
rest_is_text folder name after rest utf8 is slash =
    let whole : name ≡ folder ++ 47 ∷ rest = is ∙ ap (λ (l : List ℕ). folder ++ l) slash in
    let here : get_or name (length folder) 0 ≡ 47 = grind (arith, common_steps) in
    let room : length folder < length name = omega (arith, ap length whole, length-append folder (47 ∷ rest)) in
    let left : drop (length folder + 1) name ≡ rest = ap (drop (length folder + 1)) whole ∙ back folder rest in
    subst IsUtf8 left (IsUtf8-drop name (length folder + 1) utf8 (IsCharBoundary-after_ascii name (length folder) utf8 room (omega arith)))

-- The names seen so far, and one more.
abbrev pub names_of : List (Bor (String Global)) → List (List ℕ)
names_of done = map (λ k. string_bytes k.now) done

seen : (folder : List ℕ) (done : List (Bor (String Global))) (k : Bor (String Global))
    → filter_map (rest_in folder) (names_of (done ++ k ∷ [])) ≡ filter_map (rest_in folder) (names_of done) ++ cons_option (rest_in folder (string_bytes k.now)) []
seen folder done k = ap (filter_map (rest_in folder)) (map-append (λ (k : Bor (String Global)). string_bytes k.now) done (k ∷ []))
    ∙ filter_map-append (rest_in folder) (names_of done) (string_bytes k.now ∷ [])

-- It is in the folder, or it isn't.
pub one_more : (folder : List ℕ) (names : List (List ℕ)) (done : List (Bor (String Global))) (k : Bor (String Global)) (rest : List ℕ)
    → map encode_utf8_all names ≡ filter_map (rest_in folder) (names_of done) → Some rest ≡ rest_in folder (string_bytes k.now) → IsUtf8 rest
    → map encode_utf8_all (names ++ chars rest ∷ []) ≡ filter_map (rest_in folder) (names_of (done ++ k ∷ []))
one_more folder names done k rest so_far at utf8 =
    map-append encode_utf8_all names (chars rest ∷ [])
    ∙ ap (λ (l : List (List ℕ)). l ++ encode_utf8_all (chars rest) ∷ []) so_far
    ∙ ap (λ (r : List ℕ). filter_map (rest_in folder) (names_of done) ++ r ∷ []) (encodes-chars rest utf8)
    ∙ ap (λ (o : Option (List ℕ)). filter_map (rest_in folder) (names_of done) ++ cons_option o []) at
    ∙ sym (seen folder done k)

pub passed_over : (folder : List ℕ) (names : List (List ℕ)) (done : List (Bor (String Global))) (k : Bor (String Global)) → map encode_utf8_all names ≡ filter_map (rest_in folder) (names_of done)
    → None ≡ rest_in folder (string_bytes k.now) → map encode_utf8_all names ≡ filter_map (rest_in folder) (names_of (done ++ k ∷ []))
passed_over folder names done k so_far at =
    so_far ∙ sym (append-nil _)
    ∙ ap (λ (o : Option (List ℕ)). filter_map (rest_in folder) (names_of done) ++ cons_option o []) at
    ∙ sym (seen folder done k)

-- All of them are seen.
pub all_seen : (folder : List ℕ) (m : FileMap) (done : List (Bor (String Global))) → tree.IsOrdered string_cmp m → map deref done ≡ tree.keys m
    → filter_map (rest_in folder) (names_of done) ≡ names_in folder (files_of m)
all_seen folder m done ordered all = ap (filter_map (rest_in folder)) (sym (map-map string_bytes deref done) ∙ ap (map string_bytes) all ∙ sym (keys-files_of m ordered))
