-- The files that are joined, by their names.
use Rattle.std.proofs.Common.{◌≡◌, ℕ, ◌+◌, ◌<◌, refl, sym, ◌∙◌, ap, Bool, true, false, cond, ◌&&◌, List, [], ◌∷◌, ◌++◌, length, take, drop, map, Option, None, Some, if◌then◌else◌, filter, String, string_bytes, Equal, zero-add, encode_utf8_all, append_assoc, take-append-drop}
use Rattle.std.specs.FinMap as fin
use Rattle.std.specs.FinMap.{slice_cmp-IsAntisymmetric, nat_cmp-IsAntisymmetric, same_map, get-entries, get-retain_keys, get-from_sorted, entries-from_sorted, entries_sorted}
use Rattle.std.specs.FinMap.Entries.{where_key, is_sorted-where_key, find-where_key}
use Rattle.std.specs.Cmp.Lexicographic.{nat_list_cmp_total, bytes_decides}
use Rattle.std.specs.List.{filter_map, cons_option, sum_by, slice_get}
use Rattle.std.specs.List.Sorted.{IsPermutation, IsSorted}
use Rattle.std.specs.Option.{option_map_or}
use Rattle.std.specs.Str.{bytes_eq, chars, IsUtf8}
use Rattle.std.specs.String.{string_cmp}
use Rattle.std.specs.declared.alloc.Global.{Global}
use Rattle.std.proofs.Math.ListN.{get_or}
use Rattle.std.proofs.lemmas.List.{map-append, take_more}
use Rattle.std.proofs.lemmas.Option.{get_or_from_slice_get}
use Rattle.std.proofs.lemmas.Str.{encodes-chars}
use Rattle.std.proofs.lemmas.List.Elements.{filter-append}
use Rattle.std.proofs.lemmas.List.Sums.{sum_by-cons}
use Rattle.std.proofs.lemmas.List.Sorted.{sum_by-IsPermutation, IsPermutation-map}
use Rattle.jfr_outside.specs.World.{Files, in_folder, is_plain, rest_in, names_in, IsListing}
use Rattle.jfr_split.specs.Names.{is_recording, is_joined}
use Rattle.jfr_split.specs.Joins.{files_in}
use Rattle.jfr_split.proofs.Ordered.{order}
use Rattle.jfr_split.proofs.Sorting.{HaveSameSums, bytes_of, same_sorted, up_sorted, up_keys}

-- The names that end in `.jfr`, with their folder.
abbrev pub joined_in : List ℕ → List (List ℕ) → List (List ℕ)
joined_in folder names = map (in_folder folder) (filter is_recording names)

pub joined_one : (folder name : List ℕ) → joined_in folder (name ∷ []) ≡ (if is_recording name then in_folder folder name ∷ [] else [])
joined_one folder name = by (is_recording name)
  where
    by : (b : Bool) → map (in_folder folder) (cond b (name ∷ []) []) ≡ (if b then in_folder folder name ∷ [] else [])
    by true = refl
    by false = refl

pub joined_more : (folder : List ℕ) (names : List (List ℕ)) (name : List ℕ)
    → joined_in folder (names ++ name ∷ []) ≡ joined_in folder names ++ (if is_recording name then in_folder folder name ∷ [] else [])
joined_more folder names name =
    ap (map (in_folder folder)) (filter-append is_recording names (name ∷ []))
    ∙ map-append (in_folder folder) (filter is_recording names) (filter is_recording (name ∷ []))
    ∙ ap (λ (x : List (List ℕ)). joined_in folder names ++ x) (joined_one folder name)

split_name : (b : Bool) (folder name : List ℕ) (p : Bool) (rest : List ℕ) → bytes_eq (take (length folder + 1) name) (in_folder folder []) ≡ b
    → (if b && p then Some (drop (length folder + 1) name) else None) ≡ Some rest → name ≡ in_folder folder rest
split_name false folder name p rest e h = cc
split_name true folder name false rest e h = cc
split_name true folder name true rest e h =
    let n = length folder + 1 in
    let front : take n name ≡ in_folder folder [] = (bytes_decides (take n name) (in_folder folder [])).0 e in
    let back : drop n name ≡ rest = cc in
    sym (take-append-drop n name) ∙ ap (λ (x : List ℕ). x ++ drop n name) front ∙ ap (λ (x : List ℕ). in_folder folder [] ++ x) back ∙ append_assoc folder (47 ∷ []) rest

-- A name with a rest is its folder and the rest.
name_is : (folder name rest : List ℕ) → rest_in folder name ≡ Some rest → name ≡ in_folder folder rest
name_is folder name rest h = split_name (bytes_eq (take (length folder + 1) name) (in_folder folder [])) folder name (is_plain (drop (length folder + 1) name)) rest refl h

keep_by : (o : Option (List ℕ)) (folder name : List ℕ) (kept : List (List ℕ)) (later : List (List ℕ)) → rest_in folder name ≡ o → kept ≡ joined_in folder later
    → (if option_map_or is_recording o false then name ∷ kept else kept) ≡ joined_in folder (cons_option o later)
keep_by None folder name kept later e h = h
keep_by (Some rest) folder name kept later e h = keep (is_recording rest)
  where
    keep : (b : Bool) → (if b then name ∷ kept else kept) ≡ map (in_folder folder) (cond b (rest ∷ filter is_recording later) (filter is_recording later))
    keep true = ap (λ (x : List ℕ). x ∷ kept) (name_is folder name rest e) ∙ ap (λ (x : List (List ℕ)). in_folder folder rest ∷ x) h
    keep false = h

-- The names that are joined are the rests that end in `.jfr`.
joined_names : (folder : List ℕ) (names : List (List ℕ)) → filter (is_joined folder) names ≡ joined_in folder (filter_map (rest_in folder) names)
unfolding is_joined
joined_names folder [] = refl
joined_names folder (n ∷ ns) = keep_by (rest_in folder n) folder n (filter (is_joined folder) ns) (filter_map (rest_in folder) ns) refl (joined_names folder ns)

keys_kept : (p : List ℕ → Bool) (es : List (List ℕ × List ℕ)) → map (λ e. e.0) (filter (λ e. p e.0) es) ≡ filter p (map (λ e. e.0) es)
keys_kept p [] = refl
keys_kept p (e ∷ es) = keys_by (p e.0) e.0 e.1 (filter (λ x. p x.0) es) (filter p (map (λ x. x.0) es)) (keys_kept p es)
  where
    keys_by : (b : Bool) (k v : List ℕ) (xs : List (List ℕ × List ℕ)) (ks : List (List ℕ)) → map (λ x. x.0) xs ≡ ks → map (λ x. x.0) (cond b ((k, v) ∷ xs) xs) ≡ cond b (k ∷ ks) ks
    keys_by true k v xs ks h = ap (λ (y : List (List ℕ)). k ∷ y) h
    keys_by false k v xs ks h = h

-- The entries that are joined.
kept_entries : (folder : List ℕ) (files : Files) → fin.entries (files_in folder files) ≡ filter (λ e. is_joined folder e.0) (fin.entries files)
kept_entries folder files =
    let p = is_joined folder in
    let es = fin.entries files in
    let sorted = is_sorted-where_key order p es (entries_sorted files) in
    let kept = where_key order p es in
    let alike : (q x : List ℕ) → order q x ≡ Equal → p x ≡ p q = λ q x e. ap p (sym (slice_cmp-IsAntisymmetric nat_cmp-IsAntisymmetric q x e)) in
    let at : (q : List ℕ) → fin.get (files_in folder files) q ≡ fin.get (fin.from_sorted {R = order} kept) q = λ q.
    get-retain_keys files p q (alike q) ∙ ap (λ (o : Option (List ℕ)). cond (p q) o None) (get-entries files q) ∙ sym (find-where_key order p q (alike q) es)
    ∙ sym (get-from_sorted order kept q sorted) in
    ap (λ (m : Files). fin.entries m) (same_map nat_list_cmp_total (slice_cmp-IsAntisymmetric nat_cmp-IsAntisymmetric) (files_in folder files) (fin.from_sorted kept) at)
    ∙ entries-from_sorted order kept sorted

keys_joined : (folder : List ℕ) (files : Files) → fin.keys (files_in folder files) ≡ joined_in folder (names_in folder files)
keys_joined folder files =
    ap (λ (es : List (List ℕ × List ℕ)). map (λ e. e.0) es) (kept_entries folder files) ∙ keys_kept (is_joined folder) (fin.entries files) ∙ joined_names folder (fin.keys files)

sum_joined : (f : List ℕ → ℕ) (folder : List ℕ) (names : List (List ℕ)) → sum_by f (joined_in folder names) ≡ sum_by (λ n. cond (is_recording n) (f (in_folder folder n)) 0) names
sum_joined f folder [] = refl
sum_joined f folder (n ∷ ns) = sum_more (is_recording n) ∙ ap (λ (k : ℕ). g n + k) (sum_joined f folder ns) ∙ sym (sum_by-cons g n ns)
  where
    g : List ℕ → ℕ
    g x = cond (is_recording x) (f (in_folder folder x)) 0

    sum_more : (b : Bool) → sum_by f (map (in_folder folder) (cond b (n ∷ filter is_recording ns) (filter is_recording ns))) ≡ cond b (f (in_folder folder n)) 0 + sum_by f (joined_in folder ns)
    sum_more true = sum_by-cons f (in_folder folder n) (joined_in folder ns)
    sum_more false = sym (zero-add (sum_by f (joined_in folder ns)))

-- Names in any order give the same sums.
same_sums : (folder : List ℕ) (ns ms : List (List ℕ)) → IsPermutation ns ms → HaveSameSums (joined_in folder ms) (joined_in folder ns)
same_sums folder ns ms h = λ f.
    sum_joined f folder ms ∙ sum_by-IsPermutation (λ n. cond (is_recording n) (f (in_folder folder n)) 0) ns ms h ∙ sym (sum_joined f folder ns)

-- The listed names that end in `.jfr`, sorted, are the names of the files that are joined.
pub sorted_files : (folder : List ℕ) (files : Files) (words : List (List ℕ)) (found sorted : List (String Global)) → IsListing folder files words
    → bytes_of found ≡ joined_in folder (map encode_utf8_all words) → IsPermutation found sorted → IsSorted string_cmp sorted → bytes_of sorted ≡ fin.keys (files_in folder files)
sorted_files folder files words found sorted listing are moved up =
    same_sorted (bytes_of sorted) (fin.keys (files_in folder files)) (up_sorted sorted up) (up_keys (fin.entries (files_in folder files)) (entries_sorted (files_in folder files)))
    (λ f.
    sum_by-IsPermutation f (bytes_of found) (bytes_of sorted) (IsPermutation-map (λ (s : String Global). string_bytes s) found sorted moved)
    ∙ ap (λ (x : List (List ℕ)). sum_by f x) are
    ∙ same_sums folder (names_in folder files) (map encode_utf8_all words) listing f
    ∙ ap (λ (x : List (List ℕ)). sum_by f x) (sym (keys_joined folder files)))

-- One listed name more was looked at.
pub listed_more : (folder : List ℕ) (words : List (List ℕ)) (at : ℕ) (name : List ℕ) (found found' : List (String Global)) → at < length words → slice_get words at ≡ Some (chars name) → IsUtf8 name
    → bytes_of found ≡ joined_in folder (map encode_utf8_all (take at words))
    → bytes_of found' ≡ bytes_of found ++ (if is_recording name then in_folder folder name ∷ [] else []) → bytes_of found' ≡ joined_in folder (map encode_utf8_all (take (at + 1) words))
listed_more folder words at name found found' l e u h k =
    let before = map encode_utf8_all (take at words) in
    let word : get_or words at (chars name) ≡ chars name = get_or_from_slice_get words at (chars name) (chars name) e in
    let more : map encode_utf8_all (take (at + 1) words) ≡ before ++ name ∷ [] =
    ap (map encode_utf8_all) (take_more words at (chars name) l) ∙ map-append encode_utf8_all (take at words) (get_or words at (chars name) ∷ [])
    ∙ ap (λ (w : List ℕ). before ++ encode_utf8_all w ∷ []) word ∙ ap (λ (w : List ℕ). before ++ w ∷ []) (encodes-chars name u) in
    k ∙ ap (λ (x : List (List ℕ)). x ++ (if is_recording name then in_folder folder name ∷ [] else [])) h ∙ sym (joined_more folder before name) ∙ ap (joined_in folder) (sym more)
