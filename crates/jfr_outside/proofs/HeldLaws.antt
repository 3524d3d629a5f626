-- A map in memory, read and changed as the files that it holds.
use Rattle.std.proofs.Common.{◌≡◌, ℕ, List, [], ◌∷◌, ◌++◌, map, refl, sym, ◌∙◌, ap, Bool, true, false, cond, string_bytes, String, Vec, Option, None, Some, option_map, unwrap_or, IsSome, is_some, subst, Result, Ok, Err, OnOk, OnErr, ◌≤◌, take, arith, append-nil}
use Rattle.std.specs.Ordering.{nat_cmp, eq_by_cmp, is_eq}
use Rattle.std.specs.Cmp.{eq_by_cmp_equiv}
use Rattle.std.specs.Cmp.Lexicographic.{slice_cmp, nat_list_cmp_total}
use Rattle.std.specs.Str.{bytes_eq}
use Rattle.std.specs.FinMap as fin
use Rattle.std.specs.FinMap.{find, get-from_entries, get-insert, same_map, slice_cmp-IsAntisymmetric, nat_cmp-IsAntisymmetric}
use Rattle.std.specs.Map.{lookup}
use Rattle.std.specs.BTreeMap.{BTreeMap, get_by_text, is_at, UpdatesBy}
use Rattle.std.specs.String.{string_cmp}
use Rattle.std.specs.declared.cmp.Ordering.TheVariants.{Less, Equal, Greater}
use Rattle.std.specs.declared.alloc.Global.{Global}
use Rattle.std.proofs.lemmas.Map.Text.{is_eq-slice_cmp, btree_map_updates_text}
use Rattle.jfr_outside.specs.World.{World, Files, grown, appended}
use Rattle.jfr_outside.specs.Held.{files_of, entry_of, IsHeld}

-- Files in memory, by name.
abbrev pub FileMap : Type 0
FileMap = BTreeMap (String Global) (Vec ℕ Global)

-- The bytes of a file, if it is there.
abbrev pub items_of : Option (Vec ℕ Global) → Option (List ℕ)
items_of o = option_map (λ v. v.items) o

-- A name finds the same among the entries of both.
found : (q : List ℕ) (es : List (String Global × Vec ℕ Global)) → find (slice_cmp nat_cmp) q (map entry_of es) ≡ items_of (lookup (is_at (λ k. slice_cmp nat_cmp q (string_bytes k))) es)
found q [] = refl
found q (e ∷ es) = elim (is_eq (slice_cmp nat_cmp q (string_bytes e.0))) as
    (λ b. cond b (Some e.1.items) (find (slice_cmp nat_cmp) q (map entry_of es)) ≡ items_of (cond b (Some e.1) (lookup (is_at (λ k. slice_cmp nat_cmp q (string_bytes k))) es)))
    [ true ↦ refl | false ↦ found q es ]

-- A file of the map.
pub get-files_of : (m : FileMap) (q : List ℕ) → fin.get (files_of m) q ≡ items_of (get_by_text m q)
get-files_of m q = get-from_entries nat_list_cmp_total (map entry_of m.entries) q ∙ found q m.entries

-- Two names tie exactly if they have the same bytes.
pub turned : (a b : List ℕ) → eq_by_cmp (slice_cmp nat_cmp) a b ≡ bytes_eq b a
turned a b = (eq_by_cmp_equiv nat_list_cmp_total).symm a b ∙ is_eq-slice_cmp b a

-- The bytes of the one that is chosen.
chosen : (b : Bool) (v : Vec ℕ Global) (o : Option (Vec ℕ Global)) → items_of (cond b (Some v) o) ≡ cond b (Some v.items) (items_of o)
chosen true v o = refl
chosen false v o = refl

-- A change at one name.
pub insert-files_of : (m n : FileMap) (name : List ℕ) (v : Vec ℕ Global) → UpdatesBy string_cmp (λ k. slice_cmp nat_cmp name (string_bytes k)) m n (Some v)
    → files_of n ≡ fin.insert (files_of m) name v.items
insert-files_of m n name v updates =
    same_map nat_list_cmp_total (slice_cmp-IsAntisymmetric nat_cmp-IsAntisymmetric) _ _ (λ q.
    get-files_of n q
    ∙ ap items_of (btree_map_updates_text name m n (Some v) updates q)
    ∙ chosen (bytes_eq name q) v (get_by_text m q)
    ∙ sym (get-insert nat_list_cmp_total (files_of m) name v.items q ∙ ap (λ (b : Bool). cond b (Some v.items) (fin.get (files_of m) q)) (turned q name)
    ∙ ap (λ (o : Option (List ℕ)). cond (bytes_eq name q) (Some v.items) o) (get-files_of m q)))

-- Keys that tie.
tied : (q name : List ℕ) → eq_by_cmp (slice_cmp nat_cmp) q name ≡ true → slice_cmp nat_cmp q name ≡ Equal
tied q name same = elim (slice_cmp nat_cmp q name) as (λ o. is_eq o ≡ true → o ≡ Equal) [ Less ↦ λ e. cc | Equal ↦ λ e. refl | Greater ↦ λ e. cc ] same

-- At each name a file that is set to what it is changes nothing.
again : (q name : List ℕ) (files : Files) (v : List ℕ) → fin.get files name ≡ Some v → (b : Bool) → eq_by_cmp (slice_cmp nat_cmp) q name ≡ b → cond b (Some v) (fin.get files q) ≡ fin.get files q
again q name files v is true same = sym is ∙ ap (fin.get files) (sym (slice_cmp-IsAntisymmetric nat_cmp-IsAntisymmetric q name (tied q name same)))
again q name files v is false same = refl

-- A file that is set to what it is.
pub insert_same : (files : Files) (name v : List ℕ) → fin.get files name ≡ Some v → fin.insert files name v ≡ files
insert_same files name v is =
    same_map nat_list_cmp_total (slice_cmp-IsAntisymmetric nat_cmp-IsAntisymmetric) _ _ (λ q.
    get-insert nat_list_cmp_total files name v q ∙ again q name files v is (eq_by_cmp (slice_cmp nat_cmp) q name) refl)

-- Bytes added to a file of the map are added to it among the files.
pub grown_map : (m n : FileMap) (name : List ℕ) (old new : Vec ℕ Global) (bytes : List ℕ) → Some old ≡ get_by_text m name
    → (IsSome (get_by_text m name) → UpdatesBy string_cmp (λ k. slice_cmp nat_cmp name (string_bytes k)) m n (Some new)) → new.items ≡ old.items ++ bytes
    → files_of n ≡ fin.insert (files_of m) name (unwrap_or (fin.get (files_of m) name) [] ++ bytes)
grown_map m n name old new bytes is updates grows =
    let some : IsSome (get_by_text m name) = subst IsSome is refl in
    let there : fin.get (files_of m) name ≡ Some old.items = get-files_of m name ∙ ap items_of (sym is) in
    insert-files_of m n name new (updates some) ∙ ap (fin.insert (files_of m) name) (grows ∙ ap (λ (o : Option (List ℕ)). unwrap_or o [] ++ bytes) (sym there))

-- A file of the map that keeps its bytes leaves the files as they are.
pub kept_map : (m n : FileMap) (name : List ℕ) (old new : Vec ℕ Global) → Some old ≡ get_by_text m name
    → (IsSome (get_by_text m name) → UpdatesBy string_cmp (λ k. slice_cmp nat_cmp name (string_bytes k)) m n (Some new)) → new.items ≡ old.items → files_of n ≡ files_of m
kept_map m n name old new is updates same =
    let some : IsSome (get_by_text m name) = subst IsSome is refl in
    let there : fin.get (files_of m) name ≡ Some old.items = get-files_of m name ∙ ap items_of (sym is) in
    insert-files_of m n name new (updates some) ∙ ap (fin.insert (files_of m) name) same ∙ insert_same (files_of m) name old.items there

-- A file set in the map is set among the files.
pub inserted : (m n : FileMap) (key : String Global) (v : Vec ℕ Global) (name bytes : List ℕ) → UpdatesBy string_cmp (string_cmp key) m n (Some v) → string_bytes key ≡ name → v.items ≡ bytes
    → files_of n ≡ fin.insert (files_of m) name bytes
inserted m n key v name bytes updates is has = insert-files_of m n (string_bytes key) v updates ∙ ap (λ (k : List ℕ). fin.insert (files_of m) k v.items) is ∙ ap (fin.insert (files_of m) name) has

-- Of two files that may be chosen, one is there.
there_again : (b : Bool) (v : List ℕ) (o : Option (List ℕ)) → is_some o ≡ true → is_some (cond b (Some v) o) ≡ true
there_again true v o h = refl
there_again false v o h = h

-- A file stays.
pub stays : (files : Files) (k v name : List ℕ) → is_some (fin.get files name) ≡ true → is_some (fin.get (fin.insert files k v) name) ≡ true
stays files k v name h = rw (get-insert nat_list_cmp_total files k v name) (there_again (eq_by_cmp (slice_cmp nat_cmp) name k) v (fin.get files name) h)

-- A file that is set is there.
pub is_there : (files : Files) (name v : List ℕ) → fin.get (fin.insert files name v) name ≡ Some v
is_there files name v = get-insert nat_list_cmp_total files name v name ∙ ap (λ (b : Bool). cond b (Some v) (fin.get files name)) ((eq_by_cmp_equiv nat_list_cmp_total).refl name)

-- A file found in the map is found among the files.
pub looked : (m : FileMap) (q : List ℕ) (v : Vec ℕ Global) → Some v ≡ get_by_text m q → Some v.items ≡ fin.get (files_of m) q
looked m q v is = ap items_of is ∙ sym (get-files_of m q)

-- A file not in the map is none of the files.
pub looked_none : (m : FileMap) (q : List ℕ) → None ≡ get_by_text m q → None ≡ fin.get (files_of m) q
looked_none m q is = ap items_of is ∙ sym (get-files_of m q)

-- A file stays when another is set.
pub held_insert : (files : Files) (k v name : List ℕ) → IsHeld files name → IsHeld (fin.insert files k v) name
held_insert files k v name h = record { there = stays files k v name h.there }

-- A file that is set is held.
pub held_new : (files : Files) (name v : List ℕ) → IsHeld (fin.insert files name v) name
held_new files name v = record { there = ap is_some (is_there files name v) }

-- Equal files hold the same names.
pub held_same : (m n : Files) → m ≡ n → (other : List ℕ) → IsHeld n other → IsHeld m other
held_same m n e other h = record { there = ap (λ (f : Files). is_some (fin.get f other)) e ∙ h.there }

-- Files with one set besides hold the same names.
pub held_grown : (m n : Files) (k v : List ℕ) → m ≡ fin.insert n k v → (other : List ℕ) → IsHeld n other → IsHeld m other
held_grown m n k v e other h = held_same m (fin.insert n k v) e other (held_insert n k v other h)

-- A name that the map doesn't have is not held.
pub not_held : (m : FileMap) (name : List ℕ) → None ≡ get_by_text m name → IsHeld (files_of m) name → ⊥
not_held m name none h = let e : false ≡ true = ap is_some (looked_none m name none) ∙ h.there in cc

-- The name of the output, however it is spelled, is held.
pub held_key : (files : Files) (name : List ℕ) (output x : String Global) → IsHeld files name → string_bytes output ≡ name → Some output ≡ Some x → IsHeld files (string_bytes x)
held_key files name output x h is same = let e : name ≡ string_bytes x = cc in subst (IsHeld files) e h

-- Files with one set hold it.
pub held_as : (m n : Files) (k v name : List ℕ) → m ≡ fin.insert n k v → k ≡ name → IsHeld m name
held_as m n k v name e is = held_same m (fin.insert n k v) e name (subst (IsHeld (fin.insert n k v)) is (held_new n k v))

-- A file that is set to its bytes and no more.
set_to : (files : Files) (name : List ℕ) (o : Option (List ℕ)) → fin.get files name ≡ o → is_some o ≡ true → fin.insert files name (unwrap_or o [] ++ []) ≡ files
set_to files name None is there = cc
set_to files name (Some v) is there = ap (fin.insert files name) (append-nil v) ∙ insert_same files name v is

-- A file that is there, with no bytes more.
pub grown_none : (files : Files) (name : List ℕ) → IsHeld files name → fin.insert files name (unwrap_or (fin.get files name) [] ++ []) ≡ files
grown_none files name h = set_to files name (fin.get files name) refl h.there

-- What a failing append leaves, whether or not memory was there for the bytes that it keeps.
pub append_kept : {E : Type 0} (r : Result Unit E) (w : World) (after : Files) (name bytes : List ℕ) (m keep : ℕ) → w.output ≡ Some name → m ≤ keep → IsHeld w.files name
    → OnOk r (after ≡ fin.insert w.files name (unwrap_or (fin.get w.files name) [] ++ take m bytes)) → OnErr r (after ≡ w.files)
    → (k : ℕ) × (k ≤ keep) × (Some (record w { files = after }) ≡ Some (appended (take k bytes) w))
append_kept (Ok x) w after name bytes m keep is most held ok err =
    (m, most, ap (λ (f : Files). Some (record w { files = f })) (ok ∙ sym (ap (λ (o : Option (List ℕ)). grown o (take m bytes) w.files) is)))
append_kept (Err e) w after name bytes m keep is most held ok err =
    (0, omega arith, ap (λ (f : Files). Some (record w { files = f })) (err ∙ sym (ap (λ (o : Option (List ℕ)). grown o [] w.files) is ∙ grown_none w.files name held)))
