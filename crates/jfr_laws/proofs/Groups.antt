-- The groups of entries that are written are spelled by the chunk's bytes, and have exactly these entries, in
-- order.
use Rattle.std.specs.Prelude.{◌≡◌, ℕ, ◌<◌, Bool, true, false, ◌&&◌, ◌==◌, List, [], ◌∷◌, ◌++◌, if◌then◌else◌, ⊤}
use Rattle.std.specs.List.{flat_map, AllByRecursion}
use Rattle.std.proofs.Common.{ap, arith, refl, ◌∙◌}
use Rattle.std.proofs.lemmas.Map.Views.{exact_unsigned_eq}
use Rattle.jfr_layout.specs.Classes.{Classes}
use Rattle.jfr_pool.specs.declared.entry.EntryAt.{EntryAt}
use Rattle.jfr_chunk.specs.Written.{Group, add_entry, by_pool}
use Rattle.jfr_chunk.proofs.TestLaws.{left_true, right_true, is_eq}
use Rattle.jfr_laws.specs.InChunk.{IsEntryIn, IsGroupIn}

-- The entry joins the group.
abbrev joins : EntryAt → Group → Bool
joins e g = (e.pool == g.pool) && (e.class == g.class)

abbrev alone : EntryAt → Group
alone e = record { class = e.class; pool = e.pool; entries = e ∷ [] }

abbrev joined : EntryAt → Group → Group
joined e g = record { class = g.class; pool = g.pool; entries = e ∷ g.entries }

-- Each group has one class, and its entries are in the chunk if all are.
pub groups_stand : (c : List ℕ) (k : Classes) (es : List EntryAt) → AllByRecursion (IsEntryIn c k) es → AllByRecursion (IsGroupIn c k) (by_pool es)
groups_stand c k [] a = tt
groups_stand c k (e ∷ es) a = added (by_pool es) (groups_stand c k es a.1)
  where
    by_test : (g : Group) (gs : List Group) (t : Bool) → joins e g ≡ t → IsGroupIn c k g → AllByRecursion (IsGroupIn c k) gs
        → AllByRecursion (IsGroupIn c k) (if t then joined e g ∷ gs else alone e ∷ (g ∷ gs))
    by_test g gs true h s i = ((s.0, ((a.0, exact_unsigned_eq e.class g.class (right_true (e.pool == g.pool) (e.class == g.class) h)), s.1)), i)
    by_test g gs false h s i = ((a.0.known, ((a.0, refl), tt)), (s, i))

    added : (gs : List Group) → AllByRecursion (IsGroupIn c k) gs → AllByRecursion (IsGroupIn c k) (add_entry e gs)
    added [] i = ((a.0.known, ((a.0, refl), tt)), tt)
    added (g ∷ gs) i = by_test g gs (joins e g) refl i.0 i.1

-- The groups hold the entries, in order.
pub groups_hold : (es : List EntryAt) → flat_map (λ g. g.entries) (by_pool es) ≡ es
groups_hold [] = refl
groups_hold (e ∷ es) = added (by_pool es) ∙ ap (λ z. e ∷ z) (groups_hold es)
  where
    by_test : (g : Group) (gs : List Group) (t : Bool) → flat_map (λ g. g.entries) (if t then joined e g ∷ gs else alone e ∷ (g ∷ gs)) ≡ e ∷ (g.entries ++ flat_map (λ g. g.entries) gs)
    by_test g gs true = refl
    by_test g gs false = refl

    added : (gs : List Group) → flat_map (λ g. g.entries) (add_entry e gs) ≡ e ∷ flat_map (λ g. g.entries) gs
    added [] = refl
    added (g ∷ gs) = by_test g gs (joins e g)

-- The first group is of a later pool.
abbrev pub Apart : ℕ → List Group → Type 0
Apart number [] = ⊤
Apart number (g ∷ gs) = number < g.pool

pub apart : (number : ℕ) (es : List EntryAt) → AllByRecursion (λ e. number < e.pool) es → Apart number (by_pool es)
apart number [] a = tt
apart number (e ∷ es) a = added (by_pool es)
  where
    by_test : (g : Group) (gs : List Group) (t : Bool) → joins e g ≡ t → Apart number (if t then joined e g ∷ gs else alone e ∷ (g ∷ gs))
    by_test g gs true h =
        let f : e.pool ≡ g.pool = exact_unsigned_eq e.pool g.pool (left_true (e.pool == g.pool) (e.class == g.class) h) in
        let i : number < e.pool = a.0 in
        omega arith
    by_test g gs false h = a.0

    added : (gs : List Group) → Apart number (add_entry e gs)
    added [] = a.0
    added (g ∷ gs) = by_test g gs (joins e g) refl

-- The group of a pool's entries before others, if there are any.
abbrev pub in_front : ℕ → ℕ → List EntryAt → List Group → List Group
in_front number class [] gs = gs
in_front number class (f ∷ fs) gs = record { class = class; pool = number; entries = f ∷ fs } ∷ gs

-- The entries of a pool before those of later ones are a group.
pub by_front : (number class : ℕ) (fs rest : List EntryAt) → AllByRecursion (λ e. (e.pool ≡ number) × (e.class ≡ class)) fs → Apart number (by_pool rest)
    → by_pool (fs ++ rest) ≡ in_front number class fs (by_pool rest)
by_front number class [] rest a o = refl
by_front number class (e ∷ []) rest a o = first (by_pool rest) o
  where
    group : ℕ → ℕ → Group
    group class pool = record { class = class; pool = pool; entries = e ∷ [] }

    first : (gs : List Group) → Apart number gs → add_entry e gs ≡ group class number ∷ gs
    first [] o = ap (λ m. group m e.pool ∷ []) a.0.1 ∙ ap (λ m. group class m ∷ []) a.0.0
    first (g ∷ gs) o =
        let f : e.pool ≡ number = a.0.0 in
        let i : number < g.pool = o in
        let t : (e.pool == g.pool) ≡ false = grind arith in
        rw t (ap (λ m. group m e.pool ∷ (g ∷ gs)) a.0.1 ∙ ap (λ m. group class m ∷ (g ∷ gs)) a.0.0)
by_front number class (e ∷ f ∷ fs) rest a o = ap (add_entry e) (by_front number class (f ∷ fs) rest a.1 o) ∙ together
  where
    together : add_entry e (record { class = class; pool = number; entries = f ∷ fs } ∷ by_pool rest) ≡ record { class = class; pool = number; entries = e ∷ (f ∷ fs) } ∷ by_pool rest
    together =
        let s : (e.pool == number) ≡ true = is_eq e.pool number a.0.0 in
        let t : (e.class == class) ≡ true = is_eq e.class class a.0.1 in
        rw (s, t) refl
