-- What is built anew of the metadata record of a chunk is a record, and describes the classes that stay.
use Rattle.std.specs.Prelude.{◌≡◌, ℕ, ◌^◌, ◌<◌, ◌≤◌, Bool, true, false, ◌&&◌, ◌||◌, ◌==◌, nat_lt, nat_le, List, [], ◌∷◌, length, Option, Some, None, Contains, if◌then◌else◌}
use lib.Utf8.{scalars}
use Rattle.std.specs.List.{AllByRecursion, list_all}
use Rattle.std.specs.Str.{encode_utf8_all}
use Rattle.std.proofs.lemmas.Str.{chars-encodes}
use Rattle.std.specs.Option.{option_map_or}
use Rattle.std.proofs.Common.{ap, arith, refl, sym, ◌∙◌, subst}
use Rattle.std.proofs.lemmas.Bool.Decides.{nat_tests}
use Rattle.jfr_layout.specs.Classes.{Class, Classes, Sound, Agree, find_class, has_id, is_event_class, extends_event}
use Rattle.jfr_meta.specs.Trees.{Tree, element_offset}
use Rattle.jfr_meta.specs.Described.{class_elements, class_flaws, described}
use Rattle.jfr_meta.specs.Written.{IsText}
use Rattle.jfr_meta.proofs.Depths.{shallow}
use Rattle.jfr_chunk.specs.Parts.{Parts, EventAt, AreParts}
use Rattle.jfr_layout.specs.Staying.{staying}
use Rattle.jfr_meta.specs.Stays.{ids_below, HasHead, IsStay, stay_of}
use Rattle.jfr_meta.specs.Slimmed.{slim_body, bytes_of_body, table_len, IsSlim, slim_in}
use Rattle.jfr_chunk.specs.Metas.{Names, used_by, is_described, is_used, stays_in, slim_of, rebuilt}
use Rattle.jfr_laws.proofs.Five.{StandsAnew, read_back}
use Rattle.jfr_meta.proofs.Lists.{nothing_each}
use Rattle.jfr_laws.proofs.Whole.{or_right}
use Rattle.jfr_meta.proofs.SlimLaws.{Describes, told_well, is_slim}
use Rattle.jfr_meta.proofs.StayLaws.{is_stay}
use Rattle.jfr_layout.proofs.StayingLaws.{stay_well, staying_sound}
use Rattle.jfr_meta.proofs.SlimClasses.{fields_closed}

pub and_parts : (t u : Bool) → (t && u) ≡ true → (t ≡ true) × (u ≡ true)
and_parts true true e = (refl, refl)
and_parts true false e = cc
and_parts false u e = cc

-- Texts, by their characters.
text_of : (cs : List ℕ) → scalars cs ≡ true → IsText cs
text_of cs e = (encode_utf8_all cs, (cs, (e, refl)), chars-encodes cs e)

texts_of : (xs : List (List ℕ)) → list_all scalars xs ≡ true → AllByRecursion IsText xs
texts_of [] e = tt
texts_of (x ∷ xs) e = let h = and_parts (scalars x) (list_all scalars xs) e in (text_of x h.0, texts_of xs h.1)

-- What is built anew has few bytes.
pub record IsAnew (names : Names) (p : Parts) (kept : List EventAt) (room : ℕ) (x : List ℕ) : Type 0 where
  pub bytes : x ≡ bytes_of_body (slim_of names p kept)
  pub all : list_all scalars (slim_of names p kept).strings ≡ true
  pub small : table_len (slim_of names p kept) < 536870912
  pub fits : length x ≤ room

pub is_anew : (names : Names) (p : Parts) (kept : List EventAt) (room : ℕ) (x : List ℕ) → rebuilt names p kept room ≡ Some x → IsAnew names p kept room x
unfolding rebuilt slim_in
is_anew names p kept room x e =
    by_tests (list_all scalars (slim_of names p kept).strings) refl (nat_lt (table_len (slim_of names p kept)) (2 ^ 29)) refl (nat_le (length (bytes_of_body (slim_of names p kept))) room) refl e
  where
    by_tests : (s : Bool) → list_all scalars (slim_of names p kept).strings ≡ s → (t : Bool) → nat_lt (table_len (slim_of names p kept)) (2 ^ 29) ≡ t → (u : Bool)
        → nat_le (length (bytes_of_body (slim_of names p kept))) room ≡ u
        → (if s then (if t && u then Some (bytes_of_body (slim_of names p kept)) else None) else None) ≡ Some x → IsAnew names p kept room x
    by_tests true v true q true r e =
        let h : x ≡ bytes_of_body (slim_of names p kept) = cc in
        let l : length (bytes_of_body (slim_of names p kept)) ≤ room = grind (arith, nat_tests) in
        record { bytes = h; all = v; small = grind (arith, nat_tests); fits = omega (arith, ap length h) }
    by_tests true v true q false r e = cc
    by_tests true v false q u r e = cc
    by_tests false v t q u r e = cc

pub some_class : (k : Classes) (id : ℕ) → is_event_class k id ≡ true → (c : Class) × (find_class k id ≡ Some c)
unfolding is_event_class
some_class k id e = by_class (find_class k id) refl (and_parts (nat_lt 1 id) (option_map_or extends_event (find_class k id) false) e).1
  where
    by_class : (o : Option Class) → find_class k id ≡ o → option_map_or extends_event o false ≡ true → (c : Class) × (find_class k id ≡ Some c)
    by_class None q e = cc
    by_class (Some c) q e = (c, q)

pub any_of : (k : Classes) (id : ℕ) (c : Class) → find_class k id ≡ Some c → has_id k id ≡ true
any_of [] id c e = cc
any_of (d ∷ k) id c e = by_test (d.id == id) e (any_of k id c)
  where
    by_test : (b : Bool) → (if b then Some d else find_class k id) ≡ Some c → (find_class k id ≡ Some c → has_id k id ≡ true) → (b || has_id k id) ≡ true
    by_test true e g = refl
    by_test false e g = g e

described_has : (names : Names) (k : Classes) (id : ℕ) → is_described names k id ≡ true → has_id k id ≡ true
described_has names [] id e = e
described_has names (c ∷ k) id e = by_tests (c.id == id) (names c.name) e (described_has names k id)
  where
    by_tests : (t u : Bool) → ((t && u) || is_described names k id) ≡ true → (is_described names k id ≡ true → has_id k id ≡ true) → (t || has_id k id) ≡ true
    by_tests true u e f = refl
    by_tests false u e f = f e

module _ (names : Names) (p : Parts) (a : AreParts p) (kept : List EventAt) where
  abbrev k : Classes
  k = p.classes

  abbrev used : ℕ → Bool
  used = is_used names p kept

  abbrev stays : ℕ → Bool
  stays = stays_in names p kept

  pub d : Describes p.body.strings (class_elements p.body.strings p.body.root) p.classes
  unfolding described
  d = told_well p.body.strings (element_offset p.body.root) (class_elements p.body.strings p.body.root) p.classes a.metadata.classes

  abbrev ts : List Tree
  ts = d.elements

  pub stays_is : stays ≡ stay_of p.body.strings ts k used
  unfolding stays_in
  stays_is = λ i id. option_map_or (λ ts. stay_of p.body.strings ts k used id) (d.there i) false

  pub stay : IsStay p.body.strings ts k used stays
  stay = subst (IsStay p.body.strings ts k used) (sym stays_is) (is_stay p.body.strings ts k used (sym d.classes) d.sound (nothing_each (class_flaws p.body.strings) ts d.good))

  -- A class whose name is in the set stays.
  pub described_stays : (id : ℕ) → is_described names k id ≡ true → stays id ≡ true
  described_stays id e = stay.has.uses id (described_has names k id e) (or_right (used_by kept id) (is_described names k id) e)

  closed : (us : List Tree) → class_elements p.body.strings p.body.root ≡ Some us → (t : Tree) (id other : ℕ) → Contains us t → HasHead p.body.strings t id → stays id ≡ true
      → Contains (ids_below p.body.strings t) other → has_id k other ≡ true → stays other ≡ true
  closed us e t id other i h s n o =
      let q : us ≡ ts = (let z : Some us ≡ Some ts = sym e ∙ d.there in cc) in
      stay.has.names t id other (subst (λ z. Contains z t) q i) h s n o

  pub slim : IsSlim p.body p.classes stays
  slim = is_slim p.body p.classes stays a.metadata.classes closed

  pub left_sound : Sound (staying stays k)
  left_sound = staying_sound k stays d.sound (fields_closed p.body.strings ts k stays (sym d.classes) (closed ts d.there) (nothing_each (class_flaws p.body.strings) ts d.good) d.sound)

  pub agree_left : (id : ℕ) (c : Class) → find_class k id ≡ Some c → stays id ≡ true → Agree k (staying stays k) id
  agree_left id c e s = (stay_well k stays d.sound (fields_closed p.body.strings ts k stays (sym d.classes) (closed ts d.there) (nothing_each (class_flaws p.body.strings) ts d.good) d.sound)).agree id
      c e s

  pub stands_anew : (room : ℕ) (x : List ℕ) → IsAnew names p kept room x → StandsAnew x (slim_of names p kept)
  unfolding slim_body
  stands_anew room x n =
      read_back p.body.start p.body.duration p.body.id (slim_of names p kept).strings (slim_of names p kept).root x slim.indices
      (omega (arith, slim.levels, shallow p.bytes a.metadata_record p.body p.classes a.metadata)) n.small (texts_of (slim_of names p kept).strings n.all) n.bytes
