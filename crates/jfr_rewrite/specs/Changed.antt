-- Values of which each part without parts of its own is changed.
use Rattle.std.specs.Prelude.{◌≡◌, ℕ, zero, suc, Bool, true, false, List, map, Option}
use Rattle.jfr_base.specs.Formats.{Exactly}
use Rattle.jfr_layout.specs.Classes.{Classes}
use Rattle.jfr_layout.specs.declared.shape.Shape.{Shape}
use Rattle.jfr_value.specs.declared.leaf.Holder.{Holder}
use Rattle.jfr_value.specs.declared.leaf.LeafKind.{LeafKind}
use Rattle.jfr_value.specs.declared.leaf.LeafKind.TheVariants as leaf_kinds
use Rattle.jfr_value.specs.Values.{Value, Values, Single, Group, Nil, Cons, shape_of, bytes_of, IsSingle, Fits}
use Rattle.jfr_value.specs.Reading.{value_format}
use Rattle.jfr_value.specs.Leaves.{LeafAt, leaf_key, leaves_at, part_holder}

-- A value without parts, except for its shape.
pub record Plain : Type 0 where
  pub kind : LeafKind
  pub bytes : List ℕ
  pub key : Option ℕ

abbrev pub plain : LeafKind → List ℕ → Option ℕ → Plain
plain kind bytes key = record { kind = kind; bytes = bytes; key = key }

abbrev pub single_of : Shape → Plain → Value
single_of s p = Single s p.kind p.bytes p.key

-- What becomes of a value without parts, given its holder (the innermost field that it is in), if it has one, and
-- its shape.
abbrev pub Change : Type 0
Change = Option Holder → Shape → Plain → Plain

-- The changed value, given its holder.
abbrev mutual
  pub changed : Change → Option Holder → Value → Value
  changed ch h (Single s kind b key) = single_of s (ch h s (plain kind b key))
  changed ch h (Group s head vs) = Group s head (changed_all ch (part_holder s h) vs)

  pub changed_all : Change → (ℕ → Option Holder) → Values → Values
  changed_all ch f Nil = Nil
  changed_all ch f (Cons v vs) = Cons (changed ch (f zero) v) (changed_all ch (λ n. f (suc n)) vs)

-- The change keeps what fits: what becomes of a value of some shape is a value of that shape.
abbrev pub KeepsFit : Classes → Change → Type 0
KeepsFit k ch = (h : Option Holder) (s : Shape) (p : Plain) → IsSingle k s p.kind p.bytes p.key → IsSingle k s (ch h s p).kind (ch h s p).bytes (ch h s p).key

-- A leaf without its holder and its offset.
pub record Content : Type 0 where
  pub kind : LeafKind
  pub class : ℕ
  pub spelled : List ℕ

abbrev pub content : LeafAt → Content
content l = record { kind = l.kind; class = l.class; spelled = l.spelled }

-- Whether a leaf of this kind is a reference.
abbrev pub is_key : LeafKind → Bool
is_key (leaf_kinds.Key key) = true
is_key (leaf_kinds.Count n) = false
is_key (leaf_kinds.Base kind) = false

-- The shape of the value that a leaf is, unless the leaf is a count.
abbrev pub leaf_shape : LeafAt → Shape
leaf_shape l = record { class = l.class; constant = is_key l.kind; array = false }

-- A leaf as a value without parts, and back.
abbrev pub leaf_plain : LeafAt → Plain
leaf_plain l = plain l.kind l.spelled (leaf_key l.kind l.spelled)

abbrev pub content_of : ℕ → Plain → Content
content_of class p = record { kind = p.kind; class = class; spelled = p.bytes }

-- The changed leaf. A count doesn't change.
abbrev pub changed_by_kind : Change → LeafAt → LeafKind → Content
changed_by_kind ch l (leaf_kinds.Count n) = content l
changed_by_kind ch l (leaf_kinds.Key key) = content_of l.class (ch l.holder (leaf_shape l) (leaf_plain l))
changed_by_kind ch l (leaf_kinds.Base kind) = content_of l.class (ch l.holder (leaf_shape l) (leaf_plain l))

abbrev pub changed_leaf : Change → LeafAt → Content
changed_leaf ch l = changed_by_kind ch l l.kind

-- The changed value has the same shape and is read from its own bytes. Its leaves are the changed ones.
pub record IsReadChanged (k : Classes) (ch : Change) (h : Option Holder) (v : Value) : Type 0 where
  pub shape : shape_of (changed ch h v) ≡ shape_of v
  pub fits : Fits k (changed ch h v)
  pub read : Exactly (value_format k (shape_of v)) (bytes_of (changed ch h v)) (changed ch h v)
  pub leaves : (at new_at : ℕ) → map content (leaves_at h new_at (changed ch h v)) ≡ map (changed_leaf ch) (leaves_at h at v)
