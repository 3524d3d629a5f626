-- A value is a tree of bytes, without offsets: a single value, or parts after a head.
use Rattle.std.specs.Prelude.{◌≡◌, ℕ, true, false, List, [], ◌∷◌, ◌++◌, ◌⊎◌, ⊤, replicate, length, map, Option, Some, None}
use Rattle.std.specs.Option.{option_map}
use Rattle.jfr_base.specs.Integer.{Spells}
use Rattle.jfr_text.specs.Strings.{Content, Null, Empty, Key, Utf8, Units, Latin, IsString}
use Rattle.jfr_layout.specs.Classes.{Class, Classes, IsFieldLayout, find_class, form_of, kind_of, item_of}
use Rattle.jfr_layout.specs.declared.kind.Kind.{Kind}
use Rattle.jfr_layout.specs.declared.kind.Kind.TheVariants as kinds
use Rattle.jfr_layout.specs.declared.shape.Shape.{Shape}
use Rattle.jfr_layout.specs.declared.field_layout.FieldLayout.{FieldLayout}
use Rattle.jfr_value.specs.declared.leaf.LeafKind.{LeafKind}
use Rattle.jfr_value.specs.declared.leaf.LeafKind.TheVariants as leaf_kinds

mutual
  pub data Value : Type 0 where
    -- A value without parts: the kind of leaf that it is, its bytes, and the key if it is a reference, or a
    -- string that is a key.
    Single : (shape : Shape) (kind : LeafKind) (bytes : List ℕ) (key : Option ℕ) → Value
    -- An array, whose head is its count, or a composite value, whose head is empty.
    Group : (shape : Shape) (head : List ℕ) (parts : Values) → Value

  pub data Values : Type 0 where
    Nil : Values
    Cons : (first : Value) (rest : Values) → Values

-- A list as values.
abbrev pub values_of : List Value → Values
values_of [] = Nil
values_of (v ∷ vs) = Cons v (values_of vs)

-- Values as a list.
abbrev pub list_of : Values → List Value
list_of Nil = []
list_of (Cons v vs) = v ∷ list_of vs

-- The shape of a value.
abbrev pub shape_of : Value → Shape
shape_of (Single s kind b key) = s
shape_of (Group s h vs) = s

-- The shapes of values, in order.
abbrev pub shapes_of : Values → List Shape
shapes_of Nil = []
shapes_of (Cons v vs) = shape_of v ∷ shapes_of vs

-- The bytes before the parts.
abbrev pub head_of : Value → List ℕ
head_of (Single s kind b key) = b
head_of (Group s h vs) = h

-- The fields of a composite value, or the items of an array.
abbrev pub parts_of : Value → List Value
parts_of (Single s kind b key) = []
parts_of (Group s h vs) = list_of vs

-- All bytes of the value, from left to right.
abbrev mutual
  pub bytes_of : Value → List ℕ
  bytes_of (Single s kind b key) = b
  bytes_of (Group s h vs) = h ++ bytes_of_all vs

  pub bytes_of_all : Values → List ℕ
  bytes_of_all Nil = []
  bytes_of_all (Cons v vs) = bytes_of v ++ bytes_of_all vs

-- The class and the key to which the value itself refers.
abbrev pub own_target : Value → Option (ℕ × ℕ)
own_target (Single s kind b key) = option_map (λ k. (s.class, k)) key
own_target (Group s h vs) = None

-- The classes and keys to which the value and its parts refer, at any depth, from left to right.
abbrev mutual
  pub targets_of : Value → List (ℕ × ℕ)
  targets_of (Single s kind b None) = []
  targets_of (Single s kind b (Some k)) = (s.class, k) ∷ []
  targets_of (Group s h vs) = targets_of_all vs

  pub targets_of_all : Values → List (ℕ × ℕ)
  targets_of_all Nil = []
  targets_of_all (Cons v vs) = targets_of v ++ targets_of_all vs

-- The key of a string that is one.
abbrev pub key_of : Content → Option ℕ
key_of (Key key) = Some key
key_of Null = None
key_of Empty = None
key_of (Utf8 bytes) = None
key_of (Units units) = None
key_of (Latin bytes) = None

-- These bytes are a value of a base name, and this is its key.
abbrev pub IsBase : Kind → List ℕ → Option ℕ → Type 0
IsBase kinds.Boolean b key = (length b ≡ 1) × (key ≡ None)
IsBase kinds.Byte b key = (length b ≡ 1) × (key ≡ None)
IsBase kinds.Char b key = (v : ℕ) × Spells b v × (key ≡ None)
IsBase kinds.Short b key = (v : ℕ) × Spells b v × (key ≡ None)
IsBase kinds.Int b key = (v : ℕ) × Spells b v × (key ≡ None)
IsBase kinds.Long b key = (v : ℕ) × Spells b v × (key ≡ None)
IsBase kinds.Float b key = (length b ≡ 4) × (key ≡ None)
IsBase kinds.Double b key = (length b ≡ 8) × (key ≡ None)
IsBase kinds.Text b key = (s : Content) × IsString b s × (key ≡ key_of s)
IsBase kinds.Composite b key = ⊥

-- A value without parts is a reference's key, or an inline value of a base name.
abbrev pub IsSingle : Classes → Shape → LeafKind → List ℕ → Option ℕ → Type 0
IsSingle k s kind b key =
    ((s.array ≡ false) × (s.constant ≡ true) × (n : ℕ) × Spells b n × (kind ≡ leaf_kinds.Key n) × (key ≡ Some n))
    ⊎ ((s.array ≡ false) × (s.constant ≡ false) × (c : Class) × (find_class k s.class ≡ Some c) × (kind ≡ leaf_kinds.Base (kind_of c.name)) × IsBase (kind_of c.name) b key)

-- The bytes before the parts, and the shapes of the parts: an array has its count, and this many items; a
-- composite value has no bytes before its fields.
abbrev pub IsHead : Classes → Shape → List ℕ → List Shape → Type 0
IsHead k s h parts =
    ((s.array ≡ true) × (n : ℕ) × Spells h n × (parts ≡ replicate n (item_of s)))
    ⊎ ((s.array ≡ false) × (s.constant ≡ false) × (c : Class) × (find_class k s.class ≡ Some c) × (kind_of c.name ≡ kinds.Composite) × (h ≡ []) × (parts ≡ map (λ f. f.shape) c.fields))

-- The tree is a value of its shape.
abbrev mutual
  pub Fits : Classes → Value → Type 0
  Fits k (Single s kind b key) = IsSingle k s kind b key
  Fits k (Group s h vs) = IsHead k s h (shapes_of vs) × AllFit k vs

  pub AllFit : Classes → Values → Type 0
  AllFit k Nil = ⊤
  AllFit k (Cons v vs) = Fits k v × AllFit k vs

-- A composite class without fields: its inline values have no bytes.
abbrev pub IsHollow : Class → Type 0
IsHollow c = (kind_of c.name ≡ kinds.Composite) × (c.fields ≡ [])

-- An array of inline values of such a class, which is only its count.
abbrev pub IsHollowArray : Shape → Class → Type 0
IsHollowArray s c = (s.array ≡ true) × (s.constant ≡ false) × IsHollow c

-- The layout has the form of its shape and kind, and is that of its class; the class of a constant doesn't
-- matter.
pub record IsLayoutOrKey (k : Classes) (s : FieldLayout) : Type 0 where
  pub form : s.form ≡ form_of s.shape s.kind
  pub of_class : s.shape.constant ≡ false → IsFieldLayout k s
