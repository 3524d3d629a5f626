-- Classes that lines can name: their names are texts, and their ids are small. Regions of texts.
use Rattle.std.specs.Prelude.{◌≡◌, ⊤, ℕ, ◌^◌, ◌<◌, true, List, [], ◌∷◌, ◌++◌, Option, Some, None, codes}
use Rattle.std.specs.Fmt.{decimal}
use Rattle.std.specs.List.{AllByRecursion, flat_map, list_all}
use Rattle.std.specs.Str.{IsUtf8, encode_utf8_all}
use Rattle.std.proofs.Common.{arith, refl}
use Rattle.std.proofs.Math.Utf8.{scalars}
use Rattle.std.proofs.lemmas.Bool.{and_parts}
use Rattle.std.proofs.lemmas.Fmt.{IsAscii-decimal}
use Rattle.std.proofs.lemmas.Str.{IsUtf8-from_ascii, chars-IsAscii, chars-encodes}
use Rattle.jfr_layout.specs.Classes.{Class, Classes, Field}
use Rattle.jfr_meta.specs.Attributes.{not_empty}
use Rattle.jfr_meta.specs.Written.{IsText}
use Rattle.jfr_build.specs.declared.region.Region.{Region}
use Rattle.jfr_build.specs.Described.{body_of, class_texts, field_texts, fixed_texts, region_texts, texts_before}

-- A name is a text that isn't empty.
pub record IsName (name : List ℕ) : Type 0 where
  pub text : IsText name
  pub some : not_empty name ≡ Some name

-- A field with a name, and a small id of its class.
pub record GoodField (f : Field) : Type 0 where
  pub name : IsName f.name
  pub class : f.shape.class < 2 ^ 63

-- The super type is that of events, if there is one.
abbrev pub IsSuper : Option (List ℕ) → Type 0
IsSuper None = ⊤
IsSuper (Some name) = name ≡ codes "jdk.jfr.Event"

-- A class with a name, a small id and good fields, as lines have it.
pub record GoodClass (c : Class) : Type 0 where
  pub id : c.id < 2 ^ 63
  pub name : IsName c.name
  pub super : IsSuper c.super_name
  pub fields : AllByRecursion GoodField c.fields
  pub categories : c.categories ≡ []

-- A region of texts, as a line has it.
pub record GoodRegion (r : Region) : Type 0 where
  pub locale : IsName r.locale
  pub offset : IsUtf8 r.offset

-- The region is of texts, if there is one.
abbrev pub IsGoodRegion : Option Region → Type 0
IsGoodRegion None = ⊤
IsGoodRegion (Some r) = GoodRegion r

-- Scalar values are the characters of a text.
text_of : (cs : List ℕ) → scalars cs ≡ true → IsText cs
text_of cs e = (encode_utf8_all cs, (cs, (e, refl)), chars-encodes cs e)

texts_of : (xs : List (List ℕ)) → list_all scalars xs ≡ true → AllByRecursion IsText xs
texts_of [] e = tt
texts_of (x ∷ xs) e = let h = and_parts (scalars x) (list_all scalars xs) e in (text_of x h.0, texts_of xs h.1)

decimal_text : (n : ℕ) → n < 2 ^ 63 → IsText (decimal n)
decimal_text n h =
    let a = IsAscii-decimal n (omega (arith, h)) in
    (decimal n, IsUtf8-from_ascii (decimal n) a, chars-IsAscii (decimal n) a)

all_append : {A : Type 0} (P : A → Type 0) (xs ys : List A) → AllByRecursion P xs → AllByRecursion P ys → AllByRecursion P (xs ++ ys)
all_append P [] ys a b = b
all_append P (x ∷ xs) ys a b = (a.0, all_append P xs ys a.1 b)

fields_texts : (fs : List Field) → AllByRecursion GoodField fs → AllByRecursion IsText (flat_map field_texts fs)
fields_texts [] g = tt
fields_texts (f ∷ fs) g = (g.0.name.text, (decimal_text f.shape.class g.0.class, fields_texts fs g.1))

classes_texts : (k : Classes) → AllByRecursion GoodClass k → AllByRecursion IsText (flat_map class_texts k)
classes_texts [] g = tt
classes_texts (c ∷ cs) g =
    all_append IsText (class_texts c) (flat_map class_texts cs) (g.0.name.text, (decimal_text c.id g.0.id, fields_texts c.fields g.0.fields)) (classes_texts cs g.1)

region_good : (region : Option Region) → IsGoodRegion region → AllByRecursion IsText (region_texts region)
region_good None g = tt
region_good (Some r) g = (g.locale.text, ((r.offset, g.offset, refl), tt))

-- The strings of the body are texts.
pub body_texts : (k : Classes) (region : Option Region) → AllByRecursion GoodClass k → IsGoodRegion region → AllByRecursion IsText (body_of k region).strings
body_texts k region g r =
    all_append IsText (texts_before k) (region_texts region) (all_append IsText fixed_texts (flat_map class_texts k) (texts_of fixed_texts refl) (classes_texts k g)) (region_good region r)
