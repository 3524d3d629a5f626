-- The definitions computed on texts and classes from outside.
use Rattle.std.specs.Prelude.{◌≡◌, ℕ, Bool, true, false, List, [], ◌∷◌, None, codes, refl}
use Rattle.std.specs.Fmt.{digits}
use Rattle.bstr.proofs.Computing.{computing}
use Rattle.jfr_filter.specs.Patterns.{glob}
use Rattle.jfr_layout.specs.Classes.{Class, Classes, Field, kind_of}
use Rattle.jfr_mask.specs.Fields.{masks_of}
use Rattle.jfr_mask.specs.Pseudonyms.{is_known, lines_of, number_of, shown, with_texts}

abbrev p : List ℕ
p = codes "p"

abbrev q : List ℕ
q = codes "q"

abbrev descriptor : List ℕ
descriptor = codes "(I)V"

abbrev texts : List (List ℕ)
texts = with_texts [] (p ∷ q ∷ p ∷ descriptor ∷ [])

each_once : texts ≡ p ∷ q ∷ descriptor ∷ []
each_once = refl

next_number : number_of texts (codes "r") ≡ 4
next_number = refl

second_text : shown (is_known []) texts q ≡ codes "masked-2"
unfolding digits
second_text = refl

of_descriptor : shown (is_known []) texts descriptor ≡ codes "()masked-3"
unfolding digits
of_descriptor = refl

empty_text : shown (is_known []) texts [] ≡ []
empty_text = refl

abbrev lines : List (List ℕ)
lines = q ∷ codes "masked-1" ∷ codes "()masked-3" ∷ []

known_text : shown (is_known lines) texts q ≡ q
unfolding glob
known_text = refl

-- A line that begins as a pseudonym doesn't count.
pseudonym_line : is_known lines (codes "masked-1") ≡ false
unfolding glob
pseudonym_line = refl

descriptor_line : is_known lines (codes "()masked-3") ≡ false
unfolding glob
descriptor_line = refl

-- The bytes of `q`, a carriage return, a newline and `p`.
two_lines : lines_of (113 ∷ 13 ∷ 10 ∷ 112 ∷ []) ≡ (113 ∷ 13 ∷ []) ∷ (112 ∷ []) ∷ []
unfolding computing
two_lines = refl

-- A file that ends with a newline has an empty last line.
last_line : lines_of (112 ∷ 10 ∷ []) ≡ p ∷ [] ∷ []
unfolding computing
last_line = refl

abbrev field : List ℕ → ℕ → Bool → Field
field name class constant = record { name = name; shape = record { class = class; constant = constant; array = false } }

abbrev class : ℕ → List ℕ → List Field → Class
class id name fields = record { id = id; name = name; super_name = None; fields = fields; categories = [] }

abbrev classes : Classes
classes =
    class 6 (codes "java.lang.String") [] ∷
    class 7 (codes "t.Node") (field (codes "text") 6 false ∷ field (codes "next") 7 true ∷ field (codes "name") 6 true ∷ []) ∷ []

all_strings : masks_of (codes "t.Node.*" ∷ []) [] classes ≡ record { fields = [] ∷ (true ∷ false ∷ true ∷ []) ∷ []; constants = true }
unfolding glob kind_of
all_strings = refl

one_excepted : masks_of (codes "*" ∷ []) (codes "*.name" ∷ []) classes ≡ record { fields = [] ∷ (true ∷ false ∷ false ∷ []) ∷ []; constants = false }
unfolding glob kind_of
one_excepted = refl
