-- Lines of parts, one after another.
use Rattle.std.specs.Prelude.{◌≡◌, ℕ, zero, suc, ◌+◌, List, [], ◌∷◌, ◌++◌, codes, drop, slice_get, Some}
use Rattle.std.proofs.Common.{ap, arith, refl, sym, ◌∙◌}
use Rattle.std.proofs.lemmas.List.{append_assoc, append-nil}
use Rattle.jfr_layout.specs.Classes.{Class, Classes, Field}
use Rattle.jfr_value.specs.Values.{Value, Values, Nil, Cons}
use Rattle.jfr_show.specs.Shown.{item_lines, field_lines, items_shown, fields_shown, shown, shown_all}
use Rattle.jfr_show.specs.Texts.{indent, newline}

-- The fields from a number on, of which the first is there.
pub fields_from : (fs : List Field) (i : ℕ) (f : Field) → slice_get fs i ≡ Some f → drop i fs ≡ f ∷ drop (i + 1) fs
fields_from [] i f e = cc
fields_from (g ∷ fs) zero f e = let h : g ≡ f = cc in ap (λ (z : Field). z ∷ fs) h
fields_from (g ∷ fs) (suc i) f e = let h : suc i + 1 ≡ suc (i + 1) = omega arith in rw h (fields_from fs i f e)

no_lines : (level : ℕ) (fs : List Field) → field_lines level fs [] ≡ []
no_lines level [] = refl
no_lines level (f ∷ fs) = refl

module _ (k : Classes) (refer : ℕ → ℕ × ℕ → List ℕ) (level : ℕ) where
  -- A text with the lines of more items, and with those of more fields.
  abbrev pub onto_items : List ℕ → Values → List ℕ
  onto_items made vs = made ++ item_lines level (shown_all k refer level vs)

  abbrev pub onto_fields : List Field → List ℕ → Values → List ℕ
  onto_fields fs made vs = made ++ field_lines level fs (shown_all k refer level vs)

  pub no_items : (made : List ℕ) → onto_items made Nil ≡ made
  no_items made = append-nil made

  pub no_fields : (fs : List Field) (made : List ℕ) → onto_fields fs made Nil ≡ made
  no_fields fs made = ap (λ z. made ++ z) (no_lines level fs) ∙ append-nil made

  item_group : (made i t n r : List ℕ) → made ++ (((i ++ t) ++ n) ++ r) ≡ (((made ++ i) ++ t) ++ n) ++ r
  item_group made i t n r = simp append_assoc

  -- A line of an item: its indentation, the item, and the end of the line.
  pub item_line : (made before after new : List ℕ) (v : Value) (vs : Values) → before ≡ made ++ indent level → after ≡ before ++ shown k refer level v → new ≡ after ++ newline
      → onto_items made (Cons v vs) ≡ onto_items new vs
  item_line made before after new v vs b a n =
      let rest = item_lines level (shown_all k refer level vs) in
      let e : new ≡ ((made ++ indent level) ++ shown k refer level v) ++ newline = n ∙ ap (λ z. z ++ newline) (a ∙ ap (λ z. z ++ shown k refer level v) b) in
      item_group made (indent level) (shown k refer level v) newline rest ∙ ap (λ z. z ++ rest) (sym e)

  field_group : (made i a e t n r : List ℕ) → made ++ (((i ++ ((a ++ e) ++ t)) ++ n) ++ r) ≡ (((((made ++ i) ++ a) ++ e) ++ t) ++ n) ++ r
  field_group made i a e t n r = simp append_assoc

  -- A line of a field, with the field's name.
  pub field_line : (fs gs : List Field) (f : Field) (name made spaced named before after new : List ℕ) (v : Value) (vs : Values) → fs ≡ f ∷ gs
      → name ≡ f.name → spaced ≡ made ++ indent level → named ≡ spaced ++ name → before ≡ named ++ codes " = " → after ≡ before ++ shown k refer level v → new ≡ after ++ newline
      → onto_fields fs made (Cons v vs) ≡ onto_fields gs new vs
  field_line fs gs f name made spaced named before after new v vs e t s m b a n =
      let rest = field_lines level gs (shown_all k refer level vs) in
      let q : List ℕ = codes " = " in
      let x : named ≡ (made ++ indent level) ++ f.name = m ∙ (ap (λ z. spaced ++ z) t ∙ ap (λ z. z ++ f.name) s) in
      let y : after ≡ (((made ++ indent level) ++ f.name) ++ q) ++ shown k refer level v = a ∙ ap (λ z. z ++ shown k refer level v) (b ∙ ap (λ z. z ++ q) x) in
      let z : new ≡ ((((made ++ indent level) ++ f.name) ++ q) ++ shown k refer level v) ++ newline = n ∙ ap (λ z. z ++ newline) y in
      ap (λ z. onto_fields z made (Cons v vs)) e ∙ (field_group made (indent level) f.name q (shown k refer level v) newline rest ∙ ap (λ z. z ++ rest) (sym z))

-- The lines are between what opens and what closes them.
close_group : (was a l i b : List ℕ) → (((was ++ a) ++ l) ++ i) ++ b ≡ was ++ (((a ++ l) ++ i) ++ b)
close_group was a l i b = simp append_assoc

pub items_close : (level : ℕ) (texts : List (List ℕ)) (was begun all spaced new : List ℕ) → begun ≡ was ++ codes "[\n" → all ≡ begun ++ item_lines (level + 1) texts → spaced ≡ all ++ indent level
    → new ≡ spaced ++ codes "]" → new ≡ was ++ items_shown level texts
items_close level texts was begun all spaced new b a s n =
    let q : List ℕ = codes "[\n" in
    let e : spaced ≡ ((was ++ q) ++ item_lines (level + 1) texts) ++ indent level = s ∙ ap (λ z. z ++ indent level) (a ∙ ap (λ z. z ++ item_lines (level + 1) texts) b) in
    n ∙ (ap (λ z. z ++ codes "]") e ∙ close_group was q (item_lines (level + 1) texts) (indent level) (codes "]"))

pub fields_close : (level : ℕ) (c : Class) (texts : List (List ℕ)) (was named begun all spaced new : List ℕ) → named ≡ was ++ c.name → begun ≡ named ++ codes " {\n"
    → all ≡ begun ++ field_lines (level + 1) c.fields texts → spaced ≡ all ++ indent level → new ≡ spaced ++ codes "}" → new ≡ was ++ fields_shown level c texts
fields_close level c texts was named begun all spaced new m b a s n =
    let q : List ℕ = codes " {" ++ newline in
    let d : begun ≡ was ++ ((c.name ++ codes " {") ++ newline) = b ∙ (ap (λ z. z ++ q) m ∙ (append_assoc was c.name q ∙ ap (λ z. was ++ z) (sym (append_assoc c.name (codes " {") newline)))) in
    let e : spaced ≡ ((was ++ ((c.name ++ codes " {") ++ newline)) ++ field_lines (level + 1) c.fields texts) ++ indent level =
    s ∙ ap (λ z. z ++ indent level) (a ∙ ap (λ z. z ++ field_lines (level + 1) c.fields texts) d) in
    n ∙ (ap (λ z. z ++ codes "}") e ∙ close_group was ((c.name ++ codes " {") ++ newline) (field_lines (level + 1) c.fields texts) (indent level) (codes "}"))
