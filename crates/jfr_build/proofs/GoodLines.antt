-- The classes of lines that were read have names that are texts, and small ids; their region is of texts.
use Rattle.std.specs.Prelude.{◌≡◌, ⊤, ℕ, ◌+◌, ◌^◌, ◌<◌, ◌==◌, Bool, true, false, List, [], ◌∷◌, ◌++◌, length, Option, Some, None, Ok, if◌then◌else◌, codes}
use Rattle.std.specs.List.{AllByRecursion}
use Rattle.std.specs.Str.{IsUtf8, bytes_eq, is_utf8}
use Rattle.std.proofs.Common.{refl, subst}
use Rattle.std.proofs.lemmas.Str.{IsUtf8-from_is_utf8}
use Rattle.jfr_meta.specs.Attributes.{id_of}
use Rattle.jfr_build.specs.declared.line.BuildLine.{BuildLine}
use Rattle.jfr_build.specs.declared.line.BuildLine.TheVariants as lines
use Rattle.jfr_build.specs.declared.lines.NumberedLine.{NumberedLine}
use Rattle.jfr_build.specs.ClassLines.{class_before, classes_in, field_before, fields_in, super_of}
use Rattle.jfr_build.specs.Lines.{at_end, class_line, constant_line, field_line, is_allowed, line_after, line_by, line_in, line_of, marks_of, name_of, read_from, read_lines, record_line, region_line, with_line, with_word}
use Rattle.jfr_build.specs.LeafWords.{number_of}
use Rattle.jfr_build.specs.Pieces.{lines_of, words_of}
use Rattle.jfr_build.specs.Regions.{region_before, region_in}
use Rattle.jfr_build.proofs.GoodClasses.{GoodClass, GoodField, GoodRegion, IsGoodRegion, IsName, IsSuper}
use Rattle.jfr_build.proofs.GoodWords.{as_spelled, ended, named, said, small, words_utf8}

-- Names and ids of a line.
abbrev pub GoodLine : BuildLine → Type 0
GoodLine (lines.Class id name event) = (id < 2 ^ 63) × IsName name
GoodLine (lines.Field name shape) = IsName name × (shape.class < 2 ^ 63)
GoodLine (lines.Constant class key words) = ⊤
GoodLine (lines.Record class words) = ⊤
GoodLine (lines.Region r) = GoodRegion r

module _ (ws : List (List ℕ)) (l : BuildLine) (u : AllByRecursion IsUtf8 ws) where
  same_line : (m : BuildLine) → m ≡ l → GoodLine m → GoodLine l
  same_line m e g = subst GoodLine e g

  class_good : (event : Bool) → class_line event ws ≡ Some l → GoodLine l
  class_good event e =
      let r = said id_of (λ id us. with_word name_of (λ name vs. at_end (lines.Class id name event) vs) us) ws l e in
      let ur = subst (AllByRecursion IsUtf8) r.parts u in
      let s = said name_of (λ name vs. at_end (lines.Class r.value name event) vs) r.rest l r.after in
      let us = subst (AllByRecursion IsUtf8) s.parts ur.1 in
      same_line (lines.Class r.value s.value event) (ended (lines.Class r.value s.value event) l s.rest s.after) (small r.word r.value r.first, named s.word s.value us.0 s.first)

  field_good : field_line ws ≡ Some l → GoodLine l
  field_good e =
      let r = said name_of (λ name us. with_word id_of (λ id vs. with_word marks_of (λ marks rest. at_end (lines.Field name (record { class = id; constant = marks.0; array = marks.1 })) rest) vs) us)
      ws l e in
      let ur = subst (AllByRecursion IsUtf8) r.parts u in
      let s = said id_of (λ id vs. with_word marks_of (λ marks rest. at_end (lines.Field r.value (record { class = id; constant = marks.0; array = marks.1 })) rest) vs) r.rest l r.after in
      let t = said marks_of (λ marks rest. at_end (lines.Field r.value (record { class = s.value; constant = marks.0; array = marks.1 })) rest) s.rest l s.after in
      field_said r.value s.value t.value (ended (lines.Field r.value (record { class = s.value; constant = t.value.0; array = t.value.1 })) l t.rest t.after) (named r.word r.value ur.0 r.first)
      (small s.word s.value s.first)
    where
      field_said : (name : List ℕ) (id : ℕ) (marks : Bool × Bool) → lines.Field name (record { class = id; constant = marks.0; array = marks.1 }) ≡ l → IsName name → id < 2 ^ 63 → GoodLine l
      field_said name id marks q n h = same_line (lines.Field name (record { class = id; constant = marks.0; array = marks.1 })) q (n, h)

  constant_good : constant_line ws ≡ Some l → GoodLine l
  constant_good e =
      let r = said id_of (λ id us. with_word id_of (λ key leaves. Some (lines.Constant id key leaves)) us) ws l e in
      let s = said id_of (λ key leaves. Some (lines.Constant r.value key leaves)) r.rest l r.after in
      let q : lines.Constant r.value s.value s.rest ≡ l = cc in
      same_line _ q tt

  record_good : record_line ws ≡ Some l → GoodLine l
  record_good e =
      let r = said id_of (λ id leaves. Some (lines.Record id leaves)) ws l e in
      let q : lines.Record r.value r.rest ≡ l = cc in
      same_line _ q tt

  region_good : region_line ws ≡ Some l → GoodLine l
  region_good e =
      let r = said name_of (λ locale us. with_word number_of (λ offset vs. at_end (lines.Region (record { locale = locale; offset = offset })) vs) us) ws l e in
      let ur = subst (AllByRecursion IsUtf8) r.parts u in
      let s = said number_of (λ offset vs. at_end (lines.Region (record { locale = r.value; offset = offset })) vs) r.rest l r.after in
      let us = subst (AllByRecursion IsUtf8) s.parts ur.1 in
      same_line (lines.Region (record { locale = r.value; offset = s.value })) (ended (lines.Region (record { locale = r.value; offset = s.value })) l s.rest s.after)
      (record { locale = named r.word r.value ur.0 r.first; offset = subst IsUtf8 (as_spelled s.word s.value s.first) us.0 })

  line_by_good : (word : List ℕ) → line_by word ws ≡ Some l → GoodLine l
  line_by_good word e = by_tests (bytes_eq word (codes "class")) (bytes_eq word (codes "event")) (bytes_eq word (codes "field")) (bytes_eq word (codes "constant")) (bytes_eq word (codes "record"))
      (bytes_eq word (codes "region")) e
    where
      by_tests : (a b c d f g : Bool)
          → (if a then class_line false ws else if b then class_line true ws else if c then field_line ws else if d then constant_line ws else if f then record_line ws else if g then region_line ws else None) ≡ Some l → GoodLine l
      by_tests true b c d f g e = class_good false e
      by_tests false true c d f g e = class_good true e
      by_tests false false true d f g e = field_good e
      by_tests false false false true f g e = constant_good e
      by_tests false false false false true g e = record_good e
      by_tests false false false false false true e = region_good e
      by_tests false false false false false false e = cc

words_good : (ws : List (List ℕ)) (l : BuildLine) → AllByRecursion IsUtf8 ws → line_in ws ≡ Some l → GoodLine l
words_good [] l u e = cc
words_good (w ∷ ws) l u e = line_by_good ws l u.1 w e

line_good : (bytes : List ℕ) (l : BuildLine) → line_of bytes ≡ Some l → GoodLine l
unfolding line_of
line_good bytes l e = by_test (is_utf8 bytes) refl e
  where
    by_test : (t : Bool) → is_utf8 bytes ≡ t → (if t then line_in (words_of bytes) else None) ≡ Some l → GoodLine l
    by_test true q e = words_good (words_of bytes) l (words_utf8 bytes (IsUtf8-from_is_utf8 bytes q)) e
    by_test false q e = cc

-- Lines, one after another.
abbrev pub GoodLines : List NumberedLine → Type 0
GoodLines ls = AllByRecursion (λ l. GoodLine l.line) ls

one_more : (ls : List NumberedLine) (l : NumberedLine) → GoodLines ls → GoodLine l.line → GoodLines (ls ++ l ∷ [])
one_more [] l g h = (h, tt)
one_more (m ∷ ls) l g h = (g.0, one_more ls l g.1 h)

allowed : (before : List NumberedLine) (o : Option BuildLine) (l : BuildLine) → line_after before o ≡ Some l → o ≡ Some l
allowed before None l e = cc
allowed before (Some m) l e = by_test (is_allowed before m) e
  where
    by_test : (t : Bool) → (if t then Some m else None) ≡ Some l → Some m ≡ Some l
    by_test true e = e
    by_test false e = cc

read_good : (n : ℕ) (before : List NumberedLine) (rest : List (List ℕ)) (ls : List NumberedLine) → GoodLines before → read_from n before rest ≡ Ok ls → GoodLines ls
read_good n before [] ls g e = let q : before ≡ ls = cc in subst GoodLines q g
read_good n before (bytes ∷ rest) ls g e = by_test (length bytes == 0) e (λ more h. read_good (n + 1) more rest ls h)
  where
    by_line : (o : Option BuildLine) → line_after before (line_of bytes) ≡ o → with_line n before o (λ more. read_from (n + 1) more rest) ≡ Ok ls
        → ((more : List NumberedLine) → GoodLines more → read_from (n + 1) more rest ≡ Ok ls → GoodLines ls) → GoodLines ls
    by_line None q e f = cc
    by_line (Some l) q e f = f (before ++ record { number = n; line = l } ∷ []) (one_more before (record { number = n; line = l }) g (line_good bytes l (allowed before (line_of bytes) l q))) e

    by_test : (t : Bool) → (if t then read_from (n + 1) before rest else with_line n before (line_after before (line_of bytes)) (λ more. read_from (n + 1) more rest)) ≡ Ok ls
        → ((more : List NumberedLine) → GoodLines more → read_from (n + 1) more rest ≡ Ok ls → GoodLines ls) → GoodLines ls
    by_test true e f = f before g e
    by_test false e f = by_line (line_after before (line_of bytes)) refl e f

-- Their classes.
fields_good : (ls : List NumberedLine) → GoodLines ls → AllByRecursion GoodField (fields_in ls)
fields_good [] g = tt
fields_good (l ∷ ls) g = by_line l.line g.0 (fields_good ls g.1)
  where
    by_line : (l : BuildLine) → GoodLine l → AllByRecursion GoodField (fields_in ls) → AllByRecursion GoodField (field_before l (fields_in ls))
    by_line (lines.Class id name event) h i = tt
    by_line (lines.Field name shape) h i = (record { name = h.0; class = h.1 }, i)
    by_line (lines.Constant class key words) h i = tt
    by_line (lines.Record class words) h i = tt
    by_line (lines.Region r) h i = i

super_good : (event : Bool) → IsSuper (super_of event)
super_good true = refl
super_good false = tt

classes_good : (ls : List NumberedLine) → GoodLines ls → AllByRecursion GoodClass (classes_in ls)
classes_good [] g = tt
classes_good (l ∷ ls) g = by_line l.line g.0 (fields_good ls g.1) (classes_good ls g.1)
  where
    by_line : (l : BuildLine) → GoodLine l → AllByRecursion GoodField (fields_in ls) → AllByRecursion GoodClass (classes_in ls)
        → AllByRecursion GoodClass (class_before l (fields_in ls) (classes_in ls))
    by_line (lines.Class id name event) h i j = (record { id = h.0; name = h.1; super = super_good event; fields = i; categories = refl }, j)
    by_line (lines.Field name shape) h i j = j
    by_line (lines.Constant class key words) h i j = j
    by_line (lines.Record class words) h i j = j
    by_line (lines.Region r) h i j = j

-- Their region.
region_found : (ls : List NumberedLine) → GoodLines ls → IsGoodRegion (region_in ls)
region_found [] g = tt
region_found (l ∷ ls) g = by_line l.line g.0 (region_found ls g.1)
  where
    by_line : (l : BuildLine) → GoodLine l → IsGoodRegion (region_in ls) → IsGoodRegion (region_before l (region_in ls))
    by_line (lines.Class id name event) h i = i
    by_line (lines.Field name shape) h i = i
    by_line (lines.Constant class key words) h i = i
    by_line (lines.Record class words) h i = i
    by_line (lines.Region r) h i = h

pub read_region : (text : List ℕ) (ls : List NumberedLine) → read_lines text ≡ Ok ls → IsGoodRegion (region_in ls)
unfolding read_lines
read_region text ls e = region_found ls (read_good 1 [] (lines_of text) ls tt e)

pub read_classes : (text : List ℕ) (ls : List NumberedLine) → read_lines text ≡ Ok ls → AllByRecursion GoodClass (classes_in ls)
unfolding read_lines
read_classes text ls e = classes_good ls (read_good 1 [] (lines_of text) ls tt e)
