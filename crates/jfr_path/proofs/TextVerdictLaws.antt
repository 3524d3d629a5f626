-- A string depends only on the offsets at which it starts and ends, and so does a filter's verdict on it.
use Rattle.std.specs.Prelude.{◌≡◌, ℕ, Bool, true, false, List, [], ◌∷◌, Option, Some, None, IfSome, cond, codes, option_and_then, if◌then◌else◌}
use Rattle.std.specs.BTreeMap as tree
use Rattle.std.specs.BTreeMap.{BTreeMap, is_at}
use Rattle.std.specs.Cmp.{Equal-is}
use Rattle.std.specs.Ordering.{nat_cmp}
use Rattle.std.proofs.Common.{ap, refl, sym, ◌∙◌, subst}
use Rattle.std.proofs.lemmas.Map.Lookups.{exact_pairs, exact_unsigned}
use Rattle.jfr_base.specs.Formats.{run}
use Rattle.jfr_filter.specs.Filters.{Given, allows_thread}
use Rattle.jfr_layout.specs.Classes.{Class, find_class, kind_of}
use Rattle.jfr_layout.specs.declared.kind.Kind.{Kind}
use Rattle.jfr_layout.specs.declared.kind.Kind.TheVariants as kinds
use Rattle.jfr_text.specs.Strings.{Content, string_format}
use Rattle.jfr_text.specs.Strings as strings
use Rattle.jfr_value.specs.Nodes.{NodeAt}
use Rattle.jfr_chunk.specs.Parts.{Parts}
use Rattle.jfr_chunk.specs.Paths.{content_by, content_in, follow_while, is_reference, named_field, named_text, string_of, text_of}
use Rattle.jfr_chunk.specs.Chosen.{or_else}
use Rattle.jfr_path.specs.Threads.{AreTextVerdicts, allows_thread_at, pair_cmp, allows_if_named, thread_text_at}

module _ (s : Content) (r : Option Content) where
  by_kind : (k : Kind) → content_by k r ≡ Some s → r ≡ Some s
  by_kind kinds.Text e = e
  by_kind kinds.Boolean e = let z : None ≡ Some s = e in cc
  by_kind kinds.Byte e = let z : None ≡ Some s = e in cc
  by_kind kinds.Char e = let z : None ≡ Some s = e in cc
  by_kind kinds.Short e = let z : None ≡ Some s = e in cc
  by_kind kinds.Int e = let z : None ≡ Some s = e in cc
  by_kind kinds.Long e = let z : None ≡ Some s = e in cc
  by_kind kinds.Float e = let z : None ≡ Some s = e in cc
  by_kind kinds.Double e = let z : None ≡ Some s = e in cc
  by_kind kinds.Composite e = let z : None ≡ Some s = e in cc

  by_class : (o : Option Class) → option_and_then (λ c. content_by (kind_of c.name) r) o ≡ Some s → r ≡ Some s
  by_class None e = let z : None ≡ Some s = e in cc
  by_class (Some c) e = by_kind (kind_of c.name) e

  by_marks : (array constant : Bool) (o : Option Class) → (if array then None else if constant then None else option_and_then (λ c. content_by (kind_of c.name) r) o) ≡ Some s → r ≡ Some s
  by_marks true constant o e = let z : None ≡ Some s = e in cc
  by_marks false true o e = let z : None ≡ Some s = e in cc
  by_marks false false o e = by_class o e

module _ (p : Parts) where
  -- The string of a value is what is read between its places.
  read_there : (n : NodeAt) (s : Content) → string_of p n ≡ Some s → content_in (run (string_format true) p.bytes n.end n.at) ≡ Some s
  read_there n s e = by_marks s (content_in (run (string_format true) p.bytes n.end n.at)) n.shape.array n.shape.constant (find_class p.classes n.shape.class) e

  one_string : (n m : NodeAt) (s t : Content) → string_of p n ≡ Some s → string_of p m ≡ Some t → n.at ≡ m.at → n.end ≡ m.end → s ≡ t
  one_string n m s t e f at end =
      let same : content_in (run (string_format true) p.bytes n.end n.at) ≡ content_in (run (string_format true) p.bytes m.end m.at) =
      ap (λ z. content_in (run (string_format true) p.bytes z n.at)) end ∙ ap (λ z. content_in (run (string_format true) p.bytes m.end z)) at in
      let both : Some s ≡ Some t = sym (read_there n s e) ∙ (same ∙ read_there m t f) in
      cc

module _ (g : Given) (p : Parts) where
  -- A verdict that was kept.
  pub text_kept : (verdicts : BTreeMap (ℕ × ℕ) (Option Bool)) (n : NodeAt) (s : Content) (said : Option Bool) → AreTextVerdicts g p verdicts → string_of p n ≡ Some s
      → Some said ≡ tree.get pair_cmp verdicts (n.at, n.end) → said ≡ allows_if_named g (strings.text_of s)
  text_kept verdicts n s said a h e = subst (λ z. IfSome z (λ said. said ≡ allows_if_named g (strings.text_of s))) (sym e) (a.each n s h)

  -- A verdict more.
  pub texts_next : (old new : BTreeMap (ℕ × ℕ) (Option Bool)) (n : NodeAt) (s : Content) (said : Option Bool) → AreTextVerdicts g p old → string_of p n ≡ Some s
      → said ≡ allows_if_named g (strings.text_of s) → tree.Updates pair_cmp old new (n.at, n.end) (Some said) → AreTextVerdicts g p new
  texts_next old new n s said a h e up = record {
    each = λ m t f. subst (λ z. IfSome z (λ said. said ≡ allows_if_named g (strings.text_of t))) (sym (up.0 (m.at, m.end)))
        (by_place m t f (is_at (pair_cmp (n.at, n.end)) (m.at, m.end)) refl);
  }
    where
      by_place : (m : NodeAt) (t : Content) → string_of p m ≡ Some t → (b : Bool) → is_at (pair_cmp (n.at, n.end)) (m.at, m.end) ≡ b
          → IfSome (cond b (Some said) (tree.get pair_cmp old (m.at, m.end))) (λ said. said ≡ allows_if_named g (strings.text_of t))
      by_place m t f true q =
          let same = exact_pairs nat_cmp nat_cmp exact_unsigned exact_unsigned (n.at, n.end) (m.at, m.end) ((Equal-is (pair_cmp (n.at, n.end) (m.at, m.end))).0 q) in
          e ∙ ap (λ z. allows_if_named g (strings.text_of z)) (one_string p n m s t h f (ap (λ (z : ℕ × ℕ). z.0) same) (ap (λ (z : ℕ × ℕ). z.1) same))
      by_place m t f false q = a.each m t f

-- The text of one name's field.
one_name : (p : Parts) (name : List ℕ) (n holder : NodeAt) → holder ≡ follow_while 16 is_reference p n → option_and_then (text_of p) (named_field p name holder) ≡ named_text p n (name ∷ [])
unfolding named_text
one_name p name n holder e = ap (λ z. option_and_then (text_of p) (named_field p name z)) e ∙ ap (option_and_then (text_of p)) (sym (same (named_field p name (follow_while 16 is_reference p n))))
  where
    same : (o : Option NodeAt) → option_and_then (λ m. Some m) o ≡ o
    same None = refl
    same (Some m) = refl

-- What is said by the first name that has a text.
module _ (g : Given) where
  by_first : (a b : Option (List ℕ)) (allowed : Bool) → allows_if_named g a ≡ Some allowed → allowed ≡ allows_thread g (or_else a b)
  by_first None b allowed e = cc
  by_first (Some t) b allowed e = let f : allows_thread g (Some t) ≡ allowed = cc in sym f

  by_second : (a b : Option (List ℕ)) (allowed : Bool) → allows_if_named g a ≡ None → allows_if_named g b ≡ Some allowed → allowed ≡ allows_thread g (or_else a b)
  by_second None b allowed e f = by_first b None allowed f ∙ ap (allows_thread g) (alone b)
    where
      alone : (b : Option (List ℕ)) → or_else b None ≡ b
      alone None = refl
      alone (Some t) = refl
  by_second (Some t) b allowed e f = cc

  by_none : (a b : Option (List ℕ)) → allows_if_named g a ≡ None → allows_if_named g b ≡ None → allows_thread g None ≡ allows_thread g (or_else a b)
  by_none None None e f = refl
  by_none None (Some t) e f = cc
  by_none (Some t) b e f = cc

module _ (g : Given) (p : Parts) (n holder : NodeAt) (e : holder ≡ follow_while 16 is_reference p n) where
  abbrev text : List ℕ → Option (List ℕ)
  text name = option_and_then (text_of p) (named_field p name holder)

  both : or_else (text (codes "javaName")) (text (codes "osName")) ≡ thread_text_at p n
  both = λ i. or_else (one_name p (codes "javaName") n holder e i) (one_name p (codes "osName") n holder e i)

  pub first_says : (allowed : Bool) → allows_if_named g (text (codes "javaName")) ≡ Some allowed → allowed ≡ allows_thread_at g p n
  first_says allowed h = by_first g (text (codes "javaName")) (text (codes "osName")) allowed h ∙ ap (allows_thread g) both

  pub second_says : (allowed : Bool) → allows_if_named g (text (codes "javaName")) ≡ None → allows_if_named g (text (codes "osName")) ≡ Some allowed → allowed ≡ allows_thread_at g p n
  second_says allowed h k = by_second g (text (codes "javaName")) (text (codes "osName")) allowed h k ∙ ap (allows_thread g) both

  pub none_says : allows_if_named g (text (codes "javaName")) ≡ None → allows_if_named g (text (codes "osName")) ≡ None → allows_thread g None ≡ allows_thread_at g p n
  none_says h k = by_none g (text (codes "javaName")) (text (codes "osName")) h k ∙ ap (allows_thread g) both
