-- What a visit of leaves does, for all leaves of a value.
use Rattle.std.specs.Prelude.{◌≡◌, List, [], ◌∷◌, ◌++◌, Option, None, Some, option_to_list}
use Rattle.std.specs.List.{cons_option, filter_map, flat_map}
use Rattle.std.proofs.Common.{ap, append-nil, append_assoc, refl, subst, sym, ◌∙◌}
use Rattle.jfr_value.specs.Leaves.{LeafAt}
use Rattle.jfr_value.specs.Visits.{TakesAll}
use Rattle.jfr_mask.specs.declared.numbering.GrowingDictionary.{GrowingDictionary}
use Rattle.jfr_mask.specs.declared.numbering.Numbering.{Numbering}
use Rattle.jfr_mask.specs.declared.event_strings.StringAt.{StringAt}
use Rattle.jfr_mask.specs.declared.references.Reaching.{Reaching}
use Rattle.jfr_mask.specs.declared.texts.MaskedStrings.{MaskedStrings}
use Rattle.jfr_mask.specs.EventStrings.{masked_at}
use Rattle.jfr_mask.specs.Maskers.{held_by, leaf_texts_by}
use Rattle.jfr_mask.specs.Pseudonyms.{with_texts}
use Rattle.jfr_mask.specs.Visitors.{AddsTexts, Lists, MarksLeaf, ReachesLeaf}
use Rattle.jfr_mask.proofs.NumberLaws.{with_append}

pub adds_all : (n : Numbering) (ls : List LeafAt) (old new : GrowingDictionary) → TakesAll (λ l a b. AddsTexts (leaf_texts_by n l) a b) ls old new → AddsTexts (flat_map (leaf_texts_by n) ls) old new
adds_all n [] old new e = λ f. (ap (λ (z : GrowingDictionary). z.failed) e ∙ f, ap (λ (z : GrowingDictionary). z.dictionary) (sym e))
adds_all n (l ∷ ls) old new h = λ f.
    (let r = adds_all n ls h.0 new h.2 f in
    let q = h.1 r.0 in
    (q.0, r.1 ∙ (ap (λ z. with_texts z (flat_map (leaf_texts_by n) ls)) q.1 ∙ sym (with_append old.dictionary (leaf_texts_by n l) (flat_map (leaf_texts_by n) ls)))))

-- Strings are listed one after another.
pub lists_same : (a b : Reaching) → b.events.ends.items ≡ a.events.ends.items → b.failed ≡ a.failed → b.events.strings.items ≡ a.events.strings.items → Lists [] a b
lists_same a b e f s = record { ends = e; before = λ g. sym f ∙ g; appended = λ g. s ∙ sym (append-nil a.events.strings.items) }

pub lists_none : (a : Reaching) → Lists [] a a
lists_none a = lists_same a a refl refl refl

lists_then : (xs ys : List StringAt) (a b c : Reaching) → Lists xs a b → Lists ys b c → Lists (xs ++ ys) a c
lists_then xs ys a b c l m = record {
  ends = m.ends ∙ l.ends;
  before = λ f. l.before (m.before f);
  appended = λ f. m.appended f ∙ (ap (λ z. z ++ ys) (l.appended (m.before f)) ∙ append_assoc a.events.strings.items xs ys);
}

pub reaches_all : (s : MaskedStrings) (ls : List LeafAt) (old new : Reaching) → TakesAll (λ l a b. ReachesLeaf s l a b) ls old new
    → TakesAll (λ l a b. MarksLeaf s l a b) ls old.list new.list × Lists (filter_map (masked_at (held_by s)) ls) old new
reaches_all s [] old new e = (ap (λ (z : Reaching). z.list) e, subst (Lists [] old) e (lists_none old))
reaches_all s (l ∷ ls) old new h =
    let r = reaches_all s ls h.0 new h.2 in
    let rest : List StringAt = filter_map (masked_at (held_by s)) ls in
    ((h.0.list, h.1.marks, r.0), subst (λ z. Lists z old new) (one (masked_at (held_by s) l) rest) (lists_then (option_to_list (masked_at (held_by s) l)) rest old h.0 new h.1.lists r.1))
  where
    one : (o : Option StringAt) (rest : List StringAt) → option_to_list o ++ rest ≡ cons_option o rest
    one None rest = refl
    one (Some x) rest = refl
