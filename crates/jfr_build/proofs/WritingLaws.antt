-- What is written of a value, one part after another.
use Rattle.std.specs.Prelude.{◌≡◌, ◌≢◌, ◌⊎◌, ℕ, zero, suc, ◌+◌, ◌-◌, ◌<◌, ◌≤◌, Bool, true, false, List, [], ◌∷◌, ◌++◌, drop, length, map, slice_get, Option, Some, None, Result, Ok, Err, option_map, IfSome, if◌then◌else◌}
use Rattle.std.proofs.Common.{ap, arith, inl, inr, refl, subst, sym, ◌∙◌}
use Rattle.std.proofs.lemmas.List.{append_assoc, append-nil}
use Rattle.jfr_base.specs.Integer.{spell}
use Rattle.jfr_layout.specs.Classes.{AreFieldLayouts, Classes, Field, find_class, item_of, kind_of}
use Rattle.jfr_layout.specs.declared.form.Form.{Form}
use Rattle.jfr_layout.specs.declared.form.Form.TheVariants as forms
use Rattle.jfr_layout.specs.declared.kind.Kind.{Kind}
use Rattle.jfr_layout.specs.declared.kind.Kind.TheVariants as kinds
use Rattle.jfr_layout.specs.declared.shape.Shape.{Shape}
use Rattle.jfr_layout.specs.declared.field_layout.FieldLayout.{FieldLayout}
use Rattle.jfr_value.specs.Values.{IsLayoutOrKey, Value, Group, bytes_of, bytes_of_all, values_of}
use Rattle.jfr_value.specs.Walks.{DepthBound}
use Rattle.jfr_value.proofs.FormLaws.{IsInline, fields_kind, inline_there, key_there, other_kind}
use Rattle.jfr_value.proofs.LayoutLaws.{layout_class}
use Rattle.jfr_value.proofs.StackLaws.{inner_depth}
use Rattle.jfr_build.specs.LeafWords.{base_of, id_after}
use Rattle.jfr_build.specs.Taking.{Taken, Taker, array_taken, base_taken, class_taken, each_taken, inline_taken, item_taken, kind_taken, reference_taken, shape_taken, then_take, times_taken, took, word_taken}
use Rattle.jfr_build.specs.declared.value_bytes.ValueFault.{ValueFault}
use Rattle.jfr_build.specs.declared.value_bytes.ValueFault.TheVariants.{Bad, Memory}
use Rattle.jfr_build.specs.Writing.{Appends, Writes, wrote, wrote_all}

-- What is written first, and then the rest.
abbrev Rest : Type 0
Rest = List ℕ → List (List ℕ) → Option (Taken (List ℕ))

first_wrote : (o : Option (Taken Value)) (g : Taker (List Value)) (before : List ℕ)
    → wrote_all before (then_take o λ a us. then_take (g us) λ bs vs. took (a ∷ bs) vs) ≡ then_take (wrote before o) (λ b us. wrote_all b (g us))
first_wrote None g before = refl
first_wrote (Some a) g before = by_rest (g a.rest)
  where
    by_rest : (o : Option (Taken (List Value))) → wrote_all before (then_take o λ bs vs. took (a.value ∷ bs) vs) ≡ wrote_all (before ++ bytes_of a.value) o
    by_rest None = refl
    by_rest (Some b) = ap (λ z. took z b.rest) (sym (append_assoc before (bytes_of a.value) (bytes_of_all (values_of b.value))))

pub each_wrote : {X : Type 0} (f : X → Taker Value) (xs : List X) (i : ℕ) (x : X) (ws : List (List ℕ)) (before : List ℕ) → slice_get xs i ≡ Some x
    → wrote_all before (each_taken (drop i xs) f ws) ≡ then_take (wrote before (f x ws)) (λ b us. wrote_all b (each_taken (drop (i + 1) xs) f us))
each_wrote f [] i x ws before e = cc
each_wrote f (y ∷ xs) zero x ws before e =
    let h : y ≡ x = cc in
    ap (λ z. wrote_all before (then_take (f z ws) λ a us. then_take (each_taken xs f us) λ bs vs. took (a ∷ bs) vs)) h ∙ first_wrote (f x ws) (each_taken xs f) before
each_wrote f (y ∷ xs) (suc i) x ws before e = let h : suc i + 1 ≡ suc (i + 1) = omega arith in rw h (each_wrote f xs i x ws before e)

pub times_wrote : (f : Taker Value) (n i : ℕ) (ws : List (List ℕ)) (before : List ℕ) → i < n
    → wrote_all before (times_taken (n - i) f ws) ≡ then_take (wrote before (f ws)) (λ b us. wrote_all b (times_taken (n - (i + 1)) f us))
times_wrote f n i ws before h = let e : n - i ≡ suc (n - (i + 1)) = omega arith in rw e (first_wrote (f ws) (times_taken (n - (i + 1)) f) before)

-- One step of a loop.
pub after_wrote : (o : Option (Taken (List ℕ))) (bytes : List ℕ) (rest : List (List ℕ)) (g : Rest) (a z : Option (Taken (List ℕ))) → a ≡ then_take o g
    → o ≡ Some (record { value = bytes; rest = rest }) → a ≡ z → g bytes rest ≡ z
after_wrote o bytes rest g a z e h k = ap (λ v. then_take v g) (sym h) ∙ (sym e ∙ k)

pub after_bad : (o : Option (Taken (List ℕ))) (g : Rest) (a z : Option (Taken (List ℕ))) → a ≡ then_take o g → o ≡ None → a ≡ z → z ≡ None
after_bad o g a z e h k = sym k ∙ (e ∙ ap (λ v. then_take v g) h)

-- The end of a loop.
ended : (before : List ℕ) (ws : List (List ℕ)) → wrote_all before (took [] ws) ≡ took before ws
ended before ws = ap (λ z. took z ws) (append-nil before)

pub each_ended : {X : Type 0} (f : X → Taker Value) (xs : List X) (i : ℕ) (ws : List (List ℕ)) (before : List ℕ) → length xs ≤ i → wrote_all before (each_taken (drop i xs) f ws) ≡ took before ws
each_ended f [] zero ws before h = ended before ws
each_ended f [] (suc i) ws before h = ended before ws
each_ended f (x ∷ xs) zero ws before h = absurd (omega arith)
each_ended f (x ∷ xs) (suc i) ws before h = each_ended f xs i ws before (omega arith)

pub times_ended : (f : Taker Value) (n i : ℕ) (ws : List (List ℕ)) (before : List ℕ) → n ≤ i → wrote_all before (times_taken (n - i) f ws) ≡ took before ws
times_ended f n i ws before h = let e : n - i ≡ 0 = omega arith in rw e (ended before ws)

-- A value of one word.
pub reference_wrote : (s : Shape) (w : List ℕ) (ws : List (List ℕ)) (before : List ℕ) (key : ℕ) → id_after 35 w ≡ Some key → wrote before (reference_taken s (w ∷ ws)) ≡ took (before ++ spell key) ws
reference_wrote s w ws before key e = rw e refl

pub reference_bad : (s : Shape) (w : List ℕ) (ws : List (List ℕ)) (before : List ℕ) → id_after 35 w ≡ None → wrote before (reference_taken s (w ∷ ws)) ≡ None
reference_bad s w ws before e = rw e refl

pub base_wrote : (kind : Kind) (s : Shape) (w b : List ℕ) (ws : List (List ℕ)) (before : List ℕ) → base_of kind w ≡ Some b → wrote before (base_taken kind s (w ∷ ws)) ≡ took (before ++ b) ws
base_wrote kind s w b ws before e = rw e refl

pub base_bad : (kind : Kind) (s : Shape) (w : List ℕ) (ws : List (List ℕ)) (before : List ℕ) → base_of kind w ≡ None → wrote before (base_taken kind s (w ∷ ws)) ≡ None
base_bad kind s w ws before e = rw e refl

pub base_appended : {A : Type 0} (kind : Kind) (s : Shape) (w : List ℕ) (ws words : List (List ℕ)) (before after : List ℕ) (r : Result A ValueFault) → words ≡ w ∷ ws
    → Appends (base_of kind w) r before after
    → Writes (wrote before (base_taken kind s words)) r after ws
base_appended kind s w ws words before after (Ok u) e a = by_bytes (base_of kind w) refl a
  where
    by_bytes : (o : Option (List ℕ)) → base_of kind w ≡ o → option_map (λ b. before ++ b) o ≡ Some after → wrote before (base_taken kind s words) ≡ took after ws
    by_bytes None h q = cc
    by_bytes (Some b) h q =
        let m : before ++ b ≡ after = cc in
        ap (λ z. wrote before (base_taken kind s z)) e ∙ (base_wrote kind s w b ws before h ∙ ap (λ z. took z ws) m)
base_appended kind s w ws words before after (Err Bad) e a = ap (λ z. wrote before (base_taken kind s z)) e ∙ base_bad kind s w ws before a
base_appended kind s w ws words before after (Err Memory) e a = tt

-- A shape by its marks.
by_marks : (f : Shape → Taker Value) (s : Shape) (a c : Bool) (ws : List (List ℕ)) → s.array ≡ a → s.constant ≡ c
    → shape_taken f s ws ≡ (if a then array_taken (item_taken f (item_of s)) s ws else if c then reference_taken s ws else f s ws)
by_marks f s a c ws p q = rw (p, q) refl

-- Fields by their layouts.
each_by : {X Y : Type 0} (v : X → Y) (f : Y → Taker Value) (xs : List X) → each_taken xs (λ x. f (v x)) ≡ each_taken (map v xs) f
each_by v f [] = refl
each_by v f (x ∷ xs) = ap (λ z. λ ws. then_take (f (v x) ws) λ a us. then_take (z us) λ bs vs. took (a ∷ bs) vs) (each_by v f xs)

fields_by : (k : Classes) (f : Shape → Taker Value) (fs : List Field) (ss : List FieldLayout) → AreFieldLayouts k fs ss → each_taken fs (λ x. f x.shape) ≡ each_taken ss (λ s. f s.shape)
fields_by k f fs ss a = each_by (λ x. x.shape) f fs ∙ (ap (λ z. each_taken z f) (sym a.shapes) ∙ sym (each_by (λ s. s.shape) f ss))

group_wrote : (s : Shape) (o : Option (Taken (List Value))) (before : List ℕ) → wrote before (then_take o λ vs us. took (Group s [] (values_of vs)) us) ≡ wrote_all before o
group_wrote s None before = refl
group_wrote s (Some t) before = refl

items_wrote : (s : Shape) (n : ℕ) (o : Option (Taken (List Value))) (before : List ℕ) → wrote before (then_take o λ vs us. took (Group s (spell n) (values_of vs)) us) ≡ wrote_all (before ++ spell n) o
items_wrote s n None before = refl
items_wrote s n (Some t) before = ap (λ z. took z t.rest) (sym (append_assoc before (spell n) (bytes_of_all (values_of t.value))))

base_kind : (kind : Kind) (s : Shape) (fields : Taker (List Value)) (ws : List (List ℕ)) → kind ≢ kinds.Composite → kind_taken kind s fields ws ≡ base_taken kind s ws
base_kind kinds.Composite s fields ws n = absurd (n refl)
base_kind kind s fields ws n = refl

module _ (k : Classes) (s : FieldLayout) (levels : ℕ) (ws : List (List ℕ)) (before : List ℕ) (p : IsLayoutOrKey k s) where
  -- A value of the layout.
  abbrev written : Option (Taken (List ℕ))
  written = wrote before (shape_taken (class_taken (levels + 1) k) s.shape ws)

  pub key_written : s.form ≡ forms.Key → wrote before (reference_taken s.shape ws) ≡ written
  key_written e = let h = key_there s p.form e in ap (wrote before) (sym (by_marks (class_taken (levels + 1) k) s.shape false true ws h.0 h.1))

  inline_written : (f : Form) → s.form ≡ f → IsInline f → wrote before (inline_taken (class_taken levels k) s.shape (find_class k s.shape.class) ws) ≡ written
  unfolding class_taken
  inline_written f e i =
      let h = inline_there s p.form f e i in
      let m : levels + 1 ≡ suc levels = omega arith in
      ap (wrote before) (sym (by_marks (class_taken (suc levels) k) s.shape false false ws h.array h.constant)) ∙ ap (λ n. wrote before (shape_taken (class_taken n k) s.shape ws)) (sym m)

  pub base_written : (f : Form) → s.form ≡ f → IsInline f → f ≢ forms.Fields → wrote before (base_taken s.kind s.shape ws) ≡ written
  base_written f e i n =
      let h = inline_there s p.form f e i in
      let c = layout_class k s (p.of_class h.constant) in
      let o : s.kind ≢ kinds.Composite = other_kind f s.kind kinds.Composite h.form n in
      ap (wrote before) (sym (base_kind s.kind s.shape (each_taken c.class.fields (λ g. shape_taken (class_taken levels k) g.shape)) ws o))
      ∙ (ap (λ z. wrote before (kind_taken z s.shape (each_taken c.class.fields (λ g. shape_taken (class_taken levels k) g.shape)) ws)) c.kind
      ∙ (ap (λ z. wrote before (inline_taken (class_taken levels k) s.shape z ws)) (sym c.found)
      ∙ inline_written f e i))

  -- A value of a base name, by its form.
  pub leaf_written : (s.form ≡ forms.Integer) ⊎ (((n : ℕ) × (s.form ≡ forms.Raw n)) ⊎ (s.form ≡ forms.Text)) → wrote before (base_taken s.kind s.shape ws) ≡ written
  leaf_written (inl e) = base_written forms.Integer e tt (λ q. cc)
  leaf_written (inr (inl e)) = base_written (forms.Raw e.0) e.1 tt (λ q. cc)
  leaf_written (inr (inr e)) = base_written forms.Text e tt (λ q. cc)

  pub fields_written : (ss : List FieldLayout) → s.form ≡ forms.Fields → DepthBound k levels s.shape → IfSome (slice_get k s.class_index) (λ c. AreFieldLayouts k c.fields ss)
      → wrote_all before (each_taken ss (λ z. shape_taken (class_taken (levels - 1 + 1) k) z.shape) ws) ≡ written
  fields_written ss e r a =
      let h = inline_there s p.form forms.Fields e tt in
      let c = layout_class k s (p.of_class h.constant) in
      let o : kind_of c.class.name ≡ kinds.Composite = sym c.kind ∙ fields_kind s.kind h.form in
      let l : 1 ≤ levels = (inner_depth k levels s.shape c.class r h.constant c.found o).0 in
      let m : levels - 1 + 1 ≡ levels = omega arith in
      let b : AreFieldLayouts k c.class.fields ss = subst (λ o. IfSome o (λ c. AreFieldLayouts k c.fields ss)) c.there a in
      ap (λ n. wrote_all before (each_taken ss (λ z. shape_taken (class_taken n k) z.shape) ws)) m
      ∙ (ap (λ f. wrote_all before (f ws)) (sym (fields_by k (shape_taken (class_taken levels k)) c.class.fields ss b))
      ∙ (sym (group_wrote s.shape (each_taken c.class.fields (λ g. shape_taken (class_taken levels k) g.shape) ws) before)
      ∙ (ap (λ z. wrote before (kind_taken z s.shape (each_taken c.class.fields (λ g. shape_taken (class_taken levels k) g.shape)) ws)) (sym o)
      ∙ (ap (λ z. wrote before (inline_taken (class_taken levels k) s.shape z ws)) (sym c.found)
      ∙ inline_written forms.Fields e tt))))

-- An array, after its first word.
pub array_written : (f : Shape → Taker Value) (s : Shape) (w : List ℕ) (ws : List (List ℕ)) (before : List ℕ) (n : ℕ) → s.array ≡ true → id_after 91 w ≡ Some n
    → wrote_all (before ++ spell n) (times_taken n (shape_taken f (item_of s)) ws) ≡ wrote before (shape_taken f s (w ∷ ws))
array_written f s w ws before n a e =
    sym (items_wrote s n (times_taken n (shape_taken f (item_of s)) ws) before)
    ∙ (ap (λ z. wrote before (then_take z λ v us. then_take (times_taken v (shape_taken f (item_of s)) us) λ vs rest. took (Group s (spell v) (values_of vs)) rest)) (the_word e)
    ∙ ap (wrote before) (sym (by_marks f s true s.constant (w ∷ ws) a refl)))
  where
    the_word : id_after 91 w ≡ Some n → took n ws ≡ word_taken (id_after 91) (w ∷ ws)
    the_word e = rw e refl

pub array_bad : (f : Shape → Taker Value) (s : Shape) (w : List ℕ) (ws : List (List ℕ)) (before : List ℕ) → s.array ≡ true → id_after 91 w ≡ None → wrote before (shape_taken f s (w ∷ ws)) ≡ None
array_bad f s w ws before a e = ap (wrote before) (by_marks f s true s.constant (w ∷ ws) a refl) ∙ rw e refl

-- An array, after its count was written.
pub array_after : (f : Shape → Taker Value) (s : Shape) (w : List ℕ) (ws words : List (List ℕ)) (before after : List ℕ) (n : ℕ) → words ≡ w ∷ ws → after ≡ before ++ spell n → s.array ≡ true
    → Some n ≡ id_after 91 w
    → wrote_all after (times_taken n (shape_taken f (item_of s)) ws) ≡ wrote before (shape_taken f s words)
array_after f s w ws words before after n e h a q =
    ap (λ z. wrote_all z (times_taken n (shape_taken f (item_of s)) ws)) h ∙ (array_written f s w ws before n a (sym q) ∙ ap (λ z. wrote before (shape_taken f s z)) (sym e))

-- If a part is bad, so is the whole.
pub loop_bad : (A : Type 0) (o : Option (Taken (List ℕ))) (g : Rest) (a z : Option (Taken (List ℕ))) (fault : ValueFault) (after out : List ℕ) (left words : List (List ℕ)) → a ≡ then_take o g → a ≡ z
    → Writes {A = A} o (Err fault) after left → Writes {A = A} z (Err fault) out words
loop_bad A o g a z Bad after out left words e h b = after_bad o g a z e b h
loop_bad A o g a z Memory after out left words e h b = tt
