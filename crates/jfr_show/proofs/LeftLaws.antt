-- A loop over consecutive values: those that are left, and the result so far.
use Rattle.std.specs.Prelude.{◌≡◌, ℕ, ◌+◌, ◌≤◌, List, [], ◌∷◌, length}
use Rattle.std.proofs.Common.{ap, refl, sym, ◌∙◌, subst}
use Rattle.jfr_layout.specs.Classes.{Classes}
use Rattle.jfr_layout.specs.declared.shape.Shape.{Shape}
use Rattle.jfr_value.specs.Values.{Value, Values, Nil, Cons, shapes_of, bytes_of}
use Rattle.jfr_value.specs.Nodes.{node_at, IsNode, AreValues}
use Rattle.jfr_value.proofs.VisitLaws.{none_left}
use Rattle.jfr_value.proofs.WalkLaws.{first_of}

-- Values of these shapes are left from one offset up to the other, and the result so far, with what `onto`
-- makes of them, is the whole.
pub record StillToShow {A : Type 0} (k : Classes) (c : List ℕ) (to : ℕ) (whole : A) (onto : A → Values → A) (ss : List Shape) (from : ℕ) (made : A) : Type 0 where
  pub others : Values
  pub row : AreValues k c from to ss others
  pub rest : onto made others ≡ whole

no_values : (vs : Values) → shapes_of vs ≡ [] → vs ≡ Nil
no_values Nil e = refl
no_values (Cons v vs) e = cc

module _ {A : Type 0} (k : Classes) (c : List ℕ) (to : ℕ) (whole : A) where
  pub left_ends : (onto : A → Values → A) (ss : List Shape) (from : ℕ) (made : A) → StillToShow k c to whole onto ss from made → ss ≡ [] → onto made Nil ≡ made → (from ≡ to) × (made ≡ whole)
  left_ends onto ss from made f e z =
      let n = none_left k c from to ss f.others f.row e in
      let m : f.others ≡ Nil = no_values f.others (f.row.of_shapes ∙ e) in
      (n.ends, sym z ∙ (sym (ap (onto made) m) ∙ f.rest))

  -- At the end no values are left, and the result is the whole.
  pub left_closes : (onto : A → Values → A) (ss : List Shape) (from : ℕ) (made : A) → StillToShow k c to whole onto ss from made → ss ≡ [] → (from ≡ to) × (onto made Nil ≡ whole)
  left_closes onto ss from made f e =
      let n = none_left k c from to ss f.others f.row e in
      let m : f.others ≡ Nil = no_values f.others (f.row.of_shapes ∙ e) in
      (n.ends, sym (ap (onto made) m) ∙ f.rest)

  -- The first value that is left.
  pub record FirstRemaining (s : Shape) (from : ℕ) : Type 0 where
    pub place : ℕ
    pub value : Value
    pub node : IsNode k c (node_at s from place) value
    pub within : place ≤ to

  pub left_there : (onto : A → Values → A) (s : Shape) (ss us : List Shape) (from : ℕ) (made : A) → StillToShow k c to whole onto us from made → us ≡ s ∷ ss → FirstRemaining s from
  left_there onto s ss us from made f e =
      let g = first_of k c from to s ss f.others (subst (λ z. AreValues k c from to z f.others) e f.row) in
      record {
        place = from + length (bytes_of g.value);
        value = g.value;
        node = record { shape = sym g.shape; order = g.holds.order; within = g.holds.within; bytes = g.holds.bytes; fits = g.fits };
        within = g.row.order;
      }

  -- What is left after this value is added to the result.
  pub left_goes : (onto next : A → Values → A) (s : Shape) (ss us : List Shape) (from : ℕ) (made : A) (end : ℕ) (new : A)
      → StillToShow k c to whole onto us from made → us ≡ s ∷ ss
      → ((p : ℕ) (v : Value) → IsNode k c (node_at s from p) v → (end ≡ p) × ((vs : Values) → onto made (Cons v vs) ≡ next new vs))
      → StillToShow k c to whole next ss end new
  left_goes onto next s ss us from made end new f d x =
      let h = first_of k c from to s ss f.others (subst (λ z. AreValues k c from to z f.others) d f.row) in
      let p = from + length (bytes_of h.value) in
      let n : IsNode k c (node_at s from p) h.value = record { shape = sym h.shape; order = h.holds.order; within = h.holds.within; bytes = h.holds.bytes; fits = h.fits } in
      let t = x p h.value n in
      record {
        others = h.others;
        row = subst (λ q. AreValues k c q to ss h.others) (sym t.0) h.row;
        rest = sym (t.1 h.others) ∙ (sym (ap (onto made) h.are) ∙ f.rest);
      }
