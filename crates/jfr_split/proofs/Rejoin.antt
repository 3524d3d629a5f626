-- Files that hold whole chunks, each cut by itself.
use Rattle.std.proofs.Common.{◌≡◌, ℕ, ◌+◌, ◌^◌, ◌<◌, refl, sym, ◌∙◌, ap, subst, true, false, List, [], ◌∷◌, ◌++◌, length, map, drop, None, Some, append_assoc, length-append, arith}
use Rattle.jfr_header.specs.Fronts.{Whole}
use Rattle.jfr_header.specs.Cuts.{Cuts, joined, AreCut}
use Rattle.jfr_header.proofs.Steps.{whole_front, front_end}
use Rattle.jfr_header.proofs.CutLaws.{cut_is}
use Rattle.jfr_plan.specs.Ends.{End, Fine}
use Rattle.jfr_plan.specs.Effects.{Effect, Append, Finish, Plan, effects}
use Rattle.jfr_plan.specs.Rules.{walk, cut_after, plan_by, plan_after}
use Rattle.jfr_split.specs.Joins.{adding, joining}
use Rattle.jfr_split.proofs.Composing.{Follows, follows}
use Rattle.jfr_split.proofs.Fold.{flat}

-- Chunks that are whole and start early enough.
abbrev pub Early : ℕ → List (List ℕ) → Type 0
Early s [] = Unit {0}
Early s (c ∷ cs) = Whole c × (s < 2 ^ 40) × Early (s + length c) cs

abbrev pub joined_append : (a b : List (List ℕ)) → joined (a ++ b) ≡ joined a ++ joined b
joined_append [] b = refl
joined_append (c ∷ a) b = ap (λ (x : List ℕ). c ++ x) (joined_append a b) ∙ sym (append_assoc c (joined a) (joined b))

add_three : (s a b : ℕ) → s + a + b ≡ s + (a + b)
add_three s a b = omega arith

pub early_split : (s : ℕ) (a b : List (List ℕ)) → Early s (a ++ b) → Early s a × Early (s + length (joined a)) b
early_split s [] b h = (tt, subst (λ (n : ℕ). Early n b) (omega arith) h)
early_split s (c ∷ a) b h =
    let k = early_split (s + length c) a b h.2 in
    ((h.0, h.1, k.0), subst (λ (n : ℕ). Early n b) (add_three s (length c) (length (joined a)) ∙ ap (λ (n : ℕ). s + n) (sym (length-append c (joined a)))) k.1)

pub drop_chunk : (c x : List ℕ) → drop (length c) (c ++ x) ≡ x
drop_chunk [] x = refl
drop_chunk (b ∷ c) x = drop_chunk c x

later_cut : (s : ℕ) (cs : List (List ℕ)) → Early s cs → AreCut cs None (joined cs) s false
later_cut s [] h = front_end s
later_cut s (c ∷ cs) h = (whole_front c (joined cs) s false h.0 h.1, subst (λ (x : List ℕ). AreCut cs None x (s + length c) false) (sym (drop_chunk c (joined cs))) (later_cut (s + length c) cs h.2))

first_cut : (s : ℕ) (c : List ℕ) (cs : List (List ℕ)) → Early s (c ∷ cs) → AreCut (c ∷ cs) None (joined (c ∷ cs)) s true
first_cut s c cs h = (whole_front c (joined cs) s true h.0 h.1, subst (λ (x : List ℕ). AreCut cs None x (s + length c) false) (sym (drop_chunk c (joined cs))) (later_cut (s + length c) cs h.2))

-- Each part is cut into its chunks.
pub part_cut : (earlier : List (List ℕ)) (c : List ℕ) (cs : List (List ℕ)) → Early (length (joined earlier)) (c ∷ cs) → cut_after earlier (joined (c ∷ cs)) ≡ record { chunks = c ∷ cs; flaw = None }
part_cut earlier c cs h = cut_is (c ∷ cs) None (joined (c ∷ cs)) (length (joined earlier)) true (first_cut (length (joined earlier)) c cs h)

abbrev pub appends : List (List ℕ) → List Effect
appends cs = map (λ c. Append c) cs

pub record Adds (earlier cs : List (List ℕ)) : Type 0 where
  pub steps : effects (walk adding earlier cs None).steps ≡ appends cs
  pub end : (walk adding earlier cs None).end ≡ Fine

pub adds : (earlier cs : List (List ℕ)) → Adds earlier cs
adds earlier [] = record { steps = refl; end = refl }
adds earlier (c ∷ cs) = let h = adds (earlier ++ c ∷ []) cs in record { steps = ap (λ (x : List Effect). Append c ∷ x) h.steps; end = h.end }

-- No group is empty.
abbrev pub AllFull : List (List (List ℕ)) → Type 0
AllFull [] = Unit {0}
AllFull ([] ∷ gs) = ⊥
AllFull ((c ∷ g) ∷ gs) = AllFull gs

pub record Rejoins (earlier : List (List ℕ)) (gs : List (List (List ℕ))) : Type 0 where
  pub steps : effects (joining earlier (map joined gs)).steps ≡ appends (flat gs) ++ Finish ∷ []
  pub end : (joining earlier (map joined gs)).end ≡ Some Fine

pub appends_append : (a b : List (List ℕ)) → appends (a ++ b) ≡ appends a ++ appends b
appends_append [] b = refl
appends_append (c ∷ a) b = ap (λ (x : List Effect). Append c ∷ x) (appends_append a b)

pub one_part : (earlier : List (List ℕ)) (x : List ℕ) (g : List (List ℕ)) (later : Plan) → cut_after earlier x ≡ record { chunks = g; flaw = None }
    → Follows (plan_after adding earlier (Some x)) later (appends g)
one_part earlier x g later e =
    let h = adds earlier g in
    subst (λ (y : Cuts). Follows (plan_by adding (walk adding earlier y.chunks y.flaw)) later (appends g)) (sym e)
    (follows (walk adding earlier g None).steps (Some (walk adding earlier g None).end) later (appends g) h.steps (ap (λ (e : End). Some e) h.end))

pub rejoins : (earlier : List (List ℕ)) (gs : List (List (List ℕ))) → AllFull gs → Early (length (joined earlier)) (flat gs) → Rejoins earlier gs
rejoins earlier [] f h = record { steps = refl; end = refl }
rejoins earlier ([] ∷ gs) f h = absurd f
rejoins earlier ((c ∷ g) ∷ gs) f h =
    let k = early_split (length (joined earlier)) (c ∷ g) (flat gs) h in
    let e = part_cut earlier c g k.0 in
    let n : length (joined earlier) + length (joined (c ∷ g)) ≡ length (joined (earlier ++ c ∷ g)) =
    sym (ap length (joined_append earlier (c ∷ g)) ∙ length-append (joined earlier) (joined (c ∷ g))) in
    let i = rejoins (earlier ++ c ∷ g) gs f (subst (λ (m : ℕ). Early m (flat gs)) n k.1) in
    let at : joining (earlier ++ (cut_after earlier (joined (c ∷ g))).chunks) (map joined gs) ≡ joining (earlier ++ c ∷ g) (map joined gs) =
    ap (λ (y : Cuts). joining (earlier ++ y.chunks) (map joined gs)) e in
    let b = one_part earlier (joined (c ∷ g)) (c ∷ g) (joining (earlier ++ (cut_after earlier (joined (c ∷ g))).chunks) (map joined gs)) e in
    record {
      steps = b.steps ∙ ap (λ (p : Plan). appends (c ∷ g) ++ effects p.steps) at ∙ ap (λ (x : List Effect). appends (c ∷ g) ++ x) i.steps
          ∙ sym (append_assoc (appends (c ∷ g)) (appends (flat gs)) (Finish ∷ [])) ∙ ap (λ (x : List Effect). x ++ Finish ∷ []) (sym (appends_append (c ∷ g) (flat gs)));
      end = b.end ∙ ap (λ (p : Plan). p.end) at ∙ i.end;
    }
