-- Laws of what chunks ask for.
use Rattle.std.proofs.Common.{◌≡◌, ℕ, ◌+◌, refl, sym, ◌∙◌, ap, subst, List, [], ◌∷◌, ◌++◌, length, Option, Some, append_assoc, append-nil}
use Rattle.jfr_base.specs.declared.flaw.Flaw.{Flaw}
use Rattle.jfr_plan.specs.Effects.{Effect, Step, Snapshot, Need, Opened, Chunks, needing, effects, done, apply}
use Rattle.jfr_plan.specs.Ends.{End}
use Rattle.jfr_plan.specs.Rules.{Rule, Walk, Asked, Goes, walk, walk_on, gone, asked, AllGo, cut_after, plan_after}

pub done_append : (a b : List Effect) (s : Snapshot) → done (a ++ b) s ≡ done b (done a s)
done_append [] b s = refl
done_append (e ∷ a) b s = done_append a b (apply e s)

pub effects_needing : (n : Need) (es : List Effect) → effects (needing n es) ≡ es
effects_needing n [] = refl
effects_needing n (e ∷ es) = ap (λ (l : List Effect). e ∷ l) (effects_needing n es)

pub effects_append : (a b : List Step) → effects (a ++ b) ≡ effects a ++ effects b
effects_append [] b = refl
effects_append (s ∷ a) b = ap (λ (l : List Effect). s.effect ∷ l) (effects_append a b)

-- After chunks that go on, the walk goes on from them.
pub record Past (r : Rule) (p q later : List (List ℕ)) (flaw : Option Flaw) : Type 0 where
  pub steps : effects (walk r p (q ++ later) flaw).steps ≡ gone r p q ++ effects (walk r (p ++ q) later flaw).steps
  pub end : (walk r p (q ++ later) flaw).end ≡ (walk r (p ++ q) later flaw).end

pub past : (r : Rule) (p q later : List (List ℕ)) (flaw : Option Flaw) → AllGo r p q → Past r p q later flaw
past r p [] later flaw g = record {
  steps = ap (λ (l : List (List ℕ)). effects (walk r l later flaw).steps) (sym (append-nil p));
  end = ap (λ (l : List (List ℕ)). (walk r l later flaw).end) (sym (append-nil p));
}
past r p (c ∷ q) later flaw g =
    let h = past r (p ++ c ∷ []) q later flaw g.1 in
    let inner = walk r (p ++ c ∷ []) (q ++ later) flaw in
    let open_it : walk_on (r.asks p c) (length p + 1) inner ≡ walk_on (Goes (asked (r.asks p c))) (length p + 1) inner = ap (λ (a : Asked). walk_on a (length p + 1) inner) g.0 in
    let shift : (p ++ c ∷ []) ++ q ≡ p ++ c ∷ q = append_assoc p (c ∷ []) q in
    let es = asked (r.asks p c) in
    record {
      steps = ap (λ (x : Walk). effects x.steps) open_it ∙ effects_append (needing (Chunks (length p + 1)) es) inner.steps
          ∙ ap (λ (l : List Effect). l ++ effects inner.steps) (effects_needing (Chunks (length p + 1)) es)
          ∙ ap (λ (l : List Effect). es ++ l) (h.steps ∙ ap (λ (l : List (List ℕ)). gone r (p ++ c ∷ []) q ++ effects (walk r l later flaw).steps) shift)
          ∙ sym (append_assoc es (gone r (p ++ c ∷ []) q) (effects (walk r (p ++ c ∷ q) later flaw).steps));
      end = ap (λ (x : Walk). x.end) open_it ∙ h.end ∙ ap (λ (l : List (List ℕ)). (walk r l later flaw).end) shift;
    }

pub gone_snoc : (r : Rule) (p q : List (List ℕ)) (c : List ℕ) → gone r p (q ++ c ∷ []) ≡ gone r p q ++ asked (r.asks (p ++ q) c)
gone_snoc r p [] c = append-nil (asked (r.asks p c)) ∙ ap (λ (l : List (List ℕ)). asked (r.asks l c)) (sym (append-nil p))
gone_snoc r p (d ∷ q) c =
    ap (λ (l : List Effect). asked (r.asks p d) ++ l) (gone_snoc r (p ++ d ∷ []) q c ∙ ap (λ (l : List (List ℕ)). gone r (p ++ d ∷ []) q ++ asked (r.asks l c)) (append_assoc p (d ∷ []) q))
    ∙ sym (append_assoc (asked (r.asks p d)) (gone r (p ++ d ∷ []) q) (asked (r.asks (p ++ d ∷ q) c)))

pub go_snoc : (r : Rule) (p q : List (List ℕ)) (c : List ℕ) → AllGo r p q → r.asks (p ++ q) c ≡ Goes (asked (r.asks (p ++ q) c)) → AllGo r p (q ++ c ∷ [])
go_snoc r p [] c g h = (subst (λ (l : List (List ℕ)). r.asks l c ≡ Goes (asked (r.asks l c))) (append-nil p) h, tt)
go_snoc r p (d ∷ q) c g h = (g.0, go_snoc r (p ++ d ∷ []) q c g.1 (subst (λ (l : List (List ℕ)). r.asks l c ≡ Goes (asked (r.asks l c))) (sym (append_assoc p (d ∷ []) q)) h))

-- The plan, from the chunks that went on.
pub record FromHere (r : Rule) (earlier : List (List ℕ)) (o : Option (List ℕ)) (before : List (List ℕ)) (v : Walk) : Type 0 where
  pub steps : effects (plan_after r earlier o).steps ≡ (r.opens ++ gone r earlier before) ++ effects v.steps
  pub end : (plan_after r earlier o).end ≡ Some v.end

pub from_here : (r : Rule) (earlier : List (List ℕ)) (x : List ℕ) (before later : List (List ℕ)) (flaw : Option Flaw) → (cut_after earlier x).chunks ≡ before ++ later
    → (cut_after earlier x).flaw ≡ flaw → AllGo r earlier before → FromHere r earlier (Some x) before (walk r (earlier ++ before) later flaw)
from_here r earlier x before later flaw cs f g =
    let h = past r earlier before later flaw g in
    let all = walk r earlier (cut_after earlier x).chunks (cut_after earlier x).flaw in
    let e : all ≡ walk r earlier (before ++ later) flaw = ap (λ (l : List (List ℕ)). walk r earlier l (cut_after earlier x).flaw) cs ∙ ap (walk r earlier (before ++ later)) f in
    record {
      steps = effects_append (needing Opened r.opens) all.steps ∙ ap (λ (l : List Effect). l ++ effects all.steps) (effects_needing Opened r.opens) ∙ ap (λ (y : Walk). r.opens ++ effects y.steps) e
          ∙ ap (λ (l : List Effect). r.opens ++ l) h.steps ∙ sym (append_assoc r.opens (gone r earlier before) (effects (walk r (earlier ++ before) later flaw).steps));
      end = ap (λ (y : Walk). Some y.end) e ∙ ap (λ (y : End). Some y) h.end;
    }
