-- A plan ends well exactly if each chunk goes on and no flaw follows them.
use Rattle.std.proofs.Common.{◌≡◌, ℕ, ◌+◌, refl, sym, ◌∙◌, ap, true, List, [], ◌∷◌, ◌++◌, map, length, Option, None, Some}
use Rattle.std.specs.Prelude.{◌↔◌}
use Rattle.std.specs.List.{AllByRecursion}
use Rattle.jfr_base.specs.declared.flaw.Flaw.{Flaw}
use Rattle.jfr_header.specs.Cuts.{cut}
use Rattle.jfr_plan.specs.Ends.{End, Fine}
use Rattle.jfr_plan.specs.Effects.{Effect, Create, Append, Finish, effects}
use Rattle.jfr_plan.specs.Rules.{Rule, Asked, Stops, Goes, walk, walk_on, walk_end, asked, IsGoing, AllGo, cut_after, plan_after}
use Rattle.jfr_plan.specs.Makes.{making, asks_made}
use Rattle.jfr_plan.specs.Accepted.{AllGood, AllAccepted}

-- A chunk never ends the work well.
abbrev pub NeverStopsWell : Rule → Type 0
NeverStopsWell r = (before : List (List ℕ)) (c : List ℕ) → r.asks before c ≡ Stops Fine → ⊥

-- The work goes on after a chunk exactly if the chunk is good.
abbrev pub GoesIf : Rule → (List ℕ → Type 0) → Type 0
GoesIf r Good = (before : List (List ℕ)) (c : List ℕ) → IsGoing (r.asks before c) ↔ Good c

-- A walk that ends well.
pub well_goes : (r : Rule) (before cs : List (List ℕ)) (flaw : Option Flaw) → NeverStopsWell r → (walk r before cs flaw).end ≡ Fine → (flaw ≡ None) × AllGo r before cs
well_goes r before [] None n h = (refl, tt)
well_goes r before [] (Some f) n h = cc
well_goes r before (c ∷ cs) flaw n h = by_asked (r.asks before c) refl (well_goes r (before ++ c ∷ []) cs flaw n) h
  where
    by_asked : (a : Asked) → r.asks before c ≡ a → ((walk r (before ++ c ∷ []) cs flaw).end ≡ Fine → (flaw ≡ None) × AllGo r (before ++ c ∷ []) cs)
        → (walk_on a (length before + 1) (walk r (before ++ c ∷ []) cs flaw)).end ≡ Fine → (flaw ≡ None) × AllGo r before (c ∷ cs)
    by_asked (Stops e) is later h = absurd (n before c (is ∙ ap Stops h))
    by_asked (Goes es) is later h = let k = later h in (k.0, (is ∙ sym (ap (λ (a : Asked). Goes (asked a)) is), k.1))

pub goes_well : (r : Rule) (before cs : List (List ℕ)) (flaw : Option Flaw) → flaw ≡ None → AllGo r before cs → (walk r before cs flaw).end ≡ Fine
goes_well r before [] flaw f g = ap (λ (o : Option Flaw). (walk_end r before o).end) f
goes_well r before (c ∷ cs) flaw f g =
    ap (λ (a : Asked). (walk_on a (length before + 1) (walk r (before ++ c ∷ []) cs flaw)).end) g.0 ∙ goes_well r (before ++ c ∷ []) cs flaw f g.1

some_end : (a b : End) → ◌≡◌ {A = Option End} (Some a) (Some b) → a ≡ b
some_end a b e = cc

-- A plan over a file ends well exactly if the file is cut without a flaw and all its chunks go on.
pub plan_ends_well : (r : Rule) (earlier : List (List ℕ)) (x : List ℕ) → NeverStopsWell r
    → ((plan_after r earlier (Some x)).end ≡ Some Fine) ↔ ((cut_after earlier x).flaw ≡ None) × AllGo r earlier (cut_after earlier x).chunks
plan_ends_well r earlier x n =
    let cuts = cut_after earlier x in (
      λ h. well_goes r earlier cuts.chunks cuts.flaw n (some_end (walk r earlier cuts.chunks cuts.flaw).end Fine h),
      λ h. ap (λ (e : End). Some e) (goes_well r earlier cuts.chunks cuts.flaw h.0 h.1),
    )

-- All chunks go on exactly if each is good.
all_go : (r : Rule) (Good : List ℕ → Type 0) (before cs : List (List ℕ)) → GoesIf r Good → AllGo r before cs ↔ AllByRecursion Good cs
all_go r Good before [] h = (λ g. tt, λ g. tt)
all_go r Good before (c ∷ cs) h =
    let later = all_go r Good (before ++ c ∷ []) cs h in (
      λ g. ((h before c).0 g.0, later.0 g.1),
      λ g. ((h before c).1 g.0, later.1 g.1),
    )

-- A plan over a recording ends well exactly if each of its chunks is good.
pub ends_well : (r : Rule) (Good : List ℕ → Type 0) (x : List ℕ) → NeverStopsWell r → GoesIf r Good → ((plan_after r [] (Some x)).end ≡ Some Fine) ↔ AllGood Good x
ends_well r Good x n h =
    let plan = plan_ends_well r [] x n in
    let each = all_go r Good [] (cut_after [] x).chunks h in (
      λ e. let k = plan.0 e in record { flawless = k.0; each = each.0 k.1 },
      λ g. plan.1 (g.flawless, each.1 g.each),
    )

-- The work that makes an output chunk of each chunk ends well exactly if none is refused.
pub making_ends_well : (output : List ℕ) (refusal : List ℕ → Option Flaw) (becomes : List ℕ → List ℕ) (x : List ℕ)
    → ((plan_after (making output refusal becomes) [] (Some x)).end ≡ Some Fine) ↔ AllAccepted refusal x
making_ends_well output refusal becomes x =
    ends_well (making output refusal becomes) (λ c. refusal c ≡ None) x (λ before c. never (refusal c) (length before + 1) (becomes c)) (λ before c. goes (refusal c) (length before + 1) (becomes c))
  where
    never : (o : Option Flaw) (n : ℕ) (m : List ℕ) → asks_made o n m ≡ Stops Fine → ⊥
    never None n m e = cc
    never (Some f) n m e = cc

    goes : (o : Option Flaw) (n : ℕ) (m : List ℕ) → IsGoing (asks_made o n m) ↔ (o ≡ None)
    goes None n m = (λ g. refl, λ g. refl)
    goes (Some f) n m = (λ g. cc, λ g. cc)

-- The effects of this work over chunks of which none is refused.
made : (output : List ℕ) (refusal : List ℕ → Option Flaw) (becomes : List ℕ → List ℕ) (before cs : List (List ℕ)) (flaw : Option Flaw) → flaw ≡ None → AllByRecursion (λ c. refusal c ≡ None) cs
    → effects (walk (making output refusal becomes) before cs flaw).steps ≡ map (λ c. Append (becomes c)) cs ++ Finish ∷ []
made output refusal becomes before [] flaw f h = ap (λ (o : Option Flaw). effects (walk_end (making output refusal becomes) before o).steps) f
made output refusal becomes before (c ∷ cs) flaw f h =
    ap (λ (o : Option Flaw). effects (walk_on (asks_made o (length before + 1) (becomes c)) (length before + 1) (walk (making output refusal becomes) (before ++ c ∷ []) cs flaw)).steps) h.0
    ∙ ap (λ (es : List Effect). Append (becomes c) ∷ es) (made output refusal becomes (before ++ c ∷ []) cs flaw f h.1)

-- Where it ends well, each chunk's output is appended.
pub all_made : (output : List ℕ) (refusal : List ℕ → Option Flaw) (becomes : List ℕ → List ℕ) (x : List ℕ) → (plan_after (making output refusal becomes) [] (Some x)).end ≡ Some Fine
    → effects (plan_after (making output refusal becomes) [] (Some x)).steps ≡ Create output ∷ map (λ c. Append (becomes c)) (cut x 0 true).chunks ++ Finish ∷ []
all_made output refusal becomes x e =
    let g = (making_ends_well output refusal becomes x).0 e in
    ap (λ (es : List Effect). Create output ∷ es) (made output refusal becomes [] (cut x 0 true).chunks (cut x 0 true).flaw g.flawless g.each)
