-- When cutting a recording and joining files end well.
use Rattle.std.proofs.Common.{◌≡◌, ℕ, ◌+◌, ◌≤◌, refl, sym, ◌∙◌, ap, subst, Bool, true, false, nat_le, List, [], ◌∷◌, ◌++◌, Option, None, Some, if◌then◌else◌, arith}
use Rattle.std.proofs.lemmas.Bool.{leb-true}
use Rattle.std.specs.Prelude.{◌↔◌}
use Rattle.std.specs.FinMap as fin
use Rattle.jfr_outside.specs.World.{Files}
use Rattle.jfr_plan.specs.Ends.{End, Fine, Refused, TooMany, TooLong}
use Rattle.jfr_plan.specs.Effects.{Effect, Create, Append, Plan}
use Rattle.jfr_plan.specs.Rules.{Stops, Goes, IsGoing, AllGo, cut_after, plan_after}
use Rattle.jfr_plan.proofs.EndsWell.{plan_ends_well}
use Rattle.jfr_split.specs.Parts.{SplitRule, Part, no_part, begins, part_by, part_with, part_after, part_of, folder_of}
use Rattle.jfr_split.specs.Names.{part_name}
use Rattle.jfr_split.specs.Splits.{closing, asks_part, splitting_as}
use Rattle.jfr_split.specs.Joins.{adding, then_by, joining, joining_all, files_in, assembling}
use Rattle.jfr_split.specs.Laws.{split_plan, FitsParts, AreFlawless, AreJoinable}
use Rattle.jfr_split.proofs.Fold.{of_snoc, of_none, of_all}
use Rattle.jfr_split.proofs.Filling.{AllFit, all_fit, may_begin}
use Rattle.jfr_split.proofs.Joined.{never_fine}
use Rattle.jfr_split.proofs.Round.{never}

-- No chunk makes the number of the last part smaller.
rises_by : (b : Bool) (p : Part) (c : List ℕ) → p.number ≤ (part_by b p c).number
rises_by true p c = omega arith
rises_by false p c = omega arith

rises_after : (rule : SplitRule) (p : Part) (cs : List (List ℕ)) → p.number ≤ (part_after rule p cs).number
rises_after rule p [] = omega arith
rises_after rule p (c ∷ cs) = let h = rises_by (begins rule p c) p c in let k = rises_after rule (part_with rule p c) cs in omega (arith, h, k)

-- Where no chunk is the end, there are not too many parts.
few_by : (b : Bool) (rule : SplitRule) (name : ℕ → List ℕ) (p : Part) (c : List ℕ) → IsGoing (asks_part rule name b p c) → p.number ≤ rule.max_parts → (part_by b p c).number ≤ rule.max_parts
few_by true rule name p c g h = omega (arith, may_begin rule name p c g)
few_by false rule name p c g h = h

few_after : (rule : SplitRule) (name : ℕ → List ℕ) (p : Part) (cs : List (List ℕ)) → AllFit rule name p cs → p.number ≤ rule.max_parts → (part_after rule p cs).number ≤ rule.max_parts
few_after rule name p [] f h = h
few_after rule name p (c ∷ cs) f h = few_after rule name (part_with rule p c) cs f.1 (few_by (begins rule p c) rule name p c f.0 h)

-- Where there are not too many parts, no chunk is the end.
goes_new : (m n : ℕ) (b : Bool) (es : List Effect) → nat_le m n ≡ b → n + 1 ≤ m → IsGoing (if b then Stops TooMany else Goes es)
goes_new m n true es e h = absurd (let k = leb-true m n e in omega (arith, k, h))
goes_new m n false es e h = refl

goes_by : (b : Bool) (rule : SplitRule) (name : ℕ → List ℕ) (p : Part) (c : List ℕ) → (part_by b p c).number ≤ rule.max_parts → IsGoing (asks_part rule name b p c)
goes_by true rule name p c h = goes_new rule.max_parts p.number (nat_le rule.max_parts p.number) (closing p ++ Create (name (p.number + 1)) ∷ Append c ∷ []) refl h
goes_by false rule name p c h = refl

all_go : (rule : SplitRule) (name : ℕ → List ℕ) (before cs : List (List ℕ)) → (part_after rule (part_of rule before) cs).number ≤ rule.max_parts → AllGo (splitting_as rule name) before cs
all_go rule name before [] h = tt
all_go rule name before (c ∷ cs) h =
    let p = part_of rule before in
    let k = rises_after rule (part_with rule p c) cs in (
      goes_by (begins rule p c) rule name p c (omega (arith, h, k)),
      all_go rule name (before ++ c ∷ []) cs (subst (λ (q : Part). (part_after rule q cs).number ≤ rule.max_parts) (sym (of_snoc rule before c)) h),
    )

-- Cutting ends well.
pub cutting_well : (rule : SplitRule) (file x : List ℕ) → ((split_plan rule file x).end ≡ Some Fine) ↔ FitsParts rule x
cutting_well rule file x =
    let name = part_name (folder_of rule) file in
    let cs = (cut_after [] x).chunks in
    let plan = plan_ends_well (splitting_as rule name) [] x (never rule name) in
    let is : part_of rule cs ≡ part_after rule no_part cs = of_all rule cs in (
      λ e.
          let g = plan.0 e in
          let fit : AllFit rule name no_part cs = subst (λ (p : Part). AllFit rule name p cs) (of_none rule) (all_fit rule name [] cs g.1) in
          record { flawless = g.0; few = subst (λ (p : Part). p.number ≤ rule.max_parts) (sym is) (few_after rule name no_part cs fit (omega arith)) },
      λ f. plan.1 (
        f.flawless,
        all_go rule name [] cs
            (subst (λ (p : Part). (part_after rule p cs).number ≤ rule.max_parts) (sym (of_none rule)) (subst (λ (p : Part). p.number ≤ rule.max_parts) is f.few)),
      ),
    )

-- Each chunk of a file is appended.
all_added : (earlier cs : List (List ℕ)) → AllGo adding earlier cs
all_added earlier [] = tt
all_added earlier (c ∷ cs) = (refl, all_added (earlier ++ c ∷ []) cs)

-- A plan and the next one end well if both do.
both_by : (o : Option End) (p later : Plan) → p.end ≡ o → (then_by o p later).end ≡ Some Fine → (p.end ≡ Some Fine) × (later.end ≡ Some Fine)
both_by (Some Fine) p later e h = (e, h)
both_by (Some (Refused r)) p later e h = cc
both_by (Some TooMany) p later e h = cc
both_by (Some (TooLong n)) p later e h = cc
both_by None p later e h = cc

joining_well : (earlier xs : List (List ℕ)) → ((joining earlier xs).end ≡ Some Fine) ↔ AreFlawless earlier xs
joining_well earlier [] = (λ e. tt, λ f. refl)
joining_well earlier (x ∷ xs) =
    let p = plan_after adding earlier (Some x) in
    let later = joining (earlier ++ (cut_after earlier x).chunks) xs in
    let well = plan_ends_well adding earlier x never_fine in
    let rest = joining_well (earlier ++ (cut_after earlier x).chunks) xs in (
      λ e. let k = both_by p.end p later refl e in ((well.0 k.0).0, rest.0 k.1),
      λ f. ap (λ (o : Option End). (then_by o p later).end) (well.1 (f.0, all_added earlier (cut_after earlier x).chunks)) ∙ rest.1 f.1,
    )

no_file : (xs : List (List ℕ)) → ((joining_all xs).end ≡ Some Fine) ↔ AreJoinable xs
no_file [] = (λ e. cc, λ f. absurd f)
no_file (x ∷ xs) = joining_well [] (x ∷ xs)

-- Joining a folder's files ends well.
pub assembling_well : (folder output : List ℕ) (files : Files) → ((assembling folder output files).end ≡ Some Fine) ↔ AreJoinable (fin.values (files_in folder files))
assembling_well folder output files = no_file (fin.values (files_in folder files))
