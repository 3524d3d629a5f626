-- The contents of the output of a command that makes an output chunk of each chunk.
use Rattle.std.specs.Prelude.{◌≡◌, ◌⊎◌, ℕ, ◌+◌, List, [], ◌∷◌, ◌++◌, length, map, true, Option, Some, None, unwrap_or}
use Rattle.std.proofs.Common.{ap, refl, sym, ◌∙◌, subst, inl, inr}
use Rattle.std.proofs.lemmas.List.{append-nil, append_assoc}
use Rattle.std.specs.FinMap as fin
use Rattle.jfr_base.specs.declared.flaw.Flaw.{Flaw}
use Rattle.jfr_base.specs.declared.flaw.Refusal.{Refusal}
use Rattle.jfr_outside.specs.World.{World, State, IfKnown, file, grown}
use Rattle.jfr_outside.proofs.HeldLaws.{is_there}
use Rattle.jfr_header.specs.Cuts.{cut, joined}
use Rattle.jfr_header.specs.declared.ending.Ending.{Ending}
use Rattle.jfr_header.specs.declared.ending.Ending.TheVariants as ending
use Rattle.jfr_plan.specs.Ends.{End, Fine, Refused}
use Rattle.jfr_plan.specs.Effects.{Effect, Create, Append, Finish, Step, Snapshot, without_sink, snapshot, apply, done, effects}
use Rattle.jfr_plan.specs.Rules.{Walk, walk, walk_on, plan_in, plan_after, cut_after}
use Rattle.jfr_plan.specs.Makes.{making, asks_made}
use Rattle.jfr_plan.specs.Outcomes.{AllDone}
use Rattle.jfr_plan.specs.Clauses.{over, Ended}
use Rattle.jfr_plan.proofs.Walking.{done_append}
use Rattle.jfr_output.specs.Recordings.{IsByPlan, before_refused, unless_refused}

-- The results for chunks are appended, one after another.
abbrev pub appends : (List ℕ → List ℕ) → List (List ℕ) → List Effect
appends m cs = map (λ c. Append (m c)) cs

-- The effects of a walk: an output chunk for each chunk before the first refused one, and then the end or
-- nothing.
pub record Walked (k : List ℕ → Option Flaw) (m : List ℕ → List ℕ) (steps : List Step) (cs : List (List ℕ)) : Type 0 where
  pub last : List Effect
  pub is_last : (last ≡ []) ⊎ (last ≡ Finish ∷ [])
  pub effects_are : effects steps ≡ appends m (before_refused k cs) ++ last

walked_on : (k : List ℕ → Option Flaw) (m : List ℕ → List ℕ) (o : Option Flaw) (c : List ℕ) (cs : List (List ℕ)) (n : ℕ) (later : Walk) → Walked k m later.steps cs
    → (last : List Effect) × ((last ≡ []) ⊎ (last ≡ Finish ∷ [])) × (effects (walk_on (asks_made o n (m c)) n later).steps ≡ appends m (unless_refused o (c ∷ before_refused k cs)) ++ last)
walked_on k m (Some f) c cs n later w = ([], inl refl, refl)
walked_on k m None c cs n later w = (w.last, w.is_last, ap (λ es. Append (m c) ∷ es) w.effects_are)

walked : (k : List ℕ → Option Flaw) (m : List ℕ → List ℕ) (output : List ℕ) (before cs : List (List ℕ)) (flaw : Option Flaw) → Walked k m (walk (making output k m) before cs flaw).steps cs
walked k m output before [] None = record { last = Finish ∷ []; is_last = inr refl; effects_are = refl }
walked k m output before [] (Some f) = record { last = []; is_last = inl refl; effects_are = refl }
walked k m output before (c ∷ cs) flaw =
    let h = walked_on k m (k c) c cs (length before + 1) (walk (making output k m) (before ++ c ∷ []) cs flaw) (walked k m output (before ++ c ∷ []) cs flaw) in
    record { last = h.0; is_last = h.1; effects_are = h.2 }

-- What is appended to the open output is in its file.
appended : (m : List ℕ → List ℕ) (output : List ℕ) (cs : List (List ℕ)) (s : Snapshot) (b : List ℕ) → s.output ≡ Some output → fin.get s.files output ≡ Some b
    → fin.get (done (appends m cs) s).files output ≡ Some (b ++ joined (map m cs))
appended m output [] s b o g = g ∙ ap Some (sym (append-nil b))
appended m output (c ∷ cs) s b o g =
    appended m output cs (apply (Append (m c)) s) (b ++ m c) o (grown_by s.output o)
    ∙ ap Some (append_assoc b (m c) (joined (map m cs)))
  where
    grown_by : (p : Option (List ℕ)) → p ≡ Some output → fin.get (grown p (m c) s.files) output ≡ Some (b ++ m c)
    grown_by None e = cc
    grown_by (Some name) e =
        let same : name ≡ output = cc in
        subst (λ z. fin.get (fin.insert s.files z (unwrap_or (fin.get s.files z) [] ++ m c)) output ≡ Some (b ++ m c)) (sym same)
        (is_there s.files output (unwrap_or (fin.get s.files output) [] ++ m c) ∙ ap (λ z. Some (unwrap_or z [] ++ m c)) g)

-- The end changes no file.
ended : (last : List Effect) (s : Snapshot) → (last ≡ []) ⊎ (last ≡ Finish ∷ []) → (done last s).files ≡ s.files
ended last s (inl e) = ap (λ es. (done es s).files) e
ended last s (inr e) = ap (λ es. (done es s).files) e

-- If all effects of the plan are done, the output has the results, one after another.
pub record Made (k : List ℕ → Option Flaw) (m : List ℕ → List ℕ) (input output : List ℕ) (w v : World) : Type 0 where
  pub recording : List ℕ
  pub read : file w input ≡ Some recording
  pub holds : file v output ≡ Some (joined (map m (before_refused k (cut recording 0 true).chunks)))

made_by : (k : List ℕ → Option Flaw) (m : List ℕ → List ℕ) (input output : List ℕ) (w v : World) (o p q : Option (List ℕ)) (e : End) → file w input ≡ o
    → AllDone (plan_after (making output k m) [] o) e (snapshot w p) (snapshot v q)
    → Made k m input output w v
made_by k m input output w v None p q e is d = let none : ◌≡◌ {A = Option End} None (Some e) = d.end in cc
made_by k m input output w v (Some x) p q e is d =
    let h = walked k m output [] (cut_after [] x).chunks (cut_after [] x).flaw in
    let s : Snapshot = apply (Create output) (snapshot w p) in
    let bs : List Effect = appends m (before_refused k (cut x 0 true).chunks) in
    let all : v.files ≡ (done (bs ++ h.last) s).files = ap (λ (t : Snapshot). t.files) d.holds ∙ ap (λ es. (done es s).files) h.effects_are in
    record {
      recording = x;
      read = is;
      holds = ap (λ f. fin.get f output) (all ∙ ap (λ (t : Snapshot). t.files) (done_append bs h.last s) ∙ ended h.last (done bs s) h.is_last)
          ∙ appended m output (before_refused k (cut x 0 true).chunks) s [] refl (is_there w.files output []);
    }

made : (k : List ℕ → Option Flaw) (m : List ℕ → List ℕ) (input output : List ℕ) (w v : World) (p q : Option (List ℕ)) (e : End)
    → AllDone (plan_in (making output k m) input w) e (snapshot w p) (snapshot v q)
    → Made k m input output w v
made k m input output w v p q e d = made_by k m input output w v (file w input) p q e refl d

-- If all effects of the plan are done, what follows from the contents of the output holds.
module _ (k : List ℕ → Option Flaw) (m : List ℕ → List ℕ) (input output : List ℕ) (P : World → World → Type 0) (follows : (w v : World) → Made k m input output w v → P w v) where
  ended_told : (e : End) (a b : State) → Ended (over (making output k m) input) e (without_sink a) (without_sink b) → IfKnown a.contents b.contents P
  ended_told e a b d = by_told a.contents b.contents d
    where
      by_told : (s t : Option World) → IfKnown s t (λ w v. AllDone (plan_in (making output k m) input w) e (snapshot w None) (snapshot v None)) → IfKnown s t P
      by_told None t d = tt
      by_told (Some w) None d = d
      by_told (Some w) (Some v) d = follows w v (made k m input output w v None None e d)

  -- An answer that the plan ends with.
  pub made_by_plan : (e : Ending) (a b : State) → (e ≡ ending.Done → Ended (over (making output k m) input) Fine (without_sink a) (without_sink b))
      → ((r : Refusal) → e ≡ ending.Refused r → Ended (over (making output k m) input) (Refused r) (without_sink a) (without_sink b)) → IsByPlan e → IfKnown a.contents b.contents P
  made_by_plan ending.Done a b d r h = ended_told Fine a b (d refl)
  made_by_plan (ending.Refused x) a b d r h = ended_told (Refused x) a b (r x refl)
  made_by_plan ending.ReadFault a b d r h = absurd h
  made_by_plan ending.WriteFault a b d r h = absurd h
  made_by_plan ending.TooManyParts a b d r h = absurd h
  made_by_plan (ending.MaskTooLong n) a b d r h = absurd h
  made_by_plan ending.Memory a b d r h = absurd h
