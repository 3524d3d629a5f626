-- The files that a masking writes: the output, and the table.
use Rattle.std.specs.Prelude.{◌≡◌, ◌⊎◌, ℕ, ◌+◌, ◌<◌, ◌^◌, cond, Bool, true, false, List, [], ◌∷◌, ◌++◌, length, map, Option, Some, None, unwrap_or, IfSome, ⊤}
use Rattle.std.proofs.Common.{ap, refl, sym, ◌∙◌, subst, inl, inr, append-nil, append_assoc}
use Rattle.std.specs.FinMap as fin
use Rattle.std.specs.FinMap.{get-insert}
use Rattle.std.specs.Ordering.{eq_by_cmp}
use Rattle.std.specs.Cmp.Lexicographic.{nat_list_cmp_total, slice_cmp}
use Rattle.std.specs.Ordering.{nat_cmp}
use Rattle.std.proofs.lemmas.Slice.Eq.{bytes_eq-Decides}
use Rattle.jfr_base.specs.declared.flaw.Flaw.{Flaw}
use Rattle.jfr_outside.specs.World.{Files, World, file, grown}
use Rattle.jfr_outside.proofs.HeldLaws.{is_there, turned}
use Rattle.jfr_filter.specs.Filters.{Given}
use Rattle.jfr_header.specs.Cuts.{cut, joined}
use Rattle.jfr_plan.specs.Ends.{End, Fine, Refused, TooLong, TooMany, refused}
use Rattle.jfr_plan.specs.Effects.{Append, AtEnd, Create, Effect, Finish, Snapshot, apply, done, effects, snapshot}
use Rattle.jfr_plan.specs.Outcomes.{AllDone}
use Rattle.jfr_plan.specs.Rules.{Walk, plan_after, walk, walk_on}
use Rattle.jfr_plan.proofs.Sound.{created_new}
use Rattle.jfr_plan.proofs.Walking.{done_append, effects_needing}
use Rattle.jfr_chunk.specs.Refusal.{refusal_of}
use Rattle.jfr_output.specs.Recordings.{before_refused, unless_refused}
use Rattle.jfr_mask.specs.MaskOf.{Masking}
use Rattle.jfr_mask.specs.Recordings.{all_masked, asks_by, dictionary_over, dictionary_with, is_too_long, masked, masking_rule, table_effects, table_lines}
use Rattle.jfr_mask.proofs.RecordingSteps.{dictionary_next, is_short, length_next}

-- These bytes are appended, one after another.
abbrev pub appends : List (List ℕ) → List Effect
appends bs = map (λ b. Append b) bs

-- What is appended to the open output is in its file.
pub appended : (name : List ℕ) (bs : List (List ℕ)) (s : Snapshot) (b : List ℕ) → s.output ≡ Some name → fin.get s.files name ≡ Some b
    → fin.get (done (appends bs) s).files name ≡ Some (b ++ joined bs)
appended name [] s b o g = g ∙ ap Some (sym (append-nil b))
appended name (c ∷ bs) s b o g = appended name bs (apply (Append c) s) (b ++ c) o (grown_by s.output o) ∙ ap Some (append_assoc b c (joined bs))
  where
    grown_by : (p : Option (List ℕ)) → p ≡ Some name → fin.get (grown p c s.files) name ≡ Some (b ++ c)
    grown_by None e = cc
    grown_by (Some other) e =
        let same : other ≡ name = cc in
        subst (λ z. fin.get (fin.insert s.files z (unwrap_or (fin.get s.files z) [] ++ c)) name ≡ Some (b ++ c)) (sym same)
        (is_there s.files name (unwrap_or (fin.get s.files name) [] ++ c) ∙ ap (λ z. Some (unwrap_or z [] ++ c)) g)

-- The output stays open.
pub still_open : (bs : List (List ℕ)) (s : Snapshot) → (done (appends bs) s).output ≡ s.output
still_open [] s = refl
still_open (b ∷ bs) s = still_open bs (apply (Append b) s)

-- A file with another name is as it was.
pub elsewhere : (files : Files) (name other v : List ℕ) → (name ≡ other → ⊥) → fin.get (fin.insert files name v) other ≡ fin.get files other
elsewhere files name other v apart =
    get-insert nat_list_cmp_total files name v other ∙ by_bool (eq_by_cmp (slice_cmp nat_cmp) other name) refl
  where
    by_bool : (t : Bool) → eq_by_cmp (slice_cmp nat_cmp) other name ≡ t → cond t (Some v) (fin.get files other) ≡ fin.get files other
    by_bool true e = absurd (apart ((bytes_eq-Decides name other).0 (sym (turned other name) ∙ e)))
    by_bool false e = refl

appended_elsewhere : (name other : List ℕ) (bs : List (List ℕ)) (s : Snapshot) → s.output ≡ Some name → (name ≡ other → ⊥) → fin.get (done (appends bs) s).files other ≡ fin.get s.files other
appended_elsewhere name other [] s o apart = refl
appended_elsewhere name other (b ∷ bs) s o apart = appended_elsewhere name other bs (apply (Append b) s) o apart ∙ grown_by s.output o
  where
    grown_by : (p : Option (List ℕ)) → p ≡ Some name → fin.get (grown p b s.files) other ≡ fin.get s.files other
    grown_by None e = cc
    grown_by (Some x) e =
        let same : x ≡ name = cc in
        subst (λ z. fin.get (fin.insert s.files z (unwrap_or (fin.get s.files z) [] ++ b)) other ≡ fin.get s.files other) (sym same)
        (elsewhere s.files name other (unwrap_or (fin.get s.files name) [] ++ b) apart)

-- The plan ends at the input's end or at a refused chunk.
abbrev pub IsByChunks : End → Type 0
IsByChunks Fine = ⊤
IsByChunks (Refused r) = ⊤
IsByChunks TooMany = ⊥
IsByChunks (TooLong n) = ⊥

-- The masked chunks of these chunks are below 2^30 bytes, and start below byte 2^40 of the output.
abbrev pub AllFitAfter : Given → Masking → List (List ℕ) → ℕ → List (List ℕ) → Type 0
AllFitAfter g m d before [] = ⊤
AllFitAfter g m d before (c ∷ cs) = (before < 2 ^ 40) × (length (masked g m d c) < 2 ^ 30) × AllFitAfter g m (dictionary_with g m d c) (before + length (masked g m d c)) cs

module _ (g : Given) (m : Masking) (output : List ℕ) (table : Option (List ℕ)) where
  -- The effects of a walk over chunks, of which these are accepted: a masked chunk for each, and then the end, or
  -- nothing.
  pub record Walked (d : List (List ℕ)) (before : ℕ) (all accepted : List (List ℕ)) (w : Walk) : Type 0 where
    pub last : List Effect
    pub effects_are : effects w.steps ≡ appends (all_masked g m d accepted) ++ last
    pub fine : w.end ≡ Fine → last ≡ Finish ∷ table_effects table (dictionary_over g m d all)
    pub others : (last ≡ []) ⊎ (last ≡ Finish ∷ table_effects table (dictionary_over g m d all))
    pub fit : AllFitAfter g m d before accepted

  refused_fine : (n : ℕ) (f : Flaw) → refused n f ≡ Fine → ⊥
  refused_fine n f e = cc

  walked_on : (d : List (List ℕ)) (before n : ℕ) (c : List ℕ) (cs : List (List ℕ)) (o : Option Flaw) (t : Bool) (later : Walk) → is_too_long before (masked g m d c) ≡ t
      → IsByChunks (walk_on (asks_by o t n (masked g m d c)) n later).end
      → (IsByChunks later.end → Walked (dictionary_with g m d c) (before + length (masked g m d c)) cs (before_refused refusal_of cs) later)
      → Walked d before (c ∷ cs) (unless_refused o (c ∷ before_refused refusal_of cs)) (walk_on (asks_by o t n (masked g m d c)) n later)
  walked_on d before n c cs (Some f) t later is by rest = record { last = []; effects_are = refl; fine = λ e. absurd (refused_fine n f e); others = inl refl; fit = tt }
  walked_on d before n c cs None true later is by rest = absurd by
  walked_on d before n c cs None false later is by rest =
      let r = rest by in
      let s = is_short before (masked g m d c) is in
      record { last = r.last; effects_are = ap (λ es. Append (masked g m d c) ∷ es) r.effects_are; fine = r.fine; others = r.others; fit = (s.0, s.1, r.fit) }

  abbrev D : List (List ℕ) → List (List ℕ)
  D bf = dictionary_over g m [] bf

  abbrev L : List (List ℕ) → ℕ
  L bf = length (joined (all_masked g m [] bf))

  pub walked : (bf cs : List (List ℕ)) (flaw : Option Flaw) → IsByChunks (walk (masking_rule g m output table) bf cs flaw).end
      → Walked (D bf) (L bf) cs (before_refused refusal_of cs) (walk (masking_rule g m output table) bf cs flaw)
  walked bf [] None by = record { last = Finish ∷ table_effects table (D bf); effects_are = effects_needing AtEnd (Finish ∷ table_effects table (D bf)); fine = λ e. refl; others = inr refl; fit = tt }
  walked bf [] (Some f) by = record { last = []; effects_are = refl; fine = λ e. absurd (refused_fine (length bf + 1) f e); others = inl refl; fit = tt }
  walked bf (c ∷ cs) flaw by =
      walked_on (D bf) (L bf) (length bf + 1) c cs (refusal_of c) (is_too_long (L bf) (masked g m (D bf) c)) (walk (masking_rule g m output table) (bf ++ c ∷ []) cs flaw) refl by
      (λ h. subst (λ (z : ℕ). Walked (dictionary_with g m (D bf) c) z cs (before_refused refusal_of cs) (walk (masking_rule g m output table) (bf ++ c ∷ []) cs flaw)) (length_next g m [] bf c)
      (subst (λ (z : List (List ℕ)). Walked z (L (bf ++ c ∷ [])) cs (before_refused refusal_of cs) (walk (masking_rule g m output table) (bf ++ c ∷ []) cs flaw)) (dictionary_next g m [] bf c)
      (walked (bf ++ c ∷ []) cs flaw h)))

  -- All effects of the plan are done: what is in the output and, at the input's end, in the table.
  pub record Made (x : List ℕ) (e : End) (v : World) : Type 0 where
    pub holds : file v output ≡ Some (joined (all_masked g m [] (before_refused refusal_of (cut x 0 true).chunks)))
    pub fit : AllFitAfter g m [] 0 (before_refused refusal_of (cut x 0 true).chunks)
    pub in_table : e ≡ Fine → IfSome table (λ name. file v name ≡ Some (joined (table_lines 1 (dictionary_over g m [] (cut x 0 true).chunks))))

  -- The files after the last effects.
  module _ (x : List ℕ) (bs : List (List ℕ)) (w v : World) (p q : Option (List ℕ)) (e : End) (d : AllDone (plan_after (masking_rule g m output table) [] (Some x)) e (snapshot w p) (snapshot v q)) where
    abbrev s : Snapshot
    s = done (appends bs) (apply (Create output) (snapshot w p))

    written : fin.get s.files output ≡ Some (joined bs)
    written = appended output bs (apply (Create output) (snapshot w p)) [] refl (is_there w.files output [])

    all_of : (last : List Effect) → effects (plan_after (masking_rule g m output table) [] (Some x)).steps ≡ Create output ∷ (appends bs ++ last) → v.files ≡ (done last s).files
    all_of last is = ap (λ (t : Snapshot). t.files) d.holds ∙ ap (λ es. (done es (snapshot w p)).files) is
        ∙ ap (λ (t : Snapshot). t.files) (done_append (appends bs) last (apply (Create output) (snapshot w p)))

    only_finish : effects (plan_after (masking_rule g m output table) [] (Some x)).steps ≡ Create output ∷ (appends bs ++ Finish ∷ []) → file v output ≡ Some (joined bs)
    only_finish is = ap (λ f. fin.get f output) (all_of (Finish ∷ []) is) ∙ written

    nothing_last : effects (plan_after (masking_rule g m output table) [] (Some x)).steps ≡ Create output ∷ (appends bs ++ []) → file v output ≡ Some (joined bs)
    nothing_last is = ap (λ f. fin.get f output) (all_of [] is) ∙ written

    module _ (name : List ℕ) (lines : List (List ℕ)) (is : effects (plan_after (masking_rule g m output table) [] (Some x)).steps ≡ Create output ∷ (appends bs ++ Finish ∷ Create name ∷ (appends lines ++ Finish ∷ []))) where
      regrouped : Create output ∷ (appends bs ++ Finish ∷ Create name ∷ (appends lines ++ Finish ∷ [])) ≡ (Create output ∷ (appends bs ++ Finish ∷ [])) ++ Create name ∷ (appends lines ++ Finish ∷ [])
      regrouped = ap (λ es. Create output ∷ es) (sym (append_assoc (appends bs) (Finish ∷ []) (Create name ∷ (appends lines ++ Finish ∷ []))))

      -- The table is another file, since it is created after the output.
      apart : name ≡ output → ⊥
      apart same =
          let none : fin.get (done (Create output ∷ (appends bs ++ Finish ∷ [])) (snapshot w p)).files name ≡ None =
          created_new (plan_after (masking_rule g m output table) [] (Some x)) e (Create output ∷ (appends bs ++ Finish ∷ [])) (appends lines ++ Finish ∷ []) name p q w v d (is ∙ regrouped) in
          let there : fin.get (done (Create output ∷ (appends bs ++ Finish ∷ [])) (snapshot w p)).files output ≡ Some (joined bs) =
          ap (λ (t : Snapshot). fin.get t.files output) (done_append (appends bs) (Finish ∷ []) (apply (Create output) (snapshot w p))) ∙ written in
          absurd_by (sym none ∙ subst (λ z. fin.get (done (Create output ∷ (appends bs ++ Finish ∷ [])) (snapshot w p)).files z ≡ Some (joined bs)) (sym same) there)
        where
          absurd_by : None ≡ Some (joined bs) → ⊥
          absurd_by e = cc

      abbrev t : Snapshot
      t = apply (Create name) (apply Finish s)

      files_are : v.files ≡ (done (appends lines) t).files
      files_are = all_of (Finish ∷ Create name ∷ (appends lines ++ Finish ∷ [])) is ∙ ap (λ (z : Snapshot). z.files) (done_append (appends lines) (Finish ∷ []) t)

      output_stays : file v output ≡ Some (joined bs)
      output_stays = ap (λ f. fin.get f output) files_are ∙ appended_elsewhere name output lines t refl apart ∙ elsewhere s.files name output [] apart ∙ written

      table_written : file v name ≡ Some (joined lines)
      table_written = ap (λ f. fin.get f name) files_are ∙ appended name lines t [] refl (is_there s.files name [])

  output_by : (o : Option (List ℕ)) (dictionary : List (List ℕ)) (x : List ℕ) (bs : List (List ℕ)) (w v : World) (p q : Option (List ℕ)) (e : End) (d : AllDone (plan_after (masking_rule g m output table) [] (Some x)) e (snapshot w p) (snapshot v q))
      → effects (plan_after (masking_rule g m output table) [] (Some x)).steps ≡ Create output ∷ (appends bs ++ Finish ∷ table_effects o dictionary)
      → (file v output ≡ Some (joined bs)) × IfSome o (λ name. file v name ≡ Some (joined (table_lines 1 dictionary)))
  output_by None dictionary x bs w v p q e d is = (only_finish x bs w v p q e d is, tt)
  output_by (Some name) dictionary x bs w v p q e d is = (output_stays x bs w v p q e d name (table_lines 1 dictionary) is, table_written x bs w v p q e d name (table_lines 1 dictionary) is)

  some_end : (a b : End) → ◌≡◌ {A = Option End} (Some a) (Some b) → a ≡ b
  some_end a b e = cc

  pub made : (x : List ℕ) (w v : World) (p q : Option (List ℕ)) (e : End) → IsByChunks e → AllDone (plan_after (masking_rule g m output table) [] (Some x)) e (snapshot w p) (snapshot v q) → Made x e v
  made x w v p q e by d =
      let cs = (cut x 0 true).chunks in
      let l = walk (masking_rule g m output table) [] cs (cut x 0 true).flaw in
      let end_is : l.end ≡ e = some_end l.end e d.end in
      let h = walked [] cs (cut x 0 true).flaw (subst IsByChunks (sym end_is) by) in
      let bs = all_masked g m [] (before_refused refusal_of cs) in
      let steps : effects (plan_after (masking_rule g m output table) [] (Some x)).steps ≡ Create output ∷ (appends bs ++ h.last) = ap (λ es. Create output ∷ es) h.effects_are in
      record {
        holds = by_last x cs w v p q e d h.last h.others steps;
        fit = h.fit;
        in_table = λ is. (output_by table (dictionary_over g m [] cs) x bs w v p q e d (steps ∙ ap (λ es. Create output ∷ (appends bs ++ es)) (h.fine (end_is ∙ is)))).1;
      }
    where
      by_last : (x : List ℕ) (cs : List (List ℕ)) (w v : World) (p q : Option (List ℕ)) (e : End) → AllDone (plan_after (masking_rule g m output table) [] (Some x)) e (snapshot w p) (snapshot v q)
          → (last : List Effect) → (last ≡ []) ⊎ (last ≡ Finish ∷ table_effects table (dictionary_over g m [] cs))
          → effects (plan_after (masking_rule g m output table) [] (Some x)).steps ≡ Create output ∷ (appends (all_masked g m [] (before_refused refusal_of cs)) ++ last)
          → file v output ≡ Some (joined (all_masked g m [] (before_refused refusal_of cs)))
      by_last x cs w v p q e d last (inl none) is =
          nothing_last x (all_masked g m [] (before_refused refusal_of cs)) w v p q e d (is ∙ ap (λ es. Create output ∷ (appends (all_masked g m [] (before_refused refusal_of cs)) ++ es)) none)
      by_last x cs w v p q e d last (inr some) is =
          (output_by table (dictionary_over g m [] cs) x (all_masked g m [] (before_refused refusal_of cs)) w v p q e d
          (is ∙ ap (λ es. Create output ∷ (appends (all_masked g m [] (before_refused refusal_of cs)) ++ es)) some)).0
