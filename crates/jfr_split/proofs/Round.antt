-- A recording comes back from its parts.
use Rattle.std.proofs.Common.{◌≡◌, ℕ, ◌+◌, ◌^◌, ◌<◌, refl, sym, ◌∙◌, ap, subst, Bool, true, false, cond, ◌&&◌, T, nat_le, ◌==◌, List, [], ◌∷◌, ◌++◌, length, map, Option, None, Some, append_assoc, append-nil, leb→le, if◌then◌else◌, arith}
use Rattle.std.proofs.lemmas.Bool.{leb-false}
use Rattle.std.specs.Prelude.{is_some}
use Rattle.std.specs.FinMap as fin
use Rattle.std.specs.FinMap.{find, slice_cmp-IsAntisymmetric, nat_cmp-IsAntisymmetric, same_map, get-from_sorted, entries-from_sorted, get-empty}
use Rattle.std.specs.Cmp.Lexicographic.{nat_list_cmp_total}
use Rattle.jfr_base.specs.declared.flaw.Flaw.{Flaw}
use Rattle.jfr_outside.specs.World.{Files}
use Rattle.jfr_header.specs.Fronts.{Front, Bad, Chunk, front, Whole}
use Rattle.jfr_header.specs.Fronts as fronts
use Rattle.jfr_header.specs.Cuts.{joined, AreCut}
use Rattle.jfr_header.proofs.Steps.{front_end, front_long, front_none}
use Rattle.jfr_header.proofs.CutLaws.{are_cut, all_whole, joined_all}
use Rattle.std.specs.List.{AllByRecursion}
use Rattle.jfr_plan.specs.Ends.{Fine, TooMany}
use Rattle.jfr_plan.specs.Effects.{Effect, Create, Append, Finish, Snapshot, Plan, AtEnd, needing, apply, done, effects}
use Rattle.jfr_plan.specs.Rules.{Stops, Goes, Asked, gone, cut_after, plan_after}
use Rattle.jfr_plan.proofs.EndsWell.{NeverStopsWell, plan_ends_well}
use Rattle.jfr_plan.proofs.Walking.{from_here, done_append}
use Rattle.jfr_split.specs.Parts.{SplitRule, IsUsable, Part, folder_of, no_part, begins, part_of}
use Rattle.jfr_split.specs.Names.{part_name, is_joined}
use Rattle.jfr_split.specs.Splits.{closing, asks_part, splitting_as}
use Rattle.jfr_split.specs.Joins.{files_in, joining_all}
use Rattle.jfr_split.specs.Laws.{split_plan, split, Returns}
use Rattle.jfr_split.proofs.Fold.{groups_flat, groups, of_none}
use Rattle.jfr_split.proofs.Ordered.{order}
use Rattle.jfr_split.proofs.Naming.{part_joined}
use Rattle.jfr_split.proofs.Over.{Entries, is, over, numbered, sorted_numbered, same_name, is_self, look}
use Rattle.jfr_split.proofs.Filling.{filling, AllFit, gone_filling, all_fit, all_within, filled, all_full, holds, grown_at}
use Rattle.jfr_split.proofs.Creating.{rises}
use Rattle.jfr_split.proofs.Assembled.{kept_at}
use Rattle.jfr_split.proofs.Rejoin.{Early, appends, rejoins}

never_new : (b : Bool) (es : List Effect) → ◌≡◌ {A = Asked} (if b then Stops TooMany else Goes es) (Stops Fine) → ⊥
never_new true es e = cc
never_new false es e = cc

never_by : (rule : SplitRule) (name : ℕ → List ℕ) (b : Bool) (p : Part) (c : List ℕ) → asks_part rule name b p c ≡ Stops Fine → ⊥
never_by rule name true p c e = never_new (nat_le rule.max_parts p.number) (closing p ++ Create (name (p.number + 1)) ∷ Append c ∷ []) e
never_by rule name false p c e = cc

pub never : (rule : SplitRule) (name : ℕ → List ℕ) → NeverStopsWell (splitting_as rule name)
never rule name before c e = never_by rule name (begins rule (part_of rule before) c) (part_of rule before) c e

-- The last part is finished, and no file changes.
closed_files : (b : Bool) (s : Snapshot) → (done (effects (needing AtEnd (if b then [] else Finish ∷ []))) s).files ≡ s.files
closed_files true s = refl
closed_files false s = refl

pub record WholeSplit (rule : SplitRule) (name : ℕ → List ℕ) (x : List ℕ) (s : Snapshot) : Type 0 where
  pub chunks : List (List ℕ)
  pub are : AreCut chunks None x 0 true
  pub fit : AllFit rule name no_part chunks
  pub files : (done (effects (plan_after (splitting_as rule name) [] (Some x)).steps) s).files ≡ (done (filling rule name no_part chunks) s).files

-- Where the plan ends well, the parts are filled with all chunks.
pub whole_parts : (rule : SplitRule) (name : ℕ → List ℕ) (x : List ℕ) (s : Snapshot) → (plan_after (splitting_as rule name) [] (Some x)).end ≡ Some Fine → WholeSplit rule name x s
whole_parts rule name x s e =
    let r = splitting_as rule name in
    let all = cut_after [] x in
    let g = (plan_ends_well r [] x (never rule name)).0 e in
    let f = from_here r [] x all.chunks [] None (sym (append-nil all.chunks)) g.0 g.1 in
    let t = done (gone r [] all.chunks) s in
    let k : gone r [] all.chunks ≡ filling rule name no_part all.chunks = gone_filling rule name [] all.chunks ∙ ap (λ (p : Part). filling rule name p all.chunks) (of_none rule) in
    record {
      chunks = all.chunks;
      are = subst (λ (o : Option Flaw). AreCut all.chunks o x 0 true) g.0 (are_cut x 0 true);
      fit = subst (λ (p : Part). AllFit rule name p all.chunks) (of_none rule) (all_fit rule name [] all.chunks g.1);
      files = ap (λ (es : List Effect). (done es s).files) f.steps
          ∙ ap (λ (y : Snapshot). y.files) (done_append (gone r [] all.chunks) (effects (needing AtEnd (closing (part_of rule all.chunks)))) s)
          ∙ closed_files ((part_of rule all.chunks).number == 0) t ∙ ap (λ (es : List Effect). (done es s).files) k;
    }

chunk_end : (c : List ℕ) → Chunk c ≡ fronts.End → ⊥
chunk_end c e = cc

chunk_bad : (c : List ℕ) (f : Flaw) → Chunk c ≡ Bad f → ⊥
chunk_bad c f e = cc

end_bad : (f : Flaw) → fronts.End ≡ Bad f → ⊥
end_bad f e = cc

starts_by : (b : Bool) (x c : List ℕ) (s : ℕ) (f : Bool) → nat_le (2 ^ 40) s ≡ b → front x s f ≡ Chunk c → s < 2 ^ 40
starts_by false x c s f k e = leb-false (2 ^ 40) s k
starts_by true [] c s true k e = absurd (chunk_bad c _ (sym e ∙ front_none s))
starts_by true [] c s false k e = absurd (chunk_end c (sym e ∙ front_end s))
starts_by true (b ∷ x) c s f k e = absurd (chunk_bad c _ (sym e ∙ front_long (b ∷ x) s f (omega arith) (leb→le (2 ^ 40) s (subst T (sym k) tt))))

early : (cs : List (List ℕ)) (x : List ℕ) (s : ℕ) (f : Bool) → AreCut cs None x s f → AllByRecursion Whole cs → Early s cs
early [] x s f a w = tt
early (c ∷ cs) x s f a w = (w.0, starts_by (nat_le (2 ^ 40) s) x c s f refl a.0, early cs _ (s + length c) false a.1 w.1)

-- Entries under names that all pass, over what has none.
seen_by : (p : List ℕ → Bool) (es : Entries) (q k v : List ℕ) (o : Option (List ℕ)) (b : Bool) → is q k ≡ b → p k ≡ true → cond (p q) (over es q o) None ≡ find order q es
    → cond (p q) (cond b (Some v) (over es q o)) None ≡ cond b (Some v) (find order q es)
seen_by p es q k v o true e h i = ap (λ (y : Bool). cond y (Some v) None) (ap p (same_name q k e) ∙ h)
seen_by p es q k v o false e h i = i

seen : (p : List ℕ → Bool) (name : ℕ → List ℕ) (n : ℕ) (gs : List (List (List ℕ))) (q : List ℕ) (o : Option (List ℕ)) → ((m : ℕ) → p (name m) ≡ true) → cond (p q) o None ≡ None
    → cond (p q) (over (numbered name n gs) q o) None ≡ find order q (numbered name n gs)
seen p name n [] q o h e = e
seen p name n (g ∷ gs) q o h e = seen_by p (numbered name (n + 1) gs) q (name n) (joined g) o (is q (name n)) refl (h n) (seen p name (n + 1) gs q o h e)

held : (name : ℕ → List ℕ) (n : ℕ) (gs : List (List (List ℕ))) → map (λ (e : List ℕ × List ℕ). e.1) (numbered name n gs) ≡ map joined gs
held name n [] = refl
held name n (g ∷ gs) = ap (λ (l : List (List ℕ)). joined g ∷ l) (held name (n + 1) gs)

-- The folder then has the parts.
values_are : (rule : SplitRule) (folder file : List ℕ) (cs : List (List ℕ)) (s : Snapshot) (files : Files) → IsUsable rule → files_in folder s.files ≡ fin.empty
    → AllFit rule (part_name (Some folder) file) no_part cs → files ≡ (done (filling rule (part_name (Some folder) file) no_part cs) s).files
    → fin.values (files_in folder files) ≡ map joined (groups rule cs)
values_are rule folder file cs s files m h f e =
    let name = part_name (Some folder) file in
    let rise = rises rule (Some folder) file m in
    let es = numbered name 1 (groups rule cs) in
    let k = all_within rule name no_part cs f (omega arith) in
    let sorted = sorted_numbered name rule.max_parts 1 (groups rule cs) rise (omega (arith, k)) in
    let none : (q : List ℕ) → cond (is_joined folder q) (fin.get s.files q) None ≡ None = λ q. sym (kept_at folder s.files q) ∙ ap (λ (x : Files). fin.get x q) h ∙ get-empty order q in
    let at : (q : List ℕ) → fin.get (files_in folder files) q ≡ fin.get (fin.from_sorted {R = order} es) q = λ q.
    kept_at folder files q ∙ ap (λ (x : Files). cond (is_joined folder q) (fin.get x q) None) e ∙ ap (λ (o : Option (List ℕ)). cond (is_joined folder q) o None) (filled rule name cs rise f s q)
    ∙ seen (is_joined folder) name 1 (groups rule cs) q (fin.get s.files q) (part_joined folder file) (none q) ∙ sym (get-from_sorted order es q sorted) in
    let same : files_in folder files ≡ fin.from_sorted es = same_map nat_list_cmp_total (slice_cmp-IsAntisymmetric nat_cmp-IsAntisymmetric) (files_in folder files) (fin.from_sorted es) at in
    ap (λ (x : Files). fin.values x) same ∙ ap (λ (x : Entries). map (λ (y : List ℕ × List ℕ). y.1) x) (entries-from_sorted order es sorted) ∙ held name 1 (groups rule cs)

-- The chunks are appended to an output.
all_appended : (cs : List (List ℕ)) (out b : List ℕ) (s : Snapshot) → s.output ≡ Some out → fin.get s.files out ≡ Some b
    → fin.get (done (appends cs ++ Finish ∷ []) s).files out ≡ Some (b ++ joined cs)
all_appended [] out b s o h = h ∙ ap (λ (x : List ℕ). Some x) (sym (append-nil b))
all_appended (c ∷ cs) out b s o h =
    let t : Snapshot = holds (fin.insert s.files out (b ++ c)) (Some out) s.text (s.sound && is_some s.output) in
    let at : fin.get t.files out ≡ Some (b ++ c) = look s.files out (b ++ c) out ∙ ap (λ (x : Bool). cond x (Some (b ++ c)) (fin.get s.files out)) (is_self out) in
    ap (λ (x : Snapshot). fin.get (done (appends cs ++ Finish ∷ []) x).files out) (grown_at s out b c o h) ∙ all_appended cs out (b ++ c) t refl at
    ∙ ap (λ (x : List ℕ). Some x) (append_assoc b c (joined cs))

record Joins (vs : List (List ℕ)) (cs : List (List ℕ)) : Type 0 where
  pub end : (joining_all vs).end ≡ Some Fine
  pub steps : effects (joining_all vs).steps ≡ appends cs ++ Finish ∷ []

joins_parts : (rule : SplitRule) (cs : List (List ℕ)) (x : List ℕ) → AreCut cs None x 0 true → Joins (map joined (groups rule cs)) cs
joins_parts rule [] x a = absurd (end_bad _ (sym a ∙ ap (λ (y : List ℕ). front y 0 true) (sym (joined_all [] x 0 true a)) ∙ front_none 0))
joins_parts rule (c ∷ cs) x a =
    let all = c ∷ cs in
    let whole = all_whole all None x 0 true a in
    let r = rejoins [] (groups rule all) (all_full rule no_part all) (subst (λ (y : List (List ℕ)). Early 0 y) (sym (groups_flat rule all)) (early all x 0 true a whole)) in
    record { end = r.end; steps = r.steps ∙ ap (λ (y : List (List ℕ)). appends y ++ Finish ∷ []) (groups_flat rule all) }

pub returns : (rule : SplitRule) (folder file out x : List ℕ) (s : Snapshot) → IsUsable rule → folder_of rule ≡ Some folder → files_in folder s.files ≡ fin.empty
    → (split_plan rule file x).end ≡ Some Fine → Returns folder out x (split rule file x s)
returns rule folder file out x s m into h e =
    let name = part_name (Some folder) file in
    let as_named : split_plan rule file x ≡ plan_after (splitting_as rule name) [] (Some x) = ap (λ (o : Option (List ℕ)). plan_after (splitting_as rule (part_name o file)) [] (Some x)) into in
    let w = whole_parts rule name x s (sym (ap (λ (p : Plan). p.end) as_named) ∙ e) in
    let t = split rule file x s in
    let v = values_are rule folder file w.chunks s t.files m h w.fit (ap (λ (p : Plan). (done (effects p.steps) s).files) as_named ∙ w.files) in
    let j : Joins (fin.values (files_in folder t.files)) w.chunks = subst (λ (y : List (List ℕ)). Joins y w.chunks) (sym v) (joins_parts rule w.chunks x w.are) in
    let u = apply (Create out) t in
    let at : fin.get u.files out ≡ Some [] = look t.files out [] out ∙ ap (λ (y : Bool). cond y (Some []) (fin.get t.files out)) (is_self out) in
    record {
      end = j.end;
      is = ap (λ (es : List Effect). fin.get (done es u).files out) j.steps ∙ all_appended w.chunks out [] u refl at ∙ ap (λ (y : List ℕ). Some y) (joined_all w.chunks x 0 true w.are);
    }
