-- The files of a folder, joined one after another.
use Rattle.std.proofs.Common.{IfSome, ◌≡◌, ℕ, zero, suc, ◌+◌, ◌<◌, ◌≤◌, refl, sym, ◌∙◌, ap, subst, Bool, true, false, cond, List, [], ◌∷◌, ◌++◌, length, drop, map, Option, None, Some, unwrap_or, Result, Ok, Err, String, string_bytes, append_assoc, arith}
use Rattle.std.specs.FinMap as fin
use Rattle.std.specs.List.{list_any, AllByRecursion}
use Rattle.std.specs.declared.alloc.Global.{Global}
use Rattle.std.proofs.Math.ListN.{get_or}
use Rattle.std.proofs.lemmas.List.{drop_all}
use Rattle.jfr_base.specs.declared.flaw.Flaw.{Flaw}
use Rattle.jfr_outside.specs.World.{World, IfKnown, grown, file}
use Rattle.jfr_header.specs.declared.ending.Ending.{Ending}
use Rattle.jfr_header.specs.declared.ending.Ending.TheVariants as ending
use Rattle.jfr_header.specs.declared.ending.Ending.TheVariants.{Done, ReadFault, WriteFault, TooManyParts, MaskTooLong, Memory}
use Rattle.jfr_header.specs.Cuts.{Cuts}
use Rattle.jfr_plan.specs.Ends.{Fine, Refused, TooMany, TooLong, CommandEnd, Ends, NotRead, NotWritten, RanOut, command_end}
use Rattle.jfr_plan.specs.Effects.{Effect, Append, Finish, Snapshot, Plan, snapshot, apply, done, effects}
use Rattle.jfr_plan.specs.Rules.{Goes, walk, cut_after, plan_by, plan_after}
use Rattle.jfr_plan.specs.Outcomes.{AllDone, OutcomeIn, OutcomeOf}
use Rattle.jfr_plan.specs.Goings.{IsAt, IsPast}
use Rattle.jfr_plan.specs.Parts.{PartEnded, PartOutcome, PartWorld}
use Rattle.jfr_plan.proofs.EndsWell.{NeverStopsWell, plan_ends_well}
use Rattle.jfr_plan.proofs.Walking.{done_append}
use Rattle.jfr_split.specs.Clauses.{is_finish, FilesOutcome}
use Rattle.jfr_split.specs.Joins.{adding, plan_then, joining, CanJoin}
use Rattle.jfr_plan.proofs.Leaving.{goes_stops, some_more, breaks_more}
use Rattle.jfr_split.proofs.Over.{is, same_name, look}
use Rattle.jfr_split.proofs.Sorting.{bytes_of}
use Rattle.jfr_split.proofs.Rejoin.{appends, appends_append, adds, one_part}
use Rattle.jfr_split.proofs.Composing.{Follows, outcome_after, outcome_stops}
use Rattle.jfr_split.proofs.Halting.{file_outcome}

-- The first files were joined: these are their chunks, and the plan continues with the files after them.
pub record Joined (contents : List (List ℕ)) (i start number : ℕ) (s t : Snapshot) : Type 0 where
  pub earlier : List (List ℕ)
  pub at : IsAt earlier start number
  pub holds : t ≡ done (appends earlier) s
  pub steps : effects (joining [] contents).steps ≡ appends earlier ++ effects (joining earlier (drop i contents)).steps
  pub end : (joining [] contents).end ≡ (joining earlier (drop i contents)).end

-- The content of the file at a place.
record Found (f : List ℕ → Option (List ℕ)) (name : List ℕ) (contents : List (List ℕ)) (i : ℕ) : Type 0 where
  pub x : List ℕ
  pub is : f name ≡ Some x
  pub rest : drop i contents ≡ x ∷ drop (i + 1) contents

next_place : (x : List ℕ) (xs : List (List ℕ)) (i : ℕ) → drop (suc i + 1) (x ∷ xs) ≡ drop (i + 1) xs
next_place x xs i = let e : suc i + 1 ≡ suc (i + 1) = omega arith in ap (λ (k : ℕ). drop k (x ∷ xs)) e

found : (f : List ℕ → Option (List ℕ)) (ss : List (String Global)) (xs : List (List ℕ)) (i : ℕ) (d : String Global) → map f (bytes_of ss) ≡ map (λ x. Some x) xs → i < length ss
    → Found f (string_bytes (get_or ss i d)) xs i
found f [] xs i d e l = absurd (omega (arith, l))
found f (s ∷ ss) [] i d e l = cc
found f (s ∷ ss) (x ∷ xs) zero d e l = record { x = x; is = cc; rest = refl }
found f (s ∷ ss) (x ∷ xs) (suc i) d e l =
    let later : map f (bytes_of ss) ≡ map (λ x. Some x) xs = cc in
    let h = found f ss xs i d later (omega (arith, l)) in
    record { x = h.x; is = h.is; rest = h.rest ∙ ap (λ (y : List (List ℕ)). h.x ∷ y) (sym (next_place x xs i)) }

each_at : (P : List ℕ → Type 0) (ss : List (String Global)) (i : ℕ) (d : String Global) → AllByRecursion P (bytes_of ss) → i < length ss → P (string_bytes (get_or ss i d))
each_at P [] i d h l = absurd (omega (arith, l))
each_at P (s ∷ ss) zero d h l = h.0
each_at P (s ∷ ss) (suc i) d h l = each_at P ss i d h.1 (omega (arith, l))

-- The files beside the output stay.
other_files : (cs : List (List ℕ)) (out q : List ℕ) (s : Snapshot) → s.output ≡ Some out → is q out ≡ false → fin.get (done (appends cs) s).files q ≡ fin.get s.files q
other_files [] out q s o n = refl
other_files (c ∷ cs) out q s o n =
    other_files cs out q (apply (Append c) s) o n
    ∙ ap (λ (x : Option (List ℕ)). fin.get (grown x c s.files) q) o
    ∙ look s.files out (unwrap_or (fin.get s.files out) [] ++ c) q
    ∙ ap (λ (x : Bool). cond x (Some (unwrap_or (fin.get s.files out) [] ++ c)) (fin.get s.files q)) n

apart_by : (b : Bool) (q out : List ℕ) → is q out ≡ b → (q ≡ out → ⊥) → b ≡ false
apart_by true q out e n = absurd (n (same_name q out e))
apart_by false q out e n = refl

-- A file that isn't the output is as it was.
still_there : (out q x : List ℕ) (cs : List (List ℕ)) (w v : World) → w.output ≡ Some out → (q ≡ out → ⊥) → file w q ≡ Some x → snapshot v None ≡ done (appends cs) (snapshot w None)
    → file v q ≡ Some x
still_there out q x cs w v o n e k = ap (λ (s : Snapshot). fin.get s.files q) k ∙ other_files cs out q (snapshot w None) o (apart_by (is q out) q out refl n) ∙ e

appends_finish : (cs : List (List ℕ)) → list_any is_finish (appends cs) ≡ false
appends_finish [] = refl
appends_finish (c ∷ cs) = appends_finish cs

pub never_fine : NeverStopsWell adding
never_fine before c e = cc

-- A file that was joined well has no flaw.
flawless : (earlier : List (List ℕ)) (x : List ℕ) → (plan_after adding earlier (Some x)).end ≡ Some Fine → cut_after earlier x ≡ record { chunks = (cut_after earlier x).chunks; flaw = None }
flawless earlier x e =
    let all = cut_after earlier x in
    let g = (plan_ends_well adding earlier x never_fine).0 e in
    ap (λ (f : Option Flaw). let cuts : Cuts = record { chunks = all.chunks; flaw = f } in cuts) g.0

added : (earlier cs : List (List ℕ)) (x : List ℕ) → cut_after earlier x ≡ record { chunks = cs; flaw = None } → effects (plan_after adding earlier (Some x)).steps ≡ appends cs
added earlier cs x e = ap (λ (y : Cuts). effects (plan_by adding (walk adding earlier y.chunks y.flaw)).steps) e ∙ (adds earlier cs).steps

-- One file more was joined.
next_file : (contents : List (List ℕ)) (i start number start' number' : ℕ) (x : List ℕ) (s t u : Snapshot) → (j : Joined contents i start number s t) → drop i contents ≡ x ∷ drop (i + 1) contents
    → AllDone (plan_after adding j.earlier (Some x)) Fine t u → IsAt (j.earlier ++ (cut_after j.earlier x).chunks) start' number' → Joined contents (i + 1) start' number' s u
next_file contents i start number start' number' x s t u j rest d at =
    let cs = (cut_after j.earlier x).chunks in
    let later = joining (j.earlier ++ cs) (drop (i + 1) contents) in
    let whole = flawless j.earlier x d.end in
    let f : Follows (plan_after adding j.earlier (Some x)) later (appends cs) = one_part j.earlier x cs later whole in
    let e : effects (plan_after adding j.earlier (Some x)).steps ≡ appends cs = added j.earlier cs x whole in
    record {
      earlier = j.earlier ++ cs;
      at = at;
      holds = d.holds ∙ ap (λ (es : List Effect). done es t) e ∙ ap (done (appends cs)) j.holds ∙ sym (done_append (appends j.earlier) (appends cs) s)
          ∙ ap (λ (es : List Effect). done es s) (sym (appends_append j.earlier cs));
      steps = j.steps ∙ ap (λ (xs : List (List ℕ)). appends j.earlier ++ effects (joining j.earlier xs).steps) rest ∙ ap (λ (es : List Effect). appends j.earlier ++ es) f.steps
          ∙ sym (append_assoc (appends j.earlier) (appends cs) (effects later.steps)) ∙ ap (λ (es : List Effect). es ++ effects later.steps) (sym (appends_append j.earlier cs));
      end = j.end ∙ ap (λ (xs : List (List ℕ)). (joining j.earlier xs).end) rest ∙ f.end;
    }

-- A file that ended the run.
last_file : (steady : Bool) (contents : List (List ℕ)) (i start number : ℕ) (x : List ℕ) (ended : CommandEnd) (s t u : Snapshot) → (j : Joined contents i start number s t)
    → drop i contents ≡ x ∷ drop (i + 1) contents → (ended ≡ Ends Fine → ⊥) → FilesOutcome steady (plan_after adding j.earlier (Some x)) ended t u → FilesOutcome steady (joining [] contents) ended s u
last_file steady contents i start number x ended s t u j rest n h =
    let later = joining (j.earlier ++ (cut_after j.earlier x).chunks) (drop (i + 1) contents) in
    outcome_after steady (appends j.earlier) (joining [] contents) (plan_then (plan_after adding j.earlier (Some x)) later) ended s t u
    (j.steps ∙ ap (λ (xs : List (List ℕ)). appends j.earlier ++ effects (joining j.earlier xs).steps) rest)
    (j.end ∙ ap (λ (xs : List (List ℕ)). (joining j.earlier xs).end) rest)
    (appends_finish j.earlier) j.holds (outcome_stops steady (plan_after adding j.earlier (Some x)) later ended t u n h)

-- The first files were joined, between the known states before and after.
abbrev pub JoinedFrom : List (List ℕ) → ℕ → ℕ → ℕ → Option World → Option World → Type 0
JoinedFrom contents i start number b a = IfKnown b a (λ w v. Joined contents i start number (snapshot w None) (snapshot v None))

-- No file was joined yet.
pub joined_none : (b : Option World) (contents : List (List ℕ)) (start number : ℕ) → start ≡ 0 → number ≡ 1 → JoinedFrom contents 0 start number b b
joined_none None contents start number e f = tt
joined_none (Some w) contents start number e f = record { earlier = []; at = (e, f); holds = refl; steps = refl; end = refl }

-- A clause on each way between two places.
abbrev pub JoinedSo : Bool → List (List ℕ) → CommandEnd → Option World → Option World → Type 0
JoinedSo steady contents ended b a = IfKnown b a (λ w v. FilesOutcome steady (joining [] contents) ended (snapshot w None) (snapshot v None))

module _ (out : List ℕ) (ss : List (String Global)) (contents : List (List ℕ)) (i start number : ℕ) (d : String Global) where
  -- One file more, if it was joined well.
  pub file_joined : (steady : Bool) (b a e : Option World) (start' number' : ℕ) (name : List ℕ) → i < length ss → name ≡ string_bytes (get_or ss i d) → IfSome b (CanJoin out (bytes_of ss) contents)
      → JoinedFrom contents i start number b a
      → ((earlier : List (List ℕ)) → IsAt earlier start number → IfKnown a e (OutcomeOf steady adding earlier name None None (Ends Fine)))
      → ((earlier : List (List ℕ)) → IsAt earlier start number → IfSome a (IsPast (λ _. Unit {0}) earlier name start' number'))
      → JoinedFrom contents (i + 1) start' number' b e
  file_joined steady None a e start' number' name l n can j f g = tt
  file_joined steady (Some w) None e start' number' name l n can j f g = absurd j
  file_joined steady (Some w) (Some v) None start' number' name l n can j f g = absurd (f j.earlier j.at)
  file_joined steady (Some w) (Some v) (Some u) start' number' name l n can j f g =
      let h = found (file w) ss contents i d can.held l in
      let apart : string_bytes (get_or ss i d) ≡ out → ⊥ = each_at (λ x. x ≡ out → ⊥) ss i d can.apart l in
      let is : file v name ≡ Some h.x = ap (file v) n ∙ still_there out (string_bytes (get_or ss i d)) h.x j.earlier w v can.opened apart h.is j.holds in
      let all : OutcomeIn steady adding j.earlier (Some h.x) u.input (Ends Fine) (snapshot v None) (snapshot u None) =
      subst (λ (o : Option (List ℕ)). OutcomeIn steady adding j.earlier o u.input (Ends Fine) (snapshot v None) (snapshot u None)) is (f j.earlier j.at) in
      let past : IfSome (Some h.x) (λ x. Unit {0} × IsAt (j.earlier ++ (cut_after j.earlier x).chunks) start' number') =
      subst (λ (o : Option (List ℕ)). IfSome o (λ x. Unit {0} × IsAt (j.earlier ++ (cut_after j.earlier x).chunks) start' number')) is (g j.earlier j.at) in
      next_file contents i start number start' number' h.x (snapshot w None) (snapshot v None) (snapshot u None) j h.rest all past.1

  -- The run ended with this file.
  pub file_ended : (steady : Bool) (b a e : Option World) (ended : CommandEnd) (name : List ℕ) → i < length ss → name ≡ string_bytes (get_or ss i d) → (ended ≡ Ends Fine → ⊥)
      → IfSome b (CanJoin out (bytes_of ss) contents) → JoinedFrom contents i start number b a
      → ((earlier : List (List ℕ)) → IsAt earlier start number → IfKnown a e (OutcomeOf steady adding earlier name None None ended))
      → JoinedSo steady contents ended b e
  file_ended steady None a e ended name l n other can j f = tt
  file_ended steady (Some w) None e ended name l n other can j f = absurd j
  file_ended steady (Some w) (Some v) None ended name l n other can j f = absurd (f j.earlier j.at)
  file_ended steady (Some w) (Some v) (Some u) ended name l n other can j f =
      let h = found (file w) ss contents i d can.held l in
      let apart : string_bytes (get_or ss i d) ≡ out → ⊥ = each_at (λ x. x ≡ out → ⊥) ss i d can.apart l in
      let is : file v name ≡ Some h.x = ap (file v) n ∙ still_there out (string_bytes (get_or ss i d)) h.x j.earlier w v can.opened apart h.is j.holds in
      let all : OutcomeIn steady adding j.earlier (Some h.x) u.input ended (snapshot v None) (snapshot u None) =
      subst (λ (o : Option (List ℕ)). OutcomeIn steady adding j.earlier o u.input ended (snapshot v None) (snapshot u None)) is (f j.earlier j.at) in
      last_file steady contents i start number h.x ended (snapshot w None) (snapshot v None) (snapshot u None) j h.rest other
      (file_outcome steady j.earlier h.x u.input ended (snapshot v None) (snapshot u None) all)

-- A part of the plan that ended the run.
pub part_ended : (steady : Bool) (es later : List Effect) (all : Plan) (ended : CommandEnd) (s t : Snapshot) → effects all.steps ≡ es ++ later → PartEnded steady (Goes es) ended s t
    → FilesOutcome steady all ended s t
part_ended steady es later all (Ends Fine) s t e h = absurd h
part_ended steady es later all (Ends (Refused r)) s t e h = absurd (goes_stops es (Refused r) h.0)
part_ended steady es later all (Ends TooMany) s t e h = absurd (goes_stops es TooMany h.0)
part_ended steady es later all (Ends (TooLong n)) s t e h = absurd (goes_stops es (TooLong n) h.0)
part_ended steady es later all NotRead s t e h = absurd h
part_ended steady es later all NotWritten s t e h = breaks_more steady es later (effects all.steps) s t e h
part_ended steady es later all RanOut s t e h = some_more es later (effects all.steps) s t e h

nothing_left : (f : List ℕ → Option (List ℕ)) (ss : List (String Global)) (xs : List (List ℕ)) (i : ℕ) → map f (bytes_of ss) ≡ map (λ x. Some x) xs → length ss ≤ i → drop i xs ≡ []
nothing_left f [] [] i e l = drop_all i [] (omega arith)
nothing_left f [] (x ∷ xs) i e l = cc
nothing_left f (s ∷ ss) [] i e l = cc
nothing_left f (s ∷ ss) (x ∷ xs) zero e l = absurd (omega (arith, l))
nothing_left f (s ∷ ss) (x ∷ xs) (suc i) e l = let later : map f (bytes_of ss) ≡ map (λ x. Some x) xs = cc in nothing_left f ss xs i later (omega (arith, l))

-- The way of the part at the end.
abbrev pub way_at_end : Result (Unit {0}) Ending → CommandEnd
way_at_end (Ok o) = Ends Fine
way_at_end (Err e) = command_end e

finished_so : (steady : Bool) (result : Result (Unit {0}) Ending) (s t : Snapshot) → PartOutcome steady (Goes (Finish ∷ [])) result s t → FilesOutcome steady (joining [] []) (way_at_end result) s t
finished_so steady (Ok o) s t h = record { end = refl; holds = h.1 }
finished_so steady (Err e) s t h = part_ended steady (Finish ∷ []) [] (joining [] []) (command_end e) s t refl h

finish_all : (steady : Bool) (contents : List (List ℕ)) (i start number : ℕ) (result : Result (Unit {0}) Ending) (s t u : Snapshot) → Joined contents i start number s t → drop i contents ≡ []
    → PartOutcome steady (Goes (Finish ∷ [])) result t u → FilesOutcome steady (joining [] contents) (way_at_end result) s u
finish_all steady contents i start number result s t u j none h =
    outcome_after steady (appends j.earlier) (joining [] contents) (joining j.earlier []) (way_at_end result) s t u
    (j.steps ∙ ap (λ (xs : List (List ℕ)). appends j.earlier ++ effects (joining j.earlier xs).steps) none)
    (j.end ∙ ap (λ (xs : List (List ℕ)). (joining j.earlier xs).end) none)
    (appends_finish j.earlier) j.holds (finished_so steady result t u h)

-- All files were joined, and the output was to be finished.
pub files_ended : (steady : Bool) (out : List ℕ) (ss : List (String Global)) (contents : List (List ℕ)) (i start number : ℕ) (result : Result (Unit {0}) Ending) (b a e : Option World) → length ss ≤ i
    → IfSome b (CanJoin out (bytes_of ss) contents) → JoinedFrom contents i start number b a → IfKnown a e (PartWorld steady (Goes (Finish ∷ [])) result None None)
    → JoinedSo steady contents (way_at_end result) b e
files_ended steady out ss contents i start number result None a e l can j f = tt
files_ended steady out ss contents i start number result (Some w) None e l can j f = absurd j
files_ended steady out ss contents i start number result (Some w) (Some v) None l can j f = absurd f
files_ended steady out ss contents i start number result (Some w) (Some v) (Some u) l can j f =
    finish_all steady contents i start number result (snapshot w None) (snapshot v None) (snapshot u None) j (nothing_left (file w) ss contents i can.held l) f.1

-- The only ending with a good end is `Done`.
pub fine_done : (e : Ending) → command_end e ≡ Ends Fine → e ≡ Done
fine_done Done h = refl
fine_done (ending.Refused r) h = cc
fine_done ReadFault h = cc
fine_done WriteFault h = cc
fine_done TooManyParts h = cc
fine_done (MaskTooLong n) h = cc
fine_done Memory h = cc
