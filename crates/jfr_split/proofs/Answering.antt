-- What joining promises of each of its answers, from what it leaves and from the counts.
use Rattle.std.proofs.Common.{IsSome, ◌≡◌, ◌≢◌, ℕ, refl, sym, subst, List, [], ◌∷◌, ◌++◌, Option, None, Some, append-nil}
use Rattle.std.specs.FinMap as fin
use Rattle.jfr_base.specs.declared.flaw.Flaw.{Flaw}
use Rattle.jfr_outside.specs.World.{World, IfKnown, file}
use Rattle.jfr_header.specs.declared.ending.Ending.{Ending}
use Rattle.jfr_header.specs.declared.ending.Ending.TheVariants.{WriteFault}
use Rattle.jfr_plan.specs.Ends.{End, Fine, Refused, TooMany, TooLong, NotWritten, command_end}
use Rattle.jfr_plan.specs.Effects.{Outside, Effect, Create, Append, Snapshot, Step, Plan, snapshot, apply, effects}
use Rattle.jfr_plan.specs.Rules.{File, walk, cut_after, plan_after}
use Rattle.jfr_plan.specs.Outcomes.{Breaks, Tallied}
use Rattle.jfr_plan.specs.Clauses.{Halted, Ran, CanCreate}
use Rattle.jfr_plan.proofs.Clauses.{ran, writes_clause, Cans, none_breaks}
use Rattle.jfr_plan.proofs.Walking.{effects_append}
use Rattle.jfr_split.specs.Clauses.{Unfinished, AfterFiles, joins}
use Rattle.jfr_split.specs.Joins.{adding, then_by, joining, joining_all, files_in, assembling}
use Rattle.jfr_split.proofs.Basics.{some_none, none_is, told_before, told_at}

told_none : (b a : Option World) (P : World → World → Type 0) → IsSome b → IfKnown b a P → ((w v : World) → P w v → ⊥) → ⊥
told_none None a P s t f = cc
told_none (Some w) None P s t f = absurd t
told_none (Some w) (Some v) P s t f = f w v t

-- All that joining promises follows from what it leaves and from the counts. On a steady place no read fails.
pub joined_so : (folder out : List ℕ) (e : Ending) (a b : Outside) → AfterFiles (assembling folder out) (command_end e) a b → Tallied File (command_end e) a b → Ran (joins folder out) e a b
joined_so folder out e a b t c = ran (joins folder out) e a b never t c
  where
    never : (x y : Outside) → (joins folder out).Readable x.place → Halted (joins folder out) x y → ⊥
    never x y can h =
        told_none x.place.contents y.place.contents (λ w v. Unfinished x.place.steady (effects (assembling folder out w.files).steps) (snapshot w x.sink.written) (snapshot v y.sink.written)) can.1 h
        (λ w v u. u.cause can.0)

module _ (out : List ℕ) where
  -- These effects can be done wherever this output is open.
  abbrev CanGrow : List Effect → Type 0
  CanGrow es = (s : Snapshot) → s.output ≡ Some out → Cans es s

  walk_can : (before cs : List (List ℕ)) (flaw : Option Flaw) (later : List Effect) → CanGrow later → CanGrow (effects (walk adding before cs flaw).steps ++ later)
  walk_can before [] None later f s o = f s o
  walk_can before [] (Some x) later f s o = f s o
  walk_can before (c ∷ cs) flaw later f s o = (some_none s.output out o, walk_can (before ++ c ∷ []) cs flaw later f (apply (Append c) s) o)

  then_can : (ss : List Step) (o : Option End) (later : Plan) → ((es : List Effect) → CanGrow es → CanGrow (effects ss ++ es)) → CanGrow (effects later.steps)
      → CanGrow (effects (then_by o (record { steps = ss; end = o }) later).steps)
  then_can ss (Some Fine) later f k = subst (λ (es : List Effect). CanGrow es) (sym (effects_append ss later.steps)) (f (effects later.steps) k)
  then_can ss (Some (Refused r)) later f k = subst (λ (es : List Effect). CanGrow es) (append-nil (effects ss)) (f [] (λ t o. tt))
  then_can ss (Some TooMany) later f k = subst (λ (es : List Effect). CanGrow es) (append-nil (effects ss)) (f [] (λ t o. tt))
  then_can ss (Some (TooLong n)) later f k = subst (λ (es : List Effect). CanGrow es) (append-nil (effects ss)) (f [] (λ t o. tt))
  then_can ss None later f k = subst (λ (es : List Effect). CanGrow es) (append-nil (effects ss)) (f [] (λ t o. tt))

  joining_can : (earlier xs : List (List ℕ)) → CanGrow (effects (joining earlier xs).steps)
  joining_can earlier [] s o = (some_none s.output out o, tt)
  joining_can earlier (x ∷ xs) s o =
      let cuts = cut_after earlier x in
      then_can (plan_after adding earlier (Some x)).steps (plan_after adding earlier (Some x)).end (joining (earlier ++ cuts.chunks) xs) (λ es f. walk_can earlier cuts.chunks cuts.flaw es f)
      (joining_can (earlier ++ cuts.chunks) xs) s o

  all_can : (xs : List (List ℕ)) → CanGrow (effects (joining_all xs).steps)
  all_can [] s o = tt
  all_can (x ∷ xs) s o = joining_can [] (x ∷ xs) s o

no_write_fault : (folder out : List ℕ) (e : Ending) (a b : Outside) → CanCreate out a.place → AfterFiles (assembling folder out) (command_end e) a b → e ≡ WriteFault → ⊥
no_write_fault folder out e a b c t is =
    let h : AfterFiles (assembling folder out) NotWritten a b = subst (λ (y : Ending). AfterFiles (assembling folder out) (command_end y) a b) is t in
    told_at a.place.contents c.world (λ w. file w out ≡ None → w.output ≡ None → ⊥) c.contents
    (told_before a.place.contents b.place.contents (λ w v. Breaks a.place.steady (effects (assembling folder out w.files).steps) (snapshot w a.sink.written) (snapshot v b.sink.written))
    (λ w. file w out ≡ None → w.output ≡ None → ⊥) h
    (λ w v z new none.
    let s = snapshot w a.sink.written in
    let can : Cans (effects (assembling folder out w.files).steps) s = (λ y. none_is w.output none (y new), all_can out (fin.values (files_in folder w.files)) (apply (Create out) s) refl) in
    none_breaks (effects (assembling folder out w.files).steps) z.first z.rest z.failed s can z.parts (z.cause c.steady)))
    c.new c.closed

-- A steady place without an open output gives no write fault for a new name.
pub can_create : (folder out : List ℕ) (e : Ending) (a b : Outside) → AfterFiles (assembling folder out) (command_end e) a b → Tallied File (command_end e) a b → CanCreate out a.place
    → (e ≢ WriteFault) × (b.place.write_faults ≡ a.place.write_faults)
can_create folder out e a b t c can =
    let no = no_write_fault folder out e a b can t in
    (no, writes_clause File e a b c no)
