-- The clauses of the cutter, each from the one on its answer.
use Rattle.std.proofs.Common.{◌≡◌, ℕ, ◌≤◌, ◌<◌, sym, ◌∙◌, ap, true, List, [], ◌++◌, length, Option, None, Some, IfSome, arith}
use Rattle.jfr_outside.specs.World.{World, IfKnown}
use Rattle.jfr_header.specs.Fronts.{reach}
use Rattle.jfr_header.specs.Cutters.{Cutter}
use Rattle.jfr_header.specs.Taking.{Took, Takes, IsKept}
use Rattle.jfr_header.specs.Nexts.{CutOf, NextOf, ahead_of, answer_to, IsDue, IfRefused, is_header}
use Rattle.jfr_header.specs.declared.cutter.Cut.{Cut}
use Rattle.jfr_header.specs.declared.cutter.Cut.TheVariants.{Chunk, End, Refused, Failed, Memory}
use Rattle.jfr_header.proofs.Steps.{map_known, some_at, all_some, reach_least, whole_reach, split, some_ahead, same_some}

decided : (r : Cut) (old new : Cutter) (w v : World) → CutOf r old new → NextOf r old new w v → IfSome w.input (λ rest. IsDue r (answer_to old.number (ahead_of old rest)))
decided Chunk old new w v c n = some_at w.input n.rest _ n.input (sym (ap (answer_to old.number) n.is))
decided End old new w v c n = some_at w.input n.rest _ n.input (sym (ap (answer_to old.number) n.is))
decided (Refused r) old new w v c n =
    some_at w.input n.found.rest _ n.found.input (ap (λ (k : ℕ). Refused (record { chunk = k; offset = r.offset; reason = r.reason })) c.0 ∙ sym (ap (answer_to old.number) n.found.is))
decided Failed old new w v c n = all_some w.input _ (λ rest. tt)
decided Memory old new w v c n = all_some w.input _ (λ rest. tt)

-- The front of what is left decides.
pub decides : (r : Cut) (old new : Cutter) (b a : Option World) → CutOf r old new → IfKnown b a (NextOf r old new)
    → IfSome b (λ w. IfSome w.input (λ rest. IsDue r (answer_to old.number (ahead_of old rest))))
decides r old new None a c t = tt
decides r old new (Some w) None c t = absurd t
decides r old new (Some w) (Some v) c t = decided r old new w v c t

-- A chunk was taken, and nothing else.
pub taken : (r : Cut) (old new : Cutter) (b a : Option World) → IfKnown b a (NextOf r old new) → r ≡ Chunk → IfKnown b a (Took new.bytes)
taken Chunk old new b a t e = map_known b a _ _ t (λ w v n. n.took)
taken End old new b a t e = cc
taken (Refused r) old new b a t e = cc
taken Failed old new b a t e = cc
taken Memory old new b a t e = cc

-- After a flaw of the header exactly its bytes were taken.
pub header_taken : (r : Cut) (old new : Cutter) (b a : Option World) → IfKnown b a (NextOf r old new)
    → IfRefused r (λ refusal. is_header refusal.reason ≡ true → IfKnown b a (Takes (λ taken most. taken ≡ 68)))
header_taken Chunk old new b a t = tt
header_taken End old new b a t = tt
header_taken (Refused r) old new b a t = λ h. map_known b a _ _ t (λ w v n. (n.bytes, n.found.took, all_some w.input _ (λ rest. n.exact h)))
header_taken Failed old new b a t = tt
header_taken Memory old new b a t = tt

some_map : (o : Option (List ℕ)) (P Q : List ℕ → Type 0) → ((x : List ℕ) → P x → Q x) → IfSome o P → IfSome o Q
some_map None P Q f h = tt
some_map (Some x) P Q f h = f x h

taken_within : (r : Cut) (old new : Cutter) (w v : World) → CutOf r old new → NextOf r old new w v → Takes (λ taken most. taken ≤ most) w v
taken_within Chunk old new w v c n =
    let o = some_ahead (λ (l : List ℕ). new.bytes ++ l) v.input w.input n.rest n.took.input n.input in
    let p = split new.bytes w v o n.took in
    let same : n.rest ≡ new.bytes ++ p.left = same_some n.rest p.rest (sym n.input ∙ p.before) ∙ p.parts in
    let all : reach n.rest ≡ length new.bytes = ap reach same ∙ whole_reach new.bytes p.left c.whole in
    (new.bytes, n.took, some_at w.input n.rest (λ rest. length new.bytes ≤ reach rest) n.input (omega (arith, all)))
taken_within End old new w v c n = ([], n.took, all_some w.input _ (λ rest. let r = reach_least rest in omega (arith, r)))
taken_within (Refused r) old new w v c n = (n.bytes, n.found.took, some_at w.input n.found.rest _ n.found.input n.within)
taken_within Failed old new w v c n = (n.0, n.1, some_map w.input _ _ (λ rest h. omega (arith, h)) n.2)
taken_within Memory old new w v c n = n

-- No byte past the header and its chunk was taken.
pub within : (r : Cut) (old new : Cutter) (b a : Option World) → CutOf r old new → IfKnown b a (NextOf r old new) → IfKnown b a (Takes (λ taken most. taken ≤ most))
within r old new b a c t = map_known b a _ _ t (λ w v n. taken_within r old new w v c n)

-- After a failed read fewer bytes were taken.
pub fewer : (r : Cut) (old new : Cutter) (b a : Option World) → IfKnown b a (NextOf r old new) → r ≡ Failed → IfKnown b a (Takes (λ taken most. taken < most))
fewer Chunk old new b a t e = cc
fewer End old new b a t e = cc
fewer (Refused r) old new b a t e = cc
fewer Failed old new b a t e = t
fewer Memory old new b a t e = cc

kept : (r : Cut) (old new : Cutter) (w v : World) → NextOf r old new w v → IsKept w v
kept Chunk old new w v n = (n.took.files, n.took.output)
kept End old new w v n = (n.took.files, n.took.output)
kept (Refused r) old new w v n = (n.found.took.files, n.found.took.output)
kept Failed old new w v n = (n.1.files, n.1.output)
kept Memory old new w v n = (n.1.files, n.1.output)

-- The files and the output stayed.
pub unchanged : (r : Cut) (old new : Cutter) (b a : Option World) → IfKnown b a (NextOf r old new) → IfKnown b a IsKept
unchanged r old new b a t = map_known b a _ _ t (λ w v n. kept r old new w v n)
