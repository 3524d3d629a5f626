-- What a renumbering writes is the output of each chunk with new keys.
use Rattle.std.specs.Prelude.{◌≡◌, ℕ, ◌≤◌, Bool, List, length, Some, None, Result, Ok, Err}
use Rattle.std.proofs.Common.{ap, arith, refl, sym, subst, ◌∙◌}
use Rattle.jfr_base.specs.declared.flaw.Flaw.{Flaw}
use Rattle.jfr_base.specs.declared.flaw.Refusal.{Refusal}
use Rattle.jfr_outside.specs.World.{State, IfKnown}
use Rattle.jfr_header.specs.declared.ending.Ending.{Ending}
use Rattle.jfr_header.specs.declared.ending.Ending.TheVariants as ending
use Rattle.jfr_header.specs.Fronts.{Whole}
use Rattle.jfr_filter.specs.Filters.{Given}
use Rattle.jfr_chunk.specs.Metas.{Names}
use Rattle.jfr_filter.specs.Filters.{describes}
use Rattle.jfr_plan.specs.Ends.{Fine, Refused}
use Rattle.jfr_plan.specs.Effects.{without_sink}
use Rattle.jfr_plan.specs.Clauses.{over, Ended}
use Rattle.jfr_chunk.specs.Parts.{EventAt, Parts, AreParts}
use Rattle.jfr_chunk.specs.Reach.{kept_by}
use Rattle.jfr_chunk.specs.Chosen.{chosen, kept_of}
use Rattle.jfr_chunk.specs.Refusal.{read_parts, refusal_of, flaw_in}
use Rattle.jfr_chunk.proofs.ChainAnswers.{is_computed}
use Rattle.jfr_output.specs.Recordings.{IsByPlan}
use Rattle.jfr_output.proofs.MadeFile.{made_by_plan}
use Rattle.jfr_output.proofs.MadeOutput.{has_output}
use Rattle.jfr_output.proofs.RecordingLaws.{MakesWhole, written_chunks}
use Rattle.jfr_renumber.specs.Headline.{IsRenumberedOutput, Renumbers}
use Rattle.jfr_renumber.specs.Meaning.{IsRenumbered}
use Rattle.jfr_renumber.specs.Renumber.{renumber_of}
use Rattle.jfr_renumber.specs.Renumbers.{renumbered, renumbered_by, renumbering}
use Rattle.jfr_renumber.proofs.Renumbered.{is_renumbered}

-- The output of a chunk, from what is known of it.
made_output : (g : Given) (c b : List ℕ) (p : Parts) → p.bytes ≡ c → AreParts p → b ≡ renumber_of (describes g) p (kept_of g p) → IsRenumbered (describes g) p (kept_of g p) → IsRenumberedOutput g c b
made_output g c b p h a e r = record { parts = p; bytes = h; valid = a; becomes = e; renumbered = r }

-- The output of an accepted chunk with the events that are chosen.
renumbered_with : (names : Names) (p : Parts) (flags : List Bool) (kept : List EventAt) → kept ≡ kept_by p flags → Whole p.bytes → AreParts p → IsRenumbered names p kept
renumbered_with names p flags kept e w a = subst (IsRenumbered names p) (sym e) (is_renumbered names p a flags w)

accepted_output : (g : Given) (c : List ℕ) (p : Parts) → Whole c → read_parts c ≡ Ok p → IsRenumberedOutput g c (renumber_of (describes g) p (kept_of g p))
accepted_output g c p w e =
    let h : (p.bytes ≡ c) × AreParts p = ((is_computed c w.long).parts p).1 e in
    made_output g c (renumber_of (describes g) p (kept_of g p)) p h.0 h.1 refl (renumbered_with (describes g) p (chosen g p) (kept_of g p) refl (subst Whole (sym h.0) w) h.1)

some_none : (flaw : Flaw) → Some flaw ≡ None → ⊥
some_none flaw e = cc

renumbered_one : (g : Given) (c : List ℕ) (r : Result Parts Flaw) → Whole c → read_parts c ≡ r → flaw_in r ≡ None → IsRenumberedOutput g c (renumbered_by g r)
renumbered_one g c (Ok p) w e n = accepted_output g c p w e
renumbered_one g c (Err flaw) w e n = absurd (some_none flaw n)

-- A chunk that isn't refused is renumbered.
pub is_output : (g : Given) (c : List ℕ) → Whole c → refusal_of c ≡ None → IsRenumberedOutput g c (renumbered g c)
unfolding refusal_of renumbered
is_output g c w n = renumbered_one g c (read_parts c) w refl n

-- Its output is whole, and no longer than the chunk.
outputs_whole : (g : Given) → MakesWhole refusal_of (renumbered g)
outputs_whole g c w n =
    let s = is_output g c w n in
    let k : length (renumber_of (describes g) s.parts (kept_of g s.parts)) ≤ length s.parts.bytes = s.renumbered.size in
    let m : length (renumbered g c) ≡ length (renumber_of (describes g) s.parts (kept_of g s.parts)) = ap (λ (z : List ℕ). length z) s.becomes in
    let l : length s.parts.bytes ≡ length c = ap (λ (z : List ℕ). length z) s.bytes in
    (subst Whole (sym s.becomes) s.renumbered.whole, omega arith)

-- An answer that the plan ends with.
pub headline : (g : Given) (input output : List ℕ) (e : Ending) (a b : State) → (e ≡ ending.Done → Ended (over (renumbering g output) input) Fine (without_sink a) (without_sink b))
    → ((r : Refusal) → e ≡ ending.Refused r → Ended (over (renumbering g output) input) (Refused r) (without_sink a) (without_sink b)) → IsByPlan e
    → IfKnown a.contents b.contents (Renumbers g input output)
headline g input output = made_by_plan refusal_of (renumbered g) input output (Renumbers g input output)
    (has_output refusal_of (renumbered g) (IsRenumberedOutput g) (is_output g) (written_chunks refusal_of (renumbered g) (outputs_whole g)) input output)

-- What a chunk is read as is renumbered.
pub made_of : (g : Given) (c b : List ℕ) (p : Parts) → read_parts c ≡ Ok p → b ≡ renumber_of (describes g) p (kept_of g p) → (refusal_of c ≡ None) × (b ≡ renumbered g c)
unfolding refusal_of renumbered
made_of g c b p e h = (ap flaw_in e, h ∙ sym (ap (renumbered_by g) e))
