use Rattle.std.proofs.Common.{rules, ap, sym, ◌∙◌, ◌≡◌, List, ℕ, subst}
use Rattle.std.specs.Prelude.{None}
use Rattle.jfr_chunk.specs.Refusal.{refusal_of}
use Rattle.jfr_output.proofs.RecordingLaws.{refused_by}
use Rattle.jfr_scrub.specs.Pieces.{joined, laid_in, LieIn}
use Rattle.jfr_scrub.specs.Scrubs.{scrubbed}
use Rattle.jfr_scrub.proofs.HeadlineLaws.{made_of}
use Rattle.jfr_scrub.proofs.scrub.ScrubMake.make.Goals as goal

pub returns-in_err-chunk-clause-refused : goal.returns-in_err-chunk-clause-refused
returns-in_err-chunk-clause-refused c = search (rules, refused_by)

-- The chunk of which the ranges are.
of_chunk : (c : goal.After-drop-self-9) → laid_in c.in_ok-laid.laid.laid.chunk c.into_ranges.result ≡ laid_in c.args.chunk.now c.into_ranges.result
of_chunk c = ap (λ (x : List ℕ). laid_in x c.into_ranges.result) (c.in_ok-laid.ensures.laid.of_chunk ∙ c.in_ok-chunk.ensures.ok)

-- What the chunk becomes.
made : (c : goal.After-drop-self-9) → (refusal_of c.args.chunk.now ≡ None) × (joined (laid_in c.args.chunk.now c.into_ranges.result) ≡ scrubbed c.args.self.now.filter.now c.args.chunk.now)
made c =
    made_of c.args.self.now.filter.now c.args.chunk.now (joined (laid_in c.args.chunk.now c.into_ranges.result)) c.in_ok-chunk.chunk c.in_ok-chunk.ensures.exact
    (ap joined (sym (of_chunk c) ∙ c.into_ranges.ensures.same) ∙ c.in_ok-laid.ensures.laid.becomes)

pub returns-clause-ok : goal.returns-clause-ok
returns-clause-ok c = (made c).0

pub returns-clause-held : goal.returns-clause-held
returns-clause-held c = subst LieIn (of_chunk c) c.into_ranges.ensures.lie

pub returns-clause-made : goal.returns-clause-made
returns-clause-made c = (made c).1
