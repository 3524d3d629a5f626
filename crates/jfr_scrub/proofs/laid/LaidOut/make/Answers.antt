use Rattle.std.specs.Prelude.{option_map}
use Rattle.std.proofs.Common.{rules, ◌≡◌, subst, Bool, ℕ, List, Option, IfOk}
use Rattle.jfr_chunk.specs.Reach.{kept_by}
use Rattle.jfr_filter.specs.Filters.{describes}
use Rattle.jfr_chunk.specs.Metas.{new_metadata}
use Rattle.jfr_scrub.specs.IsLaidOut.{IsLaidOut}
use Rattle.jfr_scrub.specs.Scrubbing.{Prepared}
use Rattle.jfr_scrub.proofs.HeadlineLaws.{is_settled}
use Rattle.jfr_scrub.proofs.laid.LaidOut.make.Goals as goal

same_slim : (c : goal.After-drop-kept-inside-2) → option_map (λ s. s.now) c.as_deref.result ≡ new_metadata (describes c.args.filter.now) c.args.chunk.now (kept_by c.args.chunk.now c.in_ok-kept.kept)
same_slim c = search rules

pub returns-clause-laid : goal.returns-clause-laid
returns-clause-laid c =
    let p = c.args.chunk.now in
    let names = describes c.args.filter.now in
    subst (λ (flags : List Bool). IfOk c.lay_out.result (λ (s : Prepared). IsLaidOut (new_metadata names p (kept_by p flags)) p (kept_by p flags) s.laid s.events s.entries)) c.in_ok-kept.ensures.ok
    (subst (λ (w : Option (List ℕ)). IfOk c.lay_out.result (λ (s : Prepared). IsLaidOut w p (kept_by p c.in_ok-kept.kept) s.laid s.events s.entries)) (same_slim c) c.lay_out.ensures.laid)

pub returns-clause-settled : goal.returns-clause-settled
returns-clause-settled c = is_settled c.args.filter.now c.args.chunk.now c.lay_out.result c.lay_out.ensures.accepted
