use Rattle.std.proofs.Common.{◌≡◌, ◌&&◌, Bool, List, false, length, true, ap, sym, ◌∙◌}
use Rattle.jfr_chunk.specs.Parts.{EventAt, Parts}
use Rattle.jfr_chunk.specs.Reach.{kept_by}
use Rattle.jfr_verify.specs.Closed.{entries_closed, events_closed}
use Rattle.jfr_verify.proofs.ClosedLaws.{closed_decided}
use Rattle.jfr_verify.proofs.closed.is_closed.Goals as goal

pub returns-then-not-events_closed : goal.returns-then-not-events_closed
returns-then-not-events_closed c =
    let p : Parts = c.args.chunk.now in
    let kept : List EventAt = kept_by p c.args.kept.now in
    let marks : List Bool = c.args.marks.items in
    let e : false ≡ events_closed p marks kept = sym c.if-not-events_closed.true ∙ (c.events_closed.ensures ∙ ap (λ z. events_closed p z kept) c.deref.ensures.value) in
    closed_decided p kept marks c.requires.size false (ap (λ z. z && entries_closed p marks (length p.entries)) e)

pub returns : goal.returns
returns c =
    let p : Parts = c.args.chunk.now in
    let kept : List EventAt = kept_by p c.args.kept.now in
    let marks : List Bool = c.args.marks.items in
    let e : true ≡ events_closed p marks kept = sym c.if-not-events_closed.false ∙ (c.events_closed.ensures ∙ ap (λ z. events_closed p z kept) c.deref.ensures.value) in
    closed_decided p kept marks c.requires.size c.check_entries.new.check.closed (c.check_entries.ensures ∙ ap (λ z. z && entries_closed p marks (length p.entries)) e)
