use Rattle.std.proofs.Common.{ap, ◌∙◌, false, replicate}
use Rattle.std.specs.List.{list_all}
use Rattle.jfr_verify.proofs.ClaimLaws.{children_ends}
use Rattle.jfr_verify.proofs.confirm.are_confirmed.Goals as goal

pub returns : goal.returns
returns c =
    children_ends c.args.chunk.now c.args.parents.items c.in_ok-claims.claims c.confirm_events.new.claims c.confirm_entries.new.claims c.all_set.result c.in_ok-claims.ensures.parents
    (c.in_ok-claims.ensures.confirmed ∙ ap (λ n. replicate n false) c.requires.size)
    (record { more = c.confirm_events.ensures.more; all = c.confirm_events.ensures.all }) (record { more = c.confirm_entries.ensures.more; all = c.confirm_entries.ensures.all })
    (c.all_set.ensures ∙ ap (list_all (λ flag. flag)) c.deref-3.ensures.value)
