use Rattle.std.proofs.Common.{append-nil, ap, false, option_to_list, get_or, sym, ◌++◌, ◌∙◌}
use Rattle.jfr_mask.proofs.MarkedRest.{get_marked, get_unmarked, mark_at}
use Rattle.jfr_mask.proofs.left.push_if_marked.Goals as goal

pub returns-then-not-flag_at : goal.returns-then-not-flag_at
returns-then-not-flag_at c =
    let mark = sym (c.flag_at.ensures ∙ (ap (λ flags. get_or flags c.args.number false) c.deref.ensures.value ∙ mark_at c.args.list.now.flags.items c.args.number)) in
    record {
      ok = sym (ap (λ o. c.args.entries.now.items ++ option_to_list o) (get_unmarked c.args.list.now.flags.items c.args.pools.now c.args.number (mark ∙ c.if-not-flag_at.true))
          ∙ append-nil c.args.entries.now.items);
    }

pub returns-in_ok-push : goal.returns-in_ok-push
returns-in_ok-push c =
    let mark = sym (c.flag_at.ensures ∙ (ap (λ flags. get_or flags c.args.number false) c.deref.ensures.value ∙ mark_at c.args.list.now.flags.items c.args.number)) in
    record {
      ok = c.in_ok-push.ensures.items
          ∙ sym (ap (λ o. c.args.entries.now.items ++ option_to_list o)
          (get_marked c.args.list.now.flags.items c.args.pools.now c.args.number c.in-Some.entry.now (mark ∙ c.if-not-flag_at.false) (sym c.in-Some.ensures)));
    }
