use Rattle.std.proofs.Common.{◌≡◌, ◌++◌, ap, rules, ◌∙◌}
use Rattle.std.specs.List.{slice_range}
use Rattle.jfr_value.specs.Nodes.{node_of}
use Rattle.jfr_rewrite.specs.Writing.{changed_within}
use Rattle.jfr_rewrite.proofs.CopyLaws.{copied_within, stays_within}
use Rattle.jfr_rewrite.proofs.copying.put_changed.Goals as goal

pub returns-then-is_unchanged : goal.returns-then-is_unchanged
returns-then-is_unchanged g c =
    let p = c.args.changing.now.chunk.now in
    let ch = (g.R.Rewriter.rewrite c.args.changing.now.rewriting.now).change in
    record {
      ok =
          c.in_ok-extend_from_slice.ensures.items
          ∙ (ap (λ z. c.args.out.now.items ++ slice_range z c.args.from c.args.to) c.bytes.ensures.exact
          ∙ ap (λ z. c.args.out.now.items ++ z) (stays_within ch p (node_of c.args.node) c.args.from c.args.to c.requires.start c.requires.value.1.order c.requires.end
          (c.is_unchanged.ensures c.if-is_unchanged.true)));
    }

pub returns : goal.returns
returns g c =
    let p = c.args.changing.now.chunk.now in
    let n = node_of c.args.node in
    let ch = (g.R.Rewriter.rewrite c.args.changing.now.rewriting.now).change in
    let copy = c.copy_value.new.copy in
    let copied = c.copy_value.ensures.copies c.if-copy.false in
    let last = c.extend_from_slice-2.new.self.items in
    let written : last ≡ c.args.out.now.items ++ changed_within ch p n c.args.from c.args.to =
    copied_within ch p n c.args.from c.args.to copy.copied c.args.out.now.items copy.out.now.items last c.copy_value.ensures.range c.requires.end copied.1
    (c.in_ok-extend_from_slice-2.ensures.items ∙ ap (λ z. copy.out.now.items ++ slice_range z copy.copied c.args.to) c.bytes-2.ensures.exact) in
    record { ok = search (rules, written) }
