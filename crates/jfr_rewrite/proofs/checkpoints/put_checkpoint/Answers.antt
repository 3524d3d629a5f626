use Rattle.std.proofs.Common.{◌∙◌}
use Rattle.jfr_chunk.specs.Written.{by_pool}
use Rattle.jfr_output.proofs.Widths.{size_width}
use Rattle.jfr_rewrite.specs.Rewrite.{checkpoint_tail}
use Rattle.jfr_rewrite.proofs.CheckpointWriting.{old_size, old_width}
use Rattle.jfr_rewrite.proofs.SizeLaws.{size_within, sized_last}
use Rattle.jfr_rewrite.proofs.checkpoints.put_checkpoint.Goals as goal

pub put_size-requires-clause-size : goal.put_size-requires-clause-size
put_size-requires-clause-size g c = size_width c.args.chunk.now.bytes c.args.checkpoint.link.frame c.requires.link.record_stands

pub put_size-requires-clause-within : goal.put_size-requires-clause-within
put_size-requires-clause-within g c =
    let w = g.R.Rewriter.rewrite c.args.rewriting.now in
    let p = c.args.chunk.now in
    let l = c.args.checkpoint.link in
    let d = c.args.checkpoint.delta in
    let es = c.args.checkpoint.entries.now in
    size_within w l.frame c.args.out.now.items (old_size w p l c.requires.link d es) (checkpoint_tail w p l d (by_pool es)) c.put_body.new.out.items c.len-start.result
    (c.len-start.ensures ∙ c.args.out.now.ok.0) (old_width w p l c.requires.link d es) c.in_ok-put_body.ensures.ok

pub returns : goal.returns
returns g c =
    let w = g.R.Rewriter.rewrite c.args.rewriting.now in
    let p = c.args.chunk.now in
    let l = c.args.checkpoint.link in
    let d = c.args.checkpoint.delta in
    let es = c.args.checkpoint.entries.now in
    sized_last w l.frame c.args.out.now.items (old_size w p l c.requires.link d es) (checkpoint_tail w p l d (by_pool es)) c.put_body.new.out.items c.len-start.result
    (c.len-start.ensures ∙ c.args.out.now.ok.0) (old_width w p l c.requires.link d es) c.in_ok-put_body.ensures.ok
    c.put_size.result c.put_size.new.out.items c.put_size.ensures
