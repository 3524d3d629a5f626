use Rattle.std.proofs.Common.{◌∙◌, ◌++◌, ap}
use Rattle.jfr_chunk.specs.Indexed.{event_at}
use Rattle.jfr_output.proofs.Widths.{size_width}
use Rattle.jfr_rewrite.specs.Rewrite.{event_tail}
use Rattle.jfr_rewrite.proofs.EventWriting.{size_bytes, split, width}
use Rattle.jfr_rewrite.proofs.SizeLaws.{size_within, sized_last, wrote_weaker}
use Rattle.jfr_rewrite.proofs.records.put_event.Goals as goal

pub put_size-requires-clause-size : goal.put_size-requires-clause-size
put_size-requires-clause-size g c = size_width c.args.chunk.now.bytes c.args.event.frame c.requires.record

pub put_size-requires-clause-within : goal.put_size-requires-clause-within
put_size-requires-clause-within g c =
    let w = g.R.Rewriter.rewrite c.args.rewriting.now in
    let p = c.args.chunk.now in
    let e = event_at c.args.event in
    let old = c.args.out.now.items in
    let stood = c.in_ok-put_fields.ensures.ok ∙ ap (λ z. old ++ z) (split w p e c.requires.record c.requires.start) in
    size_within w c.args.event.frame old (size_bytes w p e c.requires.record c.requires.start) (event_tail w p e) c.put_fields.new.out.items c.len-start.result
    (c.len-start.ensures ∙ c.args.out.now.ok.0) (width w p e c.requires.record c.requires.start) stood

pub returns : goal.returns
returns g c =
    let w = g.R.Rewriter.rewrite c.args.rewriting.now in
    let p = c.args.chunk.now in
    let e = event_at c.args.event in
    let old = c.args.out.now.items in
    let stood = c.in_ok-put_fields.ensures.ok ∙ ap (λ z. old ++ z) (split w p e c.requires.record c.requires.start) in
    wrote_weaker c.put_size.result (λ x k. k.0) (λ k. k)
    (sized_last w c.args.event.frame old (size_bytes w p e c.requires.record c.requires.start) (event_tail w p e) c.put_fields.new.out.items c.len-start.result
    (c.len-start.ensures ∙ c.args.out.now.ok.0) (width w p e c.requires.record c.requires.start) stood
    c.put_size.result c.put_size.new.out.items c.put_size.ensures)
