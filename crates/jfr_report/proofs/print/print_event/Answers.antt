use Rattle.std.proofs.Common.{◌≡◌, ◌++◌, ◌∙◌, ap, sym, subst, Some}
use Rattle.std.specs.Prelude.{encode_utf8_all, slice_get}
use Rattle.jfr_value.specs.Nodes.{node_of}
use Rattle.jfr_chunk.specs.Parts.{Parts, events_of}
use Rattle.jfr_chunk.specs.Indexed.{event_at}
use Rattle.jfr_report.specs.declared.print.Writer.{Writer}
use Rattle.jfr_report.specs.Reports.{chunk_of, event_bytes, text_by}
use Rattle.jfr_report.proofs.PageLaws.{gathered_more, writer_bytes, writer_chunk, written_more}
use Rattle.jfr_report.proofs.print.print_event.Goals as goal

pub show-requires : goal.show-requires
show-requires g c =
    let same = ap chunk_of c.requires.writer ∙ writer_chunk c.args.selection.now.style.json c.args.selection.now.chunk.now in
    record { event = subst (λ (p : Parts). slice_get (events_of p) c.args.event.now.number ≡ Some (event_at c.args.event.now)) (sym same) c.requires.event; depth = c.args.selection.now.style.shallow }

pub returns-clause-texts : goal.returns-clause-texts
returns-clause-texts g c = λ all rest before i.
    let n = node_of c.args.event.now.node in
    let text = text_by c.args.writer.now c.args.selection.now.style.depth n in
    let bytes = ap (λ (w : Writer). encode_utf8_all (text_by w c.args.selection.now.style.depth n)) c.requires.writer
    ∙ writer_bytes c.args.selection.now.style.json c.args.selection.now.chunk.now c.args.selection.now.style.depth n in
    let more = written_more c.args.page.now c.show.new.page text c.in_ok-show.ensures.ok ∙ ap (λ z. encode_utf8_all c.args.page.now ++ z) bytes in
    c.write_full_page.ensures.texts all rest before
    (gathered_more all before (g.O.Sink.state c.args.out.now).written (encode_utf8_all c.args.page.now) (encode_utf8_all c.show.new.page)
    (event_bytes c.args.selection.now.style.json c.args.selection.now.style.depth c.args.selection.now.chunk.now n) rest more i)
