use Rattle.jfr_chunk.specs.Chosen.{kept_of}
use Rattle.jfr_report.specs.Demo.{only_a}
use Rattle.jfr_report.proofs.DemoLaws.{counted_by, lines_by}
use Rattle.jfr_report.proofs.demo.counted.Goals as goal

pub returns : goal.returns
returns c = record {
  ok = counted_by c.lines_of.result c.args.chunk.now
      (lines_by c.lines_of.result c.args.chunk.now c.in_ok-scrubber.scrubber.events c.in_ok-scrubber.scrubber.entries c.in_ok-scrubber.scrubber.written (kept_of only_a c.args.chunk.now)
      c.lines_of.ensures.ok c.in_ok-scrubber.ensures.events c.in_ok-scrubber.ensures.entries c.in_ok-scrubber.ensures.written);
}
