use Rattle.std.proofs.Common.{◌∙◌}
use Rattle.jfr_report.proofs.DemoLaws.{not_refused, sampled_by}
use Rattle.jfr_report.proofs.demo.sample_text.Goals as goal

pub unreachable-requires : goal.unreachable-requires
unreachable-requires c =
    not_refused c.args.seed c.args.events c.deref.result.now c.in-Err-Flawed.field-0-0 c.requires.some c.requires.most (c.deref.ensures.value ∙ c.in_ok-bytes.ensures.exact)
    (rw c.in-Err-Flawed.field-0-is at c.in-Err-Flawed.ensures.exact)

pub returns : goal.returns
returns c = record {
  exact = sampled_by c.counted.result c.args.seed c.args.events c.deref.result.now c.in-Ok.chunk
      (c.deref.ensures.value ∙ c.in_ok-bytes.ensures.exact) c.in-Ok.ensures.exact c.counted.ensures.ok;
}
