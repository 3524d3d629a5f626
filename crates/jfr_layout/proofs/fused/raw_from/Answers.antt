use Rattle.std.proofs.Common.{arith, subst, sym}
use Rattle.std.specs.Prelude.{slice_range, ◌+◌}
use Rattle.std.proofs.lemmas.Option.{slice_get-get_or}
use Rattle.jfr_layout.specs.Fused.{AreRaw}
use Rattle.jfr_layout.proofs.FusedLaws.{raw_alone, raw_next}
use Rattle.jfr_layout.proofs.fused.raw_from.Goals as goal

pub fields-init : goal.fields-init
fields-init c = record {
  some = omega arith;
  upto = omega (arith, c.requires.within);
  raw = raw_alone c.args.layouts.now c.args.first c.args.bytes c.requires.within c.requires.raw;
}

pub fields-preserved : goal.fields-preserved
fields-preserved c =
    let at = c.args.first + c.fields.fields in
    let w = c.in-Some.ensures in
    record {
      some = omega arith;
      upto = omega (arith, c.fields-test.true);
      raw = subst (λ n. AreRaw n (slice_range c.args.layouts.now c.args.first (c.args.first + (c.fields.fields + 1)))) (sym w.2)
          (raw_next c.args.layouts.now c.args.first c.fields.fields c.fields.count w.0 _ (slice_get-get_or c.args.layouts.now at _ (omega (arith, c.fields-test.true))) w.1 c.fields.invariant.raw);
    }
