use Rattle.std.specs.Prelude.{option_map}
use Rattle.std.proofs.Common.{subst, sym}
use Rattle.jfr_plan.specs.Effects.{outside}
use Rattle.jfr_words.specs.declared.order.Order.TheVariants.{Mask}
use Rattle.jfr_cli.specs.Runs.{Carries, CarriesTo}
use Rattle.jfr_cli.proofs.execute.execute.Goals as goal

pub returns-in-Print : goal.returns-in-Print
returns-in-Print g c =
    let a = outside (g.P.Place.state c.args.place.now) (g.O.Sink.state c.args.out.now) in
    let b = outside (g.P.Place.state c.print.new.place) (g.O.Sink.state c.print.new.out) in
    subst (λ o. Carries o c.print.result a b) (sym c.in-Print.is) c.print.ensures

pub returns-in-Summary : goal.returns-in-Summary
returns-in-Summary g c =
    let a = outside (g.P.Place.state c.args.place.now) (g.O.Sink.state c.args.out.now) in
    let b = outside (g.P.Place.state c.summary.new.place) (g.O.Sink.state c.summary.new.out) in
    subst (λ o. Carries o c.summary.result a b) (sym c.in-Summary.is) c.summary.ensures

pub returns-in-Metadata : goal.returns-in-Metadata
returns-in-Metadata g c =
    let a = outside (g.P.Place.state c.args.place.now) (g.O.Sink.state c.args.out.now) in
    let b = outside (g.P.Place.state c.metadata.new.place) (g.O.Sink.state c.metadata.new.out) in
    subst (λ o. Carries o c.metadata.result a b) (sym c.in-Metadata.is) c.metadata.ensures

pub returns-in-Disassemble : goal.returns-in-Disassemble
returns-in-Disassemble g c =
    let a = outside (g.P.Place.state c.args.place.now) (g.O.Sink.state c.args.out.now) in
    let b = outside (g.P.Place.state c.disassemble.new.place) (g.O.Sink.state c.disassemble.new._out) in
    subst (λ o. Carries o c.disassemble.result a b) (sym c.in-Disassemble.is) c.disassemble.ensures

pub returns-in-Assemble : goal.returns-in-Assemble
returns-in-Assemble g c =
    let a = outside (g.P.Place.state c.args.place.now) (g.O.Sink.state c.args.out.now) in
    let b = outside (g.P.Place.state c.assemble.new.place) (g.O.Sink.state c.assemble.new._out) in
    subst (λ o. Carries o c.assemble.result a b) (sym c.in-Assemble.is) c.assemble.ensures

pub returns-in-Sample : goal.returns-in-Sample
returns-in-Sample g c =
    let a = outside (g.P.Place.state c.args.place.now) (g.O.Sink.state c.args.out.now) in
    let b = outside (g.P.Place.state c.sample.new._place) (g.O.Sink.state c.sample.new.out) in
    subst (λ o. Carries o c.sample.result a b) (sym c.in-Sample.is) c.sample.ensures

pub returns-in-Receipt : goal.returns-in-Receipt
returns-in-Receipt g c =
    let a = outside (g.P.Place.state c.args.place.now) (g.O.Sink.state c.args.out.now) in
    let b = outside (g.P.Place.state c.receipt.new.place) (g.O.Sink.state c.receipt.new._out) in
    subst (λ o. Carries o c.receipt.result a b) (sym c.in-Receipt.is) c.receipt.ensures

pub returns-in-Verify : goal.returns-in-Verify
returns-in-Verify g c =
    let a = outside (g.P.Place.state c.args.place.now) (g.O.Sink.state c.args.out.now) in
    let b = outside (g.P.Place.state c.verify.new.place) (g.O.Sink.state c.verify.new.out) in
    subst (λ o. CarriesTo o c.verify.result a b) (sym c.in-Verify.is) c.verify.ensures

pub returns-in-Stacks : goal.returns-in-Stacks
returns-in-Stacks g c =
    let a = outside (g.P.Place.state c.args.place.now) (g.O.Sink.state c.args.out.now) in
    let b = outside (g.P.Place.state c.stacks.new.place) (g.O.Sink.state c.stacks.new.out) in
    subst (λ o. Carries o c.stacks.result a b) (sym c.in-Stacks.is) c.stacks.ensures

pub returns-in-Build : goal.returns-in-Build
returns-in-Build g c =
    let a = outside (g.P.Place.state c.args.place.now) (g.O.Sink.state c.args.out.now) in
    let b = outside (g.P.Place.state c.build.new.place) (g.O.Sink.state c.build.new._out) in
    subst (λ o. CarriesTo o c.build.result a b) (sym c.in-Build.is) c.build.ensures

pub returns-in-Mask : goal.returns-in-Mask
returns-in-Mask g c =
    let a = outside (g.P.Place.state c.args.place.now) (g.O.Sink.state c.args.out.now) in
    let b = outside (g.P.Place.state c.mask.new.place) (g.O.Sink.state c.mask.new._out) in
    let m = c.in-Mask in
    subst (λ o. Carries o c.mask.result a b) (sym m.is)
    (subst (λ x. Carries (Mask m.filter m.strings x m.known m.table m.input m.output) c.mask.result a b) c.as_ref.ensures.value
    (subst (λ k. Carries (Mask m.filter m.strings (option_map (λ p. p.now) c.as_ref.result) k m.table m.input m.output) c.mask.result a b) c.as_ref-in-Mask.ensures.value
    (subst (λ t. Carries (Mask m.filter m.strings (option_map (λ p. p.now) c.as_ref.result) (option_map (λ n. n.now) c.as_ref-in-Mask.result) t m.input m.output) c.mask.result a b)
    c.as_ref-in-Mask-2.ensures.value c.mask.ensures)))
