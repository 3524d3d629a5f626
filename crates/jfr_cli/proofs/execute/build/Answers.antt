use Rattle.std.proofs.Common.{refl}
use Rattle.jfr_cli.proofs.Building.{build_done, build_halted, build_broken, build_short, build_refused}
use Rattle.jfr_cli.proofs.Orders.{named}
use Rattle.jfr_cli.proofs.execute.build.Goals as goal

pub returns-in-Done : goal.returns-in-Done
returns-in-Done g c =
    let a = g.P.Place.state c.args.place.now in
    let b = g.P.Place.state c.build_stream.new.place in
    let s = g.O.Sink.state c.args._out.now in
    let text = named c.as_str.result.now c.args.text.now c.as_str.utf8 c.as_str.ensures in
    let output = named c.as_str-2.result.now c.args.output.now c.as_str-2.utf8 c.as_str-2.ensures in
    build_done c.args.text.now c.args.output.now c.as_str.result.now c.as_str-2.result.now a b s text output c.in-Done.ensures.ran (c.in-Done.ensures.built refl)

pub returns-in-Refused : goal.returns-in-Refused
returns-in-Refused g c =
    let a = g.P.Place.state c.args.place.now in
    let b = g.P.Place.state c.build_stream.new.place in
    let s = g.O.Sink.state c.args._out.now in
    let text = named c.as_str.result.now c.args.text.now c.as_str.utf8 c.as_str.ensures in
    let output = named c.as_str-2.result.now c.args.output.now c.as_str-2.utf8 c.as_str-2.ensures in
    build_refused c.args.text.now c.args.output.now c.as_str.result.now c.as_str-2.result.now a b s text output c.in-Refused.line c.in-Refused.reason c.in-Refused.ensures.refused

pub returns-in-ReadFault : goal.returns-in-ReadFault
returns-in-ReadFault g c =
    let a = g.P.Place.state c.args.place.now in
    let b = g.P.Place.state c.build_stream.new.place in
    let s = g.O.Sink.state c.args._out.now in
    let text = named c.as_str.result.now c.args.text.now c.as_str.utf8 c.as_str.ensures in
    let output = named c.as_str-2.result.now c.args.output.now c.as_str-2.utf8 c.as_str-2.ensures in
    build_halted c.args.text.now c.args.output.now c.as_str.result.now c.as_str-2.result.now a b s text output c.in-ReadFault.ensures.ran

pub returns-in-WriteFault : goal.returns-in-WriteFault
returns-in-WriteFault g c =
    let a = g.P.Place.state c.args.place.now in
    let b = g.P.Place.state c.build_stream.new.place in
    let s = g.O.Sink.state c.args._out.now in
    let text = named c.as_str.result.now c.args.text.now c.as_str.utf8 c.as_str.ensures in
    let output = named c.as_str-2.result.now c.args.output.now c.as_str-2.utf8 c.as_str-2.ensures in
    build_broken c.args.text.now c.args.output.now c.as_str.result.now c.as_str-2.result.now a b s text output c.in-WriteFault.ensures.ran (λ can. (c.in-WriteFault.ensures.can_create can).0 refl)

pub returns-in-Memory : goal.returns-in-Memory
returns-in-Memory g c =
    let a = g.P.Place.state c.args.place.now in
    let b = g.P.Place.state c.build_stream.new.place in
    let s = g.O.Sink.state c.args._out.now in
    let text = named c.as_str.result.now c.args.text.now c.as_str.utf8 c.as_str.ensures in
    let output = named c.as_str-2.result.now c.args.output.now c.as_str-2.utf8 c.as_str-2.ensures in
    build_short c.args.text.now c.args.output.now c.as_str.result.now c.as_str-2.result.now a b s text output c.in-Memory.ensures.ran
