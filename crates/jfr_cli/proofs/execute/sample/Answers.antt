use Rattle.std.specs.Prelude.{encode_utf8_all}
use Rattle.std.proofs.Common.{◌∙◌, ap, refl, subst}
use Rattle.jfr_header.specs.declared.ending.Ending.TheVariants.{Memory}
use Rattle.jfr_cli.specs.Texts.{IsWritten}
use Rattle.jfr_cli.proofs.Orders.{named}
use Rattle.jfr_cli.proofs.Sampling.{carries_sample}
use Rattle.jfr_cli.proofs.execute.sample.Goals as goal

pub returns : goal.returns
returns g c =
    let s = g.O.Sink.state c.args.out.now in
    let z = g.O.Sink.state c.write_only_text.new.out in
    carries_sample c.args.seed c.args.events (g.P.Place.state c.args._place.now) s z c.write_only_text.result
    (subst (λ x. IsWritten x c.write_only_text.result s z) (named c.as_str.result.now c.in-Ok.text c.as_str.utf8 c.as_str.ensures ∙ ap encode_utf8_all c.in-Ok.ensures.exact) c.write_only_text.ensures)

pub returns-in-Err : goal.returns-in-Err
returns-in-Err g c = carries_sample c.args.seed c.args.events (g.P.Place.state c.args._place.now) (g.O.Sink.state c.args.out.now) (g.O.Sink.state c.args.out.now) Memory (refl, refl)
