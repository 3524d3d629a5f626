use Rattle.std.proofs.Common.{◌≡◌, ◌+◌, ◌∙◌, ℕ, List, [], ◌∷◌, length, ap, sym, Option}
use Rattle.jfr_base.specs.declared.flaw.Flaw.{Flaw}
use Rattle.jfr_outside.specs.World.{bytes_in}
use Rattle.jfr_plan.specs.Effects.{Append, outside}
use Rattle.jfr_plan.specs.Rules.{Goes, File}
use Rattle.jfr_plan.specs.Makes.{asks_made}
use Rattle.jfr_plan.proofs.Failing.{append_leaves, write_counted, chunk_refused, chunk_tallied}
use Rattle.jfr_plan.proofs.Leaving.{tallied}
use Rattle.jfr_plan.proofs.making.MakingStage.chunk.Goals as goal

pub returns-in-Err-clause-contents : goal.returns-in-Err-clause-contents
returns-in-Err-clause-contents g c = λ before seen number.
    let refusal = g.M.Make.refusal c.args.self.now.make c.args.chunk.now in
    let becomes = g.M.Make.becomes c.args.self.now.make c.args.chunk.now in
    chunk_refused (g.P.Place.state c.args.place.now).steady (asks_made refusal (length before + 1) becomes) (length before + 1) c.args.number c.in-Err.fault c.of_chunk.result
    (g.O.Sink.state c.args._out.now).written (g.P.Place.state c.args.place.now).contents c.of_chunk.ensures number
    (λ f e. ap (λ (o : Option Flaw). asks_made o (length before + 1) becomes) (rw e at c.in-Err.ensures.refused))

pub returns-in-Err-clause-counts : goal.returns-in-Err-clause-counts
returns-in-Err-clause-counts g c = chunk_tallied File c.args.number c.in-Err.fault c.of_chunk.result (outside (g.P.Place.state c.args.place.now) (g.O.Sink.state c.args._out.now)) c.of_chunk.ensures

pub returns-clause-contents : goal.returns-clause-contents
returns-clause-contents g c = λ before seen number.
    let refusal = g.M.Make.refusal c.args.self.now.make c.args.chunk.now in
    let becomes = g.M.Make.becomes c.args.self.now.make c.args.chunk.now in
    let bytes = bytes_in c.deref.result.now in
    let made : becomes ≡ bytes = sym (ap bytes_in c.deref.ensures.value ∙ c.in_ok-pieces.ensures ∙ c.in-Ok.ensures.made) in
    let is : asks_made refusal (length before + 1) becomes ≡ Goes (Append bytes ∷ []) =
    ap (λ (o : Option Flaw). asks_made o (length before + 1) becomes) c.in-Ok.ensures.ok ∙ ap (λ (l : List ℕ). Goes (Append l ∷ [])) made in
    append_leaves (g.P.Place.state c.args.place.now).steady (asks_made refusal (length before + 1) becomes) bytes (g.O.Sink.state c.args._out.now).written (g.P.Place.state c.args.place.now).contents
    (g.P.Place.state c.append_pieces.new.self).contents c.append_pieces.result c.map_err.result is c.map_err.ensures.cases c.append_pieces.ensures.contents c.append_pieces.ensures.open
    c.append_pieces.ensures.steady

pub returns-clause-counts : goal.returns-clause-counts
returns-clause-counts g c =
    let x = g.P.Place.state c.args.place.now in
    let y = g.P.Place.state c.append_pieces.new.self in
    let sink = g.O.Sink.state c.args._out.now in
    (tallied c.map_err.result (outside x sink) (outside y sink)
    (write_counted c.append_pieces.result c.map_err.result x y c.map_err.ensures.cases c.append_pieces.ensures.reads c.append_pieces.ensures.writes c.append_pieces.ensures.same sink)).0
