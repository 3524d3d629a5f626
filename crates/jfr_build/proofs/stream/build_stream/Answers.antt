use Rattle.std.specs.Prelude.{ℕ, List}
use Rattle.std.proofs.Common.{sym, ◌∙◌, subst}
use Rattle.jfr_plan.specs.Effects.{writes}
use Rattle.jfr_plan.specs.Parts.{IsPlaceAfter}
use Rattle.jfr_build.proofs.AcceptedLaws.{built_accepted}
use Rattle.jfr_build.proofs.Streaming.{chunk_built, chunk_decided, chunk_ran, chunk_reads, chunk_writes, text_decided}
use Rattle.jfr_build.proofs.stream.build_stream.Goals as goal

pub returns-in-Ok-clause-built : goal.returns-in-Ok-clause-built
returns-in-Ok-clause-built g c =
    let a = g.P.Place.state c.args.place.now in
    let b = g.P.Place.state c.build_file.new.place in
    let d = g.P.Place.state c.write_file.new.place in
    let out = c.args.out.now in
    let r = c.write_file.result in
    let wrote = subst (λ (x : List ℕ). IsPlaceAfter (writes out x) r b d) c.deref.ensures.value c.write_file.ensures.contents in
    λ e. chunk_built c.args.text.now out a c.in-Ok.chunk r b d c.in-Ok.ensures.contents c.in-Ok.ensures.counts wrote c.write_file.ensures.counts built_accepted (sym c.of_write.ensures ∙ e)

pub returns-in-Ok-clause-each : goal.returns-in-Ok-clause-each
returns-in-Ok-clause-each g c = built_accepted

pub returns-in-Ok-clause-ran : goal.returns-in-Ok-clause-ran
returns-in-Ok-clause-ran g c =
    let a = g.P.Place.state c.args.place.now in
    let b = g.P.Place.state c.build_file.new.place in
    let d = g.P.Place.state c.write_file.new.place in
    let out = c.args.out.now in
    let r = c.write_file.result in
    let wrote = subst (λ (x : List ℕ). IsPlaceAfter (writes out x) r b d) c.deref.ensures.value c.write_file.ensures.contents in
    rw c.of_write.ensures (chunk_ran c.args.text.now out a c.in-Ok.chunk r b d c.in-Ok.ensures.contents c.in-Ok.ensures.counts wrote c.write_file.ensures.counts)

pub returns-in-Ok-clause-complete : goal.returns-in-Ok-clause-complete
returns-in-Ok-clause-complete g c =
    let a = g.P.Place.state c.args.place.now in
    let b = g.P.Place.state c.build_file.new.place in
    let d = g.P.Place.state c.write_file.new.place in
    let out = c.args.out.now in
    let r = c.write_file.result in
    let wrote = subst (λ (x : List ℕ). IsPlaceAfter (writes out x) r b d) c.deref.ensures.value c.write_file.ensures.contents in
    λ no_read no_write. rw c.of_write.ensures (chunk_decided c.args.text.now out a c.in-Ok.chunk r b d c.in-Ok.ensures.contents c.in-Ok.ensures.counts wrote c.write_file.ensures.counts no_write)

pub returns-in-Ok-clause-can_read : goal.returns-in-Ok-clause-can_read
returns-in-Ok-clause-can_read g c =
    let a = g.P.Place.state c.args.place.now in
    let b = g.P.Place.state c.build_file.new.place in
    let d = g.P.Place.state c.write_file.new.place in
    let out = c.args.out.now in
    let r = c.write_file.result in
    let wrote = subst (λ (x : List ℕ). IsPlaceAfter (writes out x) r b d) c.deref.ensures.value c.write_file.ensures.contents in
    λ can. rw c.of_write.ensures (chunk_reads c.args.text.now out a c.in-Ok.chunk r b d c.in-Ok.ensures.contents c.in-Ok.ensures.counts wrote c.write_file.ensures.counts)

pub returns-in-Ok-clause-can_create : goal.returns-in-Ok-clause-can_create
returns-in-Ok-clause-can_create g c =
    let a = g.P.Place.state c.args.place.now in
    let b = g.P.Place.state c.build_file.new.place in
    let d = g.P.Place.state c.write_file.new.place in
    let out = c.args.out.now in
    let r = c.write_file.result in
    let wrote = subst (λ (x : List ℕ). IsPlaceAfter (writes out x) r b d) c.deref.ensures.value c.write_file.ensures.contents in
    λ can. rw c.of_write.ensures (chunk_writes c.args.text.now out a c.in-Ok.chunk r b d c.in-Ok.ensures.contents c.in-Ok.ensures.counts wrote c.write_file.ensures.counts can)

pub returns-in-Err-clause-each : goal.returns-in-Err-clause-each
returns-in-Err-clause-each g c = built_accepted

pub returns-in-Err-clause-complete : goal.returns-in-Err-clause-complete
returns-in-Err-clause-complete g c = λ no_read no_write.
    text_decided c.args.text.now c.args.out.now (g.P.Place.state c.args.place.now) (g.P.Place.state c.build_file.new.place) c.in-Err.ending c.in-Err.ensures.contents c.in-Err.ensures.counts no_read
