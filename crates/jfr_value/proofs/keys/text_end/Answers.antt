use Rattle.std.proofs.Common.{◌∙◌, ◌+◌, refl, slice_index}
use Rattle.jfr_text.specs.Strings.{Units, bare_content}
use Rattle.jfr_value.proofs.TextKeys.{bare_keyless, keyless_ends, keyless_taken, key_ends, key_taken}
use Rattle.jfr_value.proofs.keys.text_end.Goals as goal

pub returns-then-is_bare-clause-exact : goal.returns-then-is_bare-clause-exact
returns-then-is_bare-clause-exact g c =
    let kind = slice_index c.args.walk.bytes.now c.args.at in
    keyless_ends c.args.walk.bytes.now c.args.walk.end c.args.at (c.args.at + 1) (bare_content kind) (c.is_bare.ensures.bare c.if-is_bare.true)

pub returns-then-is_bare-clause-visited : goal.returns-then-is_bare-clause-visited
returns-then-is_bare-clause-visited g c =
    let kind = slice_index c.args.walk.bytes.now c.args.at in
    keyless_taken c.args.walk.bytes.now c.args.walk.end c.args.at (c.args.at + 1) (bare_content kind) (c.is_bare.ensures.bare c.if-is_bare.true)
    (g.V.VisitKey.takes c.args.walk.with.now) c.args.class c.args.visitor.now (bare_keyless kind)

pub returns-then-is_key-clause-exact : goal.returns-then-is_key-clause-exact
returns-then-is_key-clause-exact g c = c.key_end.ensures.exact ∙ key_ends c.args.walk.bytes.now c.args.walk.end c.args.at (c.is_key.ensures.key c.if-is_key.true)

pub returns-then-is_key-clause-visited : goal.returns-then-is_key-clause-visited
returns-then-is_key-clause-visited g c =
    key_taken c.args.walk.bytes.now c.args.walk.end c.args.at (c.is_key.ensures.key c.if-is_key.true)
    (g.V.VisitKey.takes c.args.walk.with.now) c.args.class c.args.visitor.now c.key_end.new.visitor c.key_end.ensures.visited

pub returns-in-Some-clause-exact : goal.returns-in-Some-clause-exact
returns-in-Some-clause-exact g c =
    let (units, read) = c.in-Some.ensures.units in
    keyless_ends c.args.walk.bytes.now c.args.walk.end c.args.at c.in-Some.to (Units units) read

pub returns-in-Some-clause-visited : goal.returns-in-Some-clause-visited
returns-in-Some-clause-visited g c =
    let (units, read) = c.in-Some.ensures.units in
    keyless_taken c.args.walk.bytes.now c.args.walk.end c.args.at c.in-Some.to (Units units) read (g.V.VisitKey.takes c.args.walk.with.now) c.args.class c.args.visitor.now refl
