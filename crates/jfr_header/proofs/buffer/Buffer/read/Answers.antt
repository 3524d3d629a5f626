use Rattle.std.proofs.Common.{rules, ◌≡◌, ◌+◌, ◌-◌, ◌≤◌, ◌∙◌, sym, ap, subst, List, ℕ, length, take, vec_len}
use Rattle.std.proofs.lemmas.List.{with_items_is}
use borrow.Rule.Slice.PartMut.{put_mid}
use Rattle.jfr_outside.specs.World.{IfKnown}
use Rattle.jfr_header.specs.Taking.{Moved}
use Rattle.jfr_header.proofs.Grows.{moved_read}
use Rattle.jfr_header.proofs.buffer.Buffer.read.Goals as goal

pub returns-clause-moved : goal.returns-clause-moved
returns-clause-moved g c =
    let mine : take c.self.inside.count c.deref_mut.result.now ≡ c.args.self.now = ap (take c.self.inside.count) c.deref_mut.ensures.value ∙ c.in_ok-make_space.ensures.kept ∙ c.self.view_is in
    let within : c.self.inside.count ≤ length c.deref_mut.result.now = search rules in
    let whole : length (put_mid c.self.inside.count (c.min-most.result - c.self.inside.count) c.deref_mut.result.now c.read.new.into) ≡ vec_len c.make_space.new.memory = search rules in
    subst (λ (l : List ℕ). IfKnown (g.P.Place.state c.args.place.now).contents (g.P.Place.state c.read.new.self).contents (Moved c.args.self.now (take (c.self.inside.count + c.in_ok-count.count) l)))
    (sym (with_items_is c.make_space.new.memory (put_mid c.self.inside.count (c.min-most.result - c.self.inside.count) c.deref_mut.result.now c.read.new.into) whole))
    (moved_read (g.P.Place.state c.args.place.now).contents (g.P.Place.state c.read.new.self).contents c.args.self.now c.deref_mut.result.now c.read.new.into c.self.inside.count c.in_ok-count.count
    (c.min-most.result - c.self.inside.count) mine within c.in_ok-count.ensures.bound c.in_ok-count.ensures.contents c.in_ok-count.ensures.bytes)
