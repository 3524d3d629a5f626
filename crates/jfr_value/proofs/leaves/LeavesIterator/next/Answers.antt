-- The leaf that is returned was the first one left.
use Rattle.std.specs.Iterator.{YieldsFirstBy}
use Rattle.std.proofs.Common.{subst}
use Rattle.jfr_value.specs.Leaves.{leaf_of}
use Rattle.jfr_value.specs.Walks.{IsWalk, remaining_leaves, remaining_values}
use Rattle.jfr_value.proofs.NextLeaf.{goes_on, nearer_end}
use Rattle.jfr_value.proofs.leaves.LeavesIterator.next.Goals as goal

step : (c : goal.After-next_in) → IsWalk c.self.inside.walk.classes.now c.self.inside.walk.bytes.now c.self.inside.walk.end c.next_in.new.cursor
    × YieldsFirstBy leaf_of (λ l. l) (remaining_leaves c.self.inside.walk.classes.now c.self.inside.walk.bytes.now c.self.inside.walk.end c.self.inside.cursor) c.next_in.result
    (remaining_leaves c.self.inside.walk.classes.now c.self.inside.walk.bytes.now c.self.inside.walk.end c.next_in.new.cursor)
step c =
    goes_on c.self.inside.walk.classes.now c.self.inside.walk.bytes.now c.self.inside.walk.end c.self.inside.cursor c.next_in.new.cursor c.self.invariant c.next_in.ensures.frames c.next_in.result
    (c.next_in.ensures.remaining (remaining_values c.self.inside.walk.classes.now c.self.inside.walk.bytes.now c.self.inside.walk.end c.self.inside.cursor) c.self.invariant.remaining)

pub invariant_of-self : goal.invariant_of-self
invariant_of-self c = (step c).0

first : goal.returns-clause-steps
first c =
    let n = remaining_leaves c.self.inside.walk.classes.now c.self.inside.walk.bytes.now c.self.inside.walk.end c.next_in.new.cursor in
    subst (λ l. YieldsFirstBy leaf_of (λ l. l) l c.next_in.result n) c.self.view_is (step c).1

pub returns-clause-steps : goal.returns-clause-steps
returns-clause-steps c = first c

pub returns-clause-goes : goal.returns-clause-goes
returns-clause-goes c = nearer_end c.next_in.result _ _ (first c)
