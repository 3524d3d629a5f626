use Rattle.std.specs.Prelude.{◌≡◌}
use Rattle.std.proofs.Common.{arith, refl, sym, ◌∙◌}
use Rattle.jfr_frame.proofs.StartLaws.{kept_at, kept_count, kept_record, parts_fit, narrow_type, rebuilt, type_there}
use Rattle.jfr_frame.proofs.frames.Frames.at.Goals as goal
use Rattle.jfr_frame.proofs.frames.Frames.at.Goals.{then-start, else-start}

pub index-start-requires : goal.index-start-requires
index-start-requires c = omega (arith, kept_count _ _ _ c.self.invariant c.self.view_is, c.requires)

pub overflow_add-type_at : goal.overflow_add-type_at
overflow_add-type_at c =
    let k = kept_record _ _ _ _ _ c.self.invariant c.self.view_is (kept_at _ _ _ _ _ c.self.invariant c.self.view_is c.requires c.index-start.ensures) in
    omega (arith, (parts_fit _ _ _ _ _ k.1).0, c.from.ensures, c.self.told.0)

pub wide_type-type_id-requires-clause-order : goal.wide_type-type_id-requires-clause-order
wide_type-type_id-requires-clause-order c =
    let k = kept_record _ _ _ _ _ c.self.invariant c.self.view_is (kept_at _ _ _ _ _ c.self.invariant c.self.view_is c.requires c.index-start.ensures) in
    omega (arith, (parts_fit _ _ _ _ _ k.1).0, c.from.ensures)

pub wide_type-type_id-requires-clause-spelled : goal.wide_type-type_id-requires-clause-spelled
wide_type-type_id-requires-clause-spelled c =
    let k = kept_record _ _ _ _ _ c.self.invariant c.self.view_is (kept_at _ _ _ _ _ c.self.invariant c.self.view_is c.requires c.index-start.ensures) in
    rw c.from.ensures (k.0.body, k.0.type_id, type_there _ _ _ _ _ k.1)

pub end-requires : goal.end-requires
end-requires c =
    let k = kept_record _ _ _ _ _ c.self.invariant c.self.view_is (kept_at _ _ _ _ _ c.self.invariant c.self.view_is c.requires c.index-start.ensures) in
    k.1.below

pub overflow_add-result : goal.overflow_add-result
overflow_add-result c =
    let k = kept_record _ _ _ _ _ c.self.invariant c.self.view_is (kept_at _ _ _ _ _ c.self.invariant c.self.view_is c.requires c.index-start.ensures) in
    omega (arith, (parts_fit _ _ _ _ _ k.1).1, c.from-2.ensures, c.self.told.0)

pub overflow_sub-result : goal.overflow_sub-result
overflow_sub-result c =
    let k = kept_record _ _ _ _ _ c.self.invariant c.self.view_is (kept_at _ _ _ _ _ c.self.invariant c.self.view_is c.requires c.index-start.ensures) in
    (rebuilt _ _ _ _ _ _ _ k.1 c.end.ensures refl).0

pub returns : goal.returns
returns c =
    let k = kept_record _ _ _ _ _ c.self.invariant c.self.view_is (kept_at _ _ _ _ _ c.self.invariant c.self.view_is c.requires c.index-start.ensures) in
    let type_id : c.if-start.type_id ≡ k.0.type_id = elim c.if-start.branch [
      | then-start w ↦ w.type_id-is ∙ w.wide_type-type_id.ensures k.0.body k.0.type_id (rw c.from.ensures (type_there _ _ _ _ _ k.1))
      | else-start w ↦ w.type_id-is ∙ (w.from-type_id.ensures ∙ narrow_type _ _ _ _ _ k.1 w.if-start.false)
    ] in
    rw (c.from.ensures, c.from-2.ensures) (sym (rebuilt _ _ _ _ _ _ _ k.1 c.end.ensures type_id).1)
