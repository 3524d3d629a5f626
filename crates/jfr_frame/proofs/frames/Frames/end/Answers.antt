use Rattle.std.proofs.Common.{arith, sym, ◌∙◌}
use Rattle.jfr_frame.proofs.StartLaws.{count_below, end_of}
use Rattle.jfr_frame.proofs.frames.Frames.end.Goals as goal

pub overflow_add-number : goal.overflow_add-number
overflow_add-number c = omega (arith, count_below _ _ _ _ c.self.invariant c.self.view_is c.requires, c.self.told.0)

pub returns-in-Some : goal.returns-in-Some
returns-in-Some c = end_of _ _ _ _ _ c.self.invariant c.self.view_is c.requires (sym c.start.ensures ∙ c.in-Some.is)

pub returns-in-None : goal.returns-in-None
returns-in-None c = end_of _ _ _ _ _ c.self.invariant c.self.view_is c.requires (sym c.start.ensures ∙ c.in-None.is)
