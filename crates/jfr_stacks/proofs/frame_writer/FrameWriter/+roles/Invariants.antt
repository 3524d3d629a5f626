use Rattle.std.proofs.Common.{◌*◌, ◌+◌}
use Rattle.jfr_stacks.proofs.RoleLaws.{rank}
use Rattle.jfr_stacks.proofs.frame_writer.FrameWriter.+roles.Given as goal

-- The roles from the frame down, then the steps in one role.
abbrev pub decreases-push_as : goal.decreases-push_as
decreases-push_as l = 10 * rank l.role + 3

abbrev pub decreases-text_as : goal.decreases-text_as
decreases-text_as l = 10 * rank l.role + 2

abbrev pub decreases-push_parts : goal.decreases-push_parts
decreases-push_parts l = 10 * rank l.role + 1

abbrev pub decreases-push_method : goal.decreases-push_method
decreases-push_method l = 30

abbrev pub decreases-push_names : goal.decreases-push_names
decreases-push_names l = 20

abbrev pub decreases-push_class : goal.decreases-push_class
decreases-push_class l = 19

abbrev pub decreases-push_name : goal.decreases-push_name
decreases-push_name l = 10
