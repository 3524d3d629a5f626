-- The frames of a walk after the first six, which are kept in a part of their own.
use Rattle.std.specs.Prelude.{List, [], Option, Some, None}
use Rattle.arrayvec.specs.ArrayVec.{ArrayVec}
use Rattle.jfr_value.specs.declared.stack.Frame.{Frame}

-- The frames of that part; none if it hasn't been made.
abbrev pub far_frames : Option (ArrayVec Frame) → List Frame
far_frames None = []
far_frames (Some frames) = frames.items
