-- How building a file ends after each step.
use Rattle.std.specs.Prelude.{Result, Ok, Err}
use Rattle.jfr_header.specs.declared.ending.Ending.{Ending}
use Rattle.jfr_header.specs.declared.ending.Ending.TheVariants as endings
use Rattle.jfr_file.specs.declared.file.FileFault.{FileFault}
use Rattle.jfr_file.specs.declared.file.FileFault.TheVariants as files
use Rattle.jfr_build.specs.declared.reason.BuildReason.TheVariants.{TooLarge}
use Rattle.jfr_build.specs.declared.reason.BuildFault.{BuildFault}
use Rattle.jfr_build.specs.declared.reason.BuildFault.TheVariants as builds
use Rattle.jfr_build.specs.declared.ending.BuildEnding.{BuildEnding}
use Rattle.jfr_build.specs.declared.ending.BuildEnding.TheVariants.{Done, Refused, ReadFault, WriteFault, Memory}

-- The ending after a text file that wasn't read.
abbrev pub after_file : FileFault → BuildEnding
after_file files.TooLong = Refused 0 TooLarge
after_file files.Failed = ReadFault
after_file files.Memory = Memory

-- The ending after a text that wasn't built.
abbrev pub after_build : BuildFault → BuildEnding
after_build (builds.Refused line reason) = Refused line reason
after_build builds.Memory = Memory

-- The ending after the chunk was written, or wasn't. Writing can fail only by a write fault or for lack of
-- memory, so all other endings are treated as the latter.
abbrev pub after_write : Result (Unit {0}) Ending → BuildEnding
after_write (Ok x) = Done
after_write (Err endings.WriteFault) = WriteFault
after_write (Err _) = Memory
