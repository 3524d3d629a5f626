-- What is known of a text that wasn't read.
use Rattle.std.specs.Prelude.{◌≡◌, ℕ, ◌^◌, Bool, true, nat_le, List, length, Vec, Option, None, Some, option_map, Err, IsErrOf, IsTrue, IfSome}
use Rattle.std.specs.declared.alloc.Global.{Global}
use Rattle.std.proofs.Common.{ap, arith, refl}
use Rattle.std.proofs.lemmas.Bool.Decides.{nat_tests}
use Rattle.jfr_outside.specs.World.{World, IfKnown, file}
use Rattle.jfr_file.specs.declared.file.FileFault.{FileFault}
use Rattle.jfr_file.specs.declared.file.FileFault.TheVariants.{TooLong, Failed, Memory}
use Rattle.jfr_file.specs.Files.{FileRead, IsLong}
use Rattle.jfr_build.specs.declared.reason.BuildReason.TheVariants.{TooLarge}
use Rattle.jfr_build.specs.Builds.{build_of, refused}
use Rattle.jfr_build.specs.Endings.{after_file}
use Rattle.jfr_build.specs.Streams.{TextBuilt}

-- A text of 2 ^ 30 bytes or more is refused.
too_long : (text : Option (List ℕ)) → IsLong (2 ^ 30) text → option_map build_of text ≡ Some (refused 0 TooLarge)
unfolding build_of
too_long None h = absurd h
too_long (Some bytes) h = let e : nat_le (2 ^ 30) (length bytes) ≡ true = grind (arith, nat_tests) in rw e refl

pub text_failed : (steady : Bool) (name : List ℕ) (fault : FileFault) (t u : Option World) → IfKnown t u (FileRead name (2 ^ 30) (Err fault))
    → (IsTrue steady → IsErrOf {T = Vec ℕ Global} (Err fault) Failed → IfSome t (λ w. file w name ≡ None)) → IfKnown t u (TextBuilt steady name (Err (after_file fault)))
text_failed steady name fault None u h k = tt
text_failed steady name fault (Some w) None h k = absurd h
text_failed steady name TooLong (Some w) (Some v) h k = (too_long (file w name) h.0, (ap (λ z. z.files) h.1, ap (λ z. z.output) h.1))
text_failed steady name Failed (Some w) (Some v) h k = (((λ s. k s refl), h.0), h.1)
text_failed steady name Memory (Some w) (Some v) h k = h
