use Rattle.std.specs.Prelude.{◌≡◌, ◌++◌, take}
use Rattle.std.specs.List.{flat_map}
use Rattle.jfr_sample.specs.Metadata.{string_of}
use Rattle.jfr_sample.proofs.spelled.push_strings.Given as goal

abbrev pub invariant-loop-text : goal.invariant-loop-text
invariant-loop-text l = l.into.items ≡ l.initial.into.items ++ flat_map (λ t. string_of t.now) (take l.text-index l.texts)
