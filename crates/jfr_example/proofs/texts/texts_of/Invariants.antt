use Rattle.std.proofs.Common.{◌≡◌}
use Rattle.std.specs.Prelude.{take}
use Rattle.std.specs.List.{filter_map}
use Rattle.jfr_chunk.specs.Parts.{events_of}
use Rattle.jfr_chunk.specs.Paths.{named_text}
use Rattle.jfr_example.proofs.texts.texts_of.Given as goal

-- The texts are those of the events so far.
abbrev pub invariant-loop-number : goal.invariant-loop-number
invariant-loop-number l = l.texts ≡ filter_map (λ event. named_text l.chunk event.node l.names) (take l.number (events_of l.chunk))
