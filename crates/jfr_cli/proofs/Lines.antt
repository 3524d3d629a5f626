-- Lines on a sink.
use Rattle.std.specs.Prelude.{◌≡◌, ℕ, ◌≤◌, List, take, Some, option_map}
use Rattle.std.proofs.Common.{ap, refl, ◌∙◌, subst}
use Rattle.jfr_outside.specs.World.{SinkState, added}
use Rattle.jfr_outside.specs.Counts.{Rose}
use Rattle.jfr_cli.specs.Answers.{IsAnswered, Fully, ForMemory, Part, IsMemoryLineWritten, Line, Silent, memory_line}

-- A write that failed leaves a part of the line.
pub said_partly : (line bytes : List ℕ) (status : ℕ) (a b : SinkState) → bytes ≡ line → (k : ℕ) × (b.written ≡ option_map (added (take k bytes)) a.written)
    → (a.faults ≤ b.faults) × Rose a.faults b.faults → IsAnswered status (Some line) status a b
said_partly line bytes status a b e t f = Fully refl (Part f.1 t.0 (t.1 ∙ ap (λ z. option_map (added (take t.0 z)) a.written) e))

-- The line for running out of memory in place of another.
pub said_instead : (status : ℕ) (line : List ℕ) (answer : ℕ) (a b : SinkState) → IsAnswered 5 (Some memory_line) answer a b → IsAnswered status (Some line) answer a b
said_instead status line answer a b (Fully e s) = ForMemory e (Line s)
said_instead status line answer a b (ForMemory e p) = ForMemory e p

-- The line is this one.
pub said_as : (status : ℕ) (line other : List ℕ) (answer : ℕ) (a b : SinkState) → line ≡ other → IsAnswered status (Some line) answer a b → IsAnswered status (Some other) answer a b
said_as status line other answer a b e h = subst (λ z. IsAnswered status (Some z) answer a b) e h

-- Nothing is said.
pub nothing_said : (a b : SinkState) → b.written ≡ a.written → b.faults ≡ a.faults → IsMemoryLineWritten a b
nothing_said a b w f = Silent (ap (λ z. record { written = z; faults = b.faults }) w ∙ ap (λ z. record { written = a.written; faults = z }) f)
