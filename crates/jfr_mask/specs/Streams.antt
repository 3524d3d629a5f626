-- The work that is given to the code, and what reading the file of known texts says.
use Rattle.std.specs.Prelude.{◌≡◌, ℕ, ◌≤◌, ◌^◌, Bool, IsTrue, List, [], length, Option, None, IsSomeAnd, Result, Ok, Err, option_map}
use Rattle.std.specs.Option.{option_map_or}
use Rattle.jfr_outside.specs.World.{State, World, file}
use Rattle.jfr_header.specs.Taking.{IsKept}
use Rattle.jfr_header.specs.declared.ending.Ending.{Ending}
use Rattle.jfr_header.specs.declared.ending.Ending.TheVariants.{ReadFault, MaskTooLong, Memory}
use Rattle.jfr_plan.specs.Rules.{Masked, Rule}
use Rattle.jfr_plan.specs.Effects.{without_sink}
use Rattle.jfr_plan.specs.Ends.{command_end}
use Rattle.jfr_plan.specs.Outcomes.{Counted, Tallied, Unchanged}
use Rattle.jfr_mask.specs.declared.stream.MaskFiles.{MaskFiles}
use Rattle.jfr_mask.specs.declared.stream.MaskRule.{MaskRule}
use Rattle.jfr_mask.specs.Commands.{AreKnown, MaskWork, rule_with}
use Rattle.jfr_mask.specs.Pseudonyms.{has_text}

-- The work of a rule and of names of files.
abbrev pub work_of : MaskRule → MaskFiles → MaskWork
work_of r f = record {
  filter = r.filter.now;
  strings = r.strings.now;
  except = option_map_or (λ p. p.now) r.except [];
  known = option_map (λ n. n.now) f.known;
  table = option_map (λ n. n.now) f.table;
  input = f.input.now;
  output = f.output.now;
}

-- Its rule with these known texts.
abbrev pub rule_by : MaskRule → MaskFiles → List (List ℕ) → Rule
rule_by r f known = rule_with (work_of r f) (has_text known)

-- The world after the file of known texts was read, if there is one: its texts are known; or it is too long, or doesn't
-- exist on a steady place. Files and output are unchanged.
abbrev pub KnownRead : Bool → Option (List ℕ) → Result (List (List ℕ)) Ending → World → World → Type 0
KnownRead steady name (Ok known) w v = IsKept w v × AreKnown name w (has_text known)
KnownRead steady name (Err (MaskTooLong n)) w v = IsKept w v × (n ≡ 0) × IsSomeAnd name (λ x. IsSomeAnd (file w x) (λ bytes. 2 ^ 30 ≤ length bytes))
KnownRead steady name (Err ReadFault) w v = IsKept w v × IsSomeAnd name (λ x. IsTrue steady → file w x ≡ None)
KnownRead steady name (Err Memory) w v = IsKept w v
KnownRead steady name (Err _) w v = ⊥

-- Only a read fault is counted.
abbrev pub KnownCounts : Result (List (List ℕ)) Ending → State → State → Type 0
KnownCounts (Ok known) a b = Counted Unchanged Unchanged Unchanged (without_sink a) (without_sink b)
KnownCounts (Err e) a b = Tallied Masked (command_end e) (without_sink a) (without_sink b)
