-- Where the stack traces of events are.
use Rattle.std.specs.Prelude.{◌≡◌, ◌<◌, ℕ, true, false, length, Some, None}
use Rattle.jfr_value.specs.Nodes.{NodeAt}
use Rattle.jfr_chunk.specs.Parts.{Parts}
use Rattle.jfr_chunk.specs.Paths.{is_reference}
use Rattle.jfr_stacks.specs.declared.trace.TraceLocation.{TraceLocation}
use Rattle.jfr_stacks.specs.declared.trace.TraceLocation.TheVariants.{Entry, Missing, Inline}
use Rattle.jfr_stacks.specs.Frames.{after_references, entry_number}
use Rattle.jfr_stacks.specs.Texts.{entry_text, trace_text}

-- The value is a reference to the entry with this number, and has the stack of this entry.
pub record LeadsTo (p : Parts) (n : NodeAt) (number : ℕ) : Type 0 where
  pub reference : is_reference n ≡ true
  pub entry : entry_number p n ≡ Some number
  pub within : number < length p.entries
  pub same : trace_text p (after_references 16 p n) ≡ entry_text p number

-- The value is a reference to an entry that doesn't exist, and has no stack.
pub record LeadsNowhere (p : Parts) (n : NodeAt) : Type 0 where
  pub reference : is_reference n ≡ true
  pub missing : entry_number p n ≡ None
  pub none : trace_text p (after_references 16 p n) ≡ None

-- This is the location of the stack trace in this field.
abbrev pub IsLocation : Parts → NodeAt → TraceLocation → Type 0
IsLocation p n (Entry number) = LeadsTo p n number
IsLocation p n Missing = LeadsNowhere p n
IsLocation p n Inline = is_reference n ≡ false
