-- A filter's verdict on all events of a class.
use Rattle.std.specs.Prelude.{◌≡◌, ℕ, Bool, true, false, ◌&&◌, Option, Some, Contains}
use Rattle.std.specs.Option.{option_map_or}
use Rattle.jfr_filter.specs.Filters.{Given, allows_thread}
use Rattle.jfr_layout.specs.Classes.{Class, find_class}
use Rattle.jfr_value.specs.Nodes.{NodeAt}
use Rattle.jfr_chunk.specs.Parts.{Parts, EventAt, AreParts, events_of}
use Rattle.jfr_chunk.specs.Chosen.{is_chosen, thread_text}
use Rattle.jfr_chunk.specs.Windows.{allows_time}
use Rattle.jfr_path.specs.declared.times.Times.{Times}
use Rattle.jfr_path.specs.declared.verdict.ClassVerdict.{ClassVerdict}
use Rattle.jfr_path.specs.declared.verdict.ClassVerdict.TheVariants.{Kept, Dropped, Asked}
use Rattle.jfr_path.specs.Threads.{is_thread_allowed}
use Rattle.jfr_path.specs.Times.{is_timely}

-- The event is one of the chunk's, and its class is this one.
pub record IsOfClass (p : Parts) (c : Class) (e : EventAt) : Type 0 where
  pub parts : AreParts p
  pub listed : Contains (events_of p) e
  pub class : find_class p.classes e.record_of.type_id ≡ Some c

-- An event is in the window and its thread is allowed, as far as these are asked.
abbrev pub keeps_by : Given → Parts → NodeAt → Option Times → Option ℕ → Bool
keeps_by g p n times thread = option_map_or (is_timely g p n) times true && option_map_or (is_thread_allowed g p n) thread true

-- The verdict is right for the event: it is kept, or dropped, or kept exactly if what is asked says so.
abbrev pub IsRightFor : Given → Parts → EventAt → ClassVerdict → Type 0
IsRightFor g p e Kept = is_chosen g p e ≡ true
IsRightFor g p e Dropped = is_chosen g p e ≡ false
IsRightFor g p e (Asked times thread) = is_chosen g p e ≡ keeps_by g p e.node times thread

-- Whether the verdict is that all events of the class are kept.
abbrev pub is_kept : ClassVerdict → Bool
is_kept Kept = true
is_kept _ = false

-- The verdict is right for every event of the class, in every chunk.
pub record IsVerdict (g : Given) (c : Class) (verdict : ClassVerdict) : Type 0 where
  pub each : (p : Parts) (e : EventAt) → IsOfClass p c e → IsRightFor g p e verdict

-- The window allows, in every chunk, no event of the class, or all of them, or those in it by these fields.
pub record AllowsTimes (g : Given) (c : Class) (times : Option (Option Times)) : Type 0 where
  pub each : (p : Parts) (e : EventAt) → IsOfClass p c e → allows_time g p e ≡ option_map_or (λ asked. option_map_or (is_timely g p e.node) asked true) times false

-- The options on threads allow, in every chunk, no event of the class, or all of them, or those whose thread they
-- allow by this field.
pub record AllowsThreads (g : Given) (c : Class) (thread : Option (Option ℕ)) : Type 0 where
  pub each : (p : Parts) (e : EventAt) → IsOfClass p c e → allows_thread g (thread_text p e) ≡ option_map_or (λ asked. option_map_or (is_thread_allowed g p e.node) asked true) thread false
