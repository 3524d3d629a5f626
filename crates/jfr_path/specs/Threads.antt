-- A filter's verdicts on the threads of a chunk.
use Rattle.std.specs.Prelude.{◌≡◌, ℕ, Bool, true, false, List, [], ◌∷◌, Option, Some, IfSome, codes, option_map}
use Rattle.std.specs.Option.{option_map_or}
use Rattle.std.specs.BTreeMap as tree
use Rattle.std.specs.BTreeMap.{BTreeMap}
use Rattle.std.specs.Ordering.{nat_cmp, ordering_then}
use Rattle.std.specs.declared.cmp.Ordering.{Ordering}
use Rattle.jfr_filter.specs.Filters.{Given, allows_thread}
use Rattle.jfr_text.specs.Strings.{Content}
use Rattle.jfr_text.specs.Strings as strings
use Rattle.jfr_value.specs.Values.{Value}
use Rattle.jfr_value.specs.declared.node.Step.TheVariants as steps
use Rattle.jfr_value.specs.Nodes.{NodeAt, IsNode, child, target}
use Rattle.jfr_chunk.specs.Parts.{Parts}
use Rattle.jfr_chunk.specs.Paths.{is_reference, named_text, string_of}
use Rattle.jfr_chunk.specs.Chosen.{or_else}

-- The name of the thread that a value leads to: its Java name if that has a text, else its name in the
-- operating system.
abbrev pub thread_text_at : Parts → NodeAt → Option (List ℕ)
thread_text_at p n = or_else (named_text p n (codes "javaName" ∷ [])) (named_text p n (codes "osName" ∷ []))

-- Whether the filter allows a thread with this name, if there is a name.
abbrev pub allows_if_named : Given → Option (List ℕ) → Option Bool
allows_if_named g text = option_map (λ t. allows_thread g (Some t)) text

-- Whether the filter allows the thread that a value leads to.
abbrev pub allows_thread_at : Given → Parts → NodeAt → Bool
allows_thread_at g p n = allows_thread g (thread_text_at p n)

-- There is a field with this number, and the filter allows the thread that it leads to.
abbrev pub is_thread_allowed : Given → Parts → NodeAt → ℕ → Bool
is_thread_allowed g p n i = option_map_or (allows_thread_at g p) (child p.classes p.bytes n (steps.Field i)) false

-- A value of the chunk that is a reference to this class and key.
pub record IsReferenceTo (p : Parts) (t : ℕ × ℕ) (n : NodeAt) : Type 0 where
  pub value : Value
  pub node : IsNode p.classes p.bytes n value
  pub reference : is_reference n ≡ true
  pub target : target p.classes p.bytes n ≡ Some t

-- The order of pairs of numbers.
abbrev pub pair_cmp : ℕ × ℕ → ℕ × ℕ → Ordering
pair_cmp a b = ordering_then (nat_cmp a.0 b.0) (nat_cmp a.1 b.1)

-- Each verdict in the map is right for every reference with its class and key.
pub record AreVerdicts (g : Given) (p : Parts) (verdicts : BTreeMap (ℕ × ℕ) Bool) : Type 0 where
  pub each : (t : ℕ × ℕ) (n : NodeAt) → IsReferenceTo p t n → IfSome (tree.get pair_cmp verdicts t) (λ allowed. allowed ≡ allows_thread_at g p n)

-- Each verdict in the map is right for a thread whose name is the string between its two offsets; it is
-- `None` if the string has no text.
pub record AreTextVerdicts (g : Given) (p : Parts) (verdicts : BTreeMap (ℕ × ℕ) (Option Bool)) : Type 0 where
  pub each : (n : NodeAt) (s : Content) → string_of p n ≡ Some s → IfSome (tree.get pair_cmp verdicts (n.at, n.end)) (λ said. said ≡ allows_if_named g (strings.text_of s))

-- A filter, and the chunk whose threads are looked up.
pub record Asked : Type 0 where
  pub filter : Given
  pub chunk : Parts
