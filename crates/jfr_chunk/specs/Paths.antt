-- Paths through a chunk, and the texts that they lead to.
use Rattle.std.specs.Prelude.{ℕ, zero, suc, Bool, List, [], ◌∷◌, Option, Some, None, Ok, Err, option_and_then, if◌then◌else◌}
use Rattle.std.specs.Option.{option_map, option_map_or}
use Rattle.jfr_base.specs.Formats.{Answer, run}
use Rattle.jfr_text.specs.Strings.{Content, string_format}
use Rattle.jfr_text.specs.Strings as strings
use Rattle.jfr_layout.specs.Classes.{find_class, kind_of, field_number}
use Rattle.jfr_layout.specs.declared.kind.Kind.{Kind}
use Rattle.jfr_layout.specs.declared.kind.Kind.TheVariants as kinds
use Rattle.jfr_value.specs.declared.node.Step.{Step}
use Rattle.jfr_value.specs.declared.node.Step.TheVariants as steps
use Rattle.jfr_value.specs.Nodes.{NodeAt, child, target}
use Rattle.jfr_pool.specs.Entries.{in_force, entry_node}
use Rattle.jfr_chunk.specs.Parts.{Parts}

-- The value to which a reference, or a string that is a key, leads: that of the entry in force, if there is
-- one.
abbrev pub follow : Parts → NodeAt → Option NodeAt
follow p n = option_and_then (λ t. option_map entry_node (in_force p.entries t)) (target p.classes p.bytes n)

-- The value after one step: a field, an item, or the value that a reference leads to.
abbrev pub step : Parts → NodeAt → Step → Option NodeAt
step p n (steps.Field i) = child p.classes p.bytes n (steps.Field i)
step p n (steps.Item i) = child p.classes p.bytes n (steps.Item i)
step p n steps.Follow = follow p n

-- The value to which a path leads, if it leads anywhere.
abbrev pub leads : Parts → NodeAt → List Step → Option NodeAt
leads p n [] = Some n
leads p n (s ∷ path) = option_and_then (λ m. leads p m path) (step p n s)

-- The value after following references while the test holds for the node and there is an entry in force, at
-- most n times.
abbrev pub follow_while : ℕ → (NodeAt → Bool) → Parts → NodeAt → NodeAt
follow_while zero test p n = n
follow_while (suc k) test p n = if test n then option_map_or (follow_while k test p) (follow p n) n else n

-- Whether a node is a reference.
abbrev pub is_reference : NodeAt → Bool
is_reference n = if n.shape.array then Bool.false else n.shape.constant

-- A test that holds for every node.
abbrev pub always : NodeAt → Bool
always n = Bool.true

-- The string that was read, if reading succeeded.
abbrev pub content_in : Answer Content → Option Content
content_in (Ok g) = Some g.value
content_in (Err flaw) = None

-- The content, if the kind is that of strings.
abbrev pub content_by : Kind → Option Content → Option Content
content_by kinds.Text content = content
content_by kind content = None

-- The string of a node, if its value is one.
abbrev pub string_of : Parts → NodeAt → Option Content
string_of p n =
    if n.shape.array then None else if n.shape.constant then None
    else option_and_then (λ c. content_by (kind_of c.name) (content_in (run (string_format Bool.true) p.bytes n.end n.at))) (find_class p.classes n.shape.class)

-- The text of a node: references and strings that are keys are followed, at most 16 times; then the text is
-- that of the string, if it is one.
unfoldable pub text_of : Parts → NodeAt → Option (List ℕ)
text_of p n = option_and_then strings.text_of (string_of p (follow_while 16 always p n))

-- The field of a node with this name, if there is one.
abbrev pub named_field : Parts → List ℕ → NodeAt → Option NodeAt
named_field p name n = option_and_then (λ c. option_and_then (λ i. child p.classes p.bytes n (steps.Field i)) (field_number c.fields name)) (find_class p.classes n.shape.class)

-- The value to which names lead from a node. For each name references are followed, at most 16 times; then
-- the field with this name is taken.
abbrev pub named_node : Parts → NodeAt → List (List ℕ) → Option NodeAt
named_node p n [] = Some n
named_node p n (name ∷ names) = option_and_then (λ m. named_node p m names) (named_field p name (follow_while 16 is_reference p n))

-- The text to which names lead, if there is one.
unfoldable pub named_text : Parts → NodeAt → List (List ℕ) → Option (List ℕ)
named_text p n names = option_and_then (text_of p) (named_node p n names)
