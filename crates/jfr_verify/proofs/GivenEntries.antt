-- The entries to which an event or an entry refers, as a call returns them.
use Rattle.std.specs.Prelude.{◌≡◌, ◌<◌, ℕ, List, [], Option, Some, None, All, length, option_map, slice_get}
use Rattle.std.specs.Option.{option_map_or}
use Rattle.std.proofs.Common.{ap, subst, sym, ◌∙◌}
use Rattle.std.proofs.lemmas.List.Elements.{All-from_recursion}
use Rattle.jfr_layout.specs.Classes.{Classes}
use Rattle.jfr_value.specs.Nodes.{NodeAt, targets}
use Rattle.jfr_pool.specs.declared.entry.EntryAt.{EntryAt}
use Rattle.jfr_pool.specs.Entries.{entry_node, number_in_force}
use Rattle.jfr_worklist.specs.Marks.{those}
use Rattle.jfr_chunk.specs.Parts.{EventAt, Parts}
use Rattle.jfr_chunk.specs.Reach.{next_entries, node_entries}
use Rattle.jfr_verify.proofs.WalkLaws.{given_below}

-- Their numbers are below the number of entries.
pub given_within : (p : Parts) (entries : List ℕ) (o : Option EventAt) (count : ℕ) → count ≡ length p.entries → Some entries ≡ option_map (λ e. node_entries p.entries p.classes p.bytes e.node) o
    → All (λ n. n < count) entries
given_within p entries o count is given = subst (λ z. All (λ n. n < z) entries) (sym is) (All-from_recursion (λ n. n < length p.entries) entries (given_below p entries o given))

-- What an entry refers to, by its node.
pub given_next : (p : Parts) (number : ℕ) (n : NodeAt) (es : List EntryAt) (k : Classes) (c : List ℕ) → es ≡ p.entries → k ≡ p.classes → c ≡ p.bytes
    → Some n ≡ option_map entry_node (slice_get p.entries number) → node_entries es k c n ≡ next_entries p number
given_next p number n es k c entries classes bytes given =
    ap (λ z. node_entries z k c n) entries ∙ (ap (λ z. node_entries p.entries z c n) classes ∙ (ap (λ z. node_entries p.entries p.classes z n) bytes ∙ by_entry (slice_get p.entries number) given))
  where
    by_entry : (o : Option EntryAt) → Some n ≡ option_map entry_node o
        → node_entries p.entries p.classes p.bytes n ≡ those (number_in_force p.entries) (option_map_or (λ e. targets p.classes p.bytes (entry_node e)) o [])
    by_entry None e = cc
    by_entry (Some x) e = let q : n ≡ entry_node x = cc in ap (node_entries p.entries p.classes p.bytes) q
