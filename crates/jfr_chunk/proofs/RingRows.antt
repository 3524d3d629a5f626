-- The chunk of rings: its parts, a path through a ring, and what it becomes.
use Rattle.std.specs.Prelude.{◌≡◌, ℕ, true, false, List, [], ◌∷◌, ◌++◌, Some, None, Ok, refl, codes, map}
use Rattle.std.specs.List.{list_any}
use Rattle.std.specs.Str.{bytes_eq}
use Rattle.bstr.specs.Utf8.{pieces_from}
use Rattle.jfr_base.specs.Integer.{spell, spell_in}
use Rattle.jfr_base.specs.Decimal.{decimal_number}
use Rattle.jfr_base.specs.Formats.{run, int_at}
use Rattle.jfr_text.specs.Strings.{string_format}
use Rattle.jfr_layout.specs.Classes.{class_faults, kind_of, is_event_class}
use Rattle.jfr_frame.specs.Records.{records_of, record_at}
use Rattle.jfr_meta.specs.Attributes.{id_of}
use Rattle.jfr_meta.specs.Body.{meta_format, body_format, element_format}
use Rattle.jfr_meta.specs.Described.{described, class_flaws, classes_of, class_of, field_of, shape_of}
use Rattle.jfr_value.specs.Reading.{class_format, value_format}
use Rattle.jfr_value.specs.Nodes.{NodeAt, value_of, targets}
use Rattle.jfr_value.specs.declared.node.Step.TheVariants as steps
use Rattle.jfr_pool.specs.Chains.{chain_of}
use Rattle.jfr_pool.specs.Entries.{checkpoint_format, number_in_force, inline, entry_node}
use Rattle.jfr_chunk.specs.Parts.{EventAt, events_of}
use Rattle.jfr_chunk.specs.Refusal.{read_parts}
use Rattle.jfr_chunk.specs.Paths.{leads, text_of, named_text}
use Rattle.jfr_chunk.specs.Reach.{remain, reached_marks}
use lib.Utf8.{encode}
use Rattle.jfr_meta.specs.Slimmed.{retabled, slim_body, slim_in, slim_root, table_of}
use Rattle.jfr_meta.specs.Stays.{stay_marks}
use Rattle.jfr_chunk.specs.Metas.{Names, new_metadata, rebuilt, remaining_classes, stays_in}
use Rattle.jfr_chunk.specs.Scrub.{scrub_of, scrub_with}
use Rattle.jfr_chunk.proofs.Chunks.{header, metadata_a, metadata_b, metadata_none, event_a, event_b, rings, rings_parts, record_a, record_b, entry, entries, classes}

parts : read_parts rings ≡ Ok rings_parts
unfolding run int_at string_format meta_format body_format element_format pieces_from described class_flaws classes_of class_of field_of shape_of id_of decimal_number class_faults kind_of read_parts records_of record_at chain_of checkpoint_format class_format value_format is_event_class
parts = refl

abbrev node_a : NodeAt
node_a = record { shape = inline 8; at = 327; end = 330 }

abbrev node_b : NodeAt
node_b = record { shape = inline 9; at = 332; end = 333 }

abbrev first : EventAt
first = record { record_of = record_a; node = node_a }

abbrev second : EventAt
second = record { record_of = record_b; node = node_b }

events : events_of rings_parts ≡ first ∷ second ∷ []
unfolding events_of is_event_class kind_of run int_at string_format class_format value_format
events = refl

entry_targets : map (λ e. targets classes rings (entry_node e)) entries ≡ ((7, 2) ∷ []) ∷ ((7, 1) ∷ []) ∷ ((7, 4) ∷ []) ∷ ((7, 3) ∷ []) ∷ []
unfolding value_of run int_at string_format class_format value_format kind_of
entry_targets = refl

-- From the event to node 1, and from there to node 2, to node 1 and to node 2 again.
in_the_ring : leads rings_parts node_a (steps.Field 1 ∷ steps.Follow ∷ steps.Field 0 ∷ steps.Follow ∷ steps.Field 0 ∷ steps.Follow ∷ steps.Field 0 ∷ steps.Follow ∷ []) ≡ Some (entry_node (entry 2 347 348 352))
unfolding value_of number_in_force run int_at string_format class_format value_format kind_of
in_the_ring = refl

no_way : leads rings_parts node_a (steps.Follow ∷ []) ≡ None
unfolding value_of number_in_force run int_at string_format class_format value_format kind_of
no_way = refl

-- The text of node 1.
text : named_text rings_parts node_a (codes "node" ∷ codes "text" ∷ []) ≡ Some (codes "p")
unfolding named_text text_of value_of number_in_force run int_at string_format class_format value_format kind_of pieces_from
text = refl

remaining : remain rings_parts (first ∷ []) ≡ entry 1 342 343 347 ∷ entry 2 347 348 352 ∷ []
unfolding value_of number_in_force reached_marks remain run int_at string_format class_format value_format kind_of
remaining = refl

only_a : scrub_of (λ name. false) rings_parts (first ∷ []) ≡ header 326 307 68 ++ (metadata_a ++ (event_a ++ 19 ∷ 1 ∷ 0 ∷ 0 ∷ 0 ∷ 0 ∷ 1 ∷ 7 ∷ 2 ∷ 1 ∷ 2 ∷ 3 ∷ 1 ∷ 112 ∷ 2 ∷ 1 ∷ 3 ∷ 1 ∷ 113 ∷ []))
unfolding value_of number_in_force reached_marks remain scrub_with rebuilt stays_in slim_body slim_root table_of retabled stay_marks slim_in encode class_of class_flaws id_of decimal_number is_event_class spell spell_in run int_at string_format class_format value_format kind_of
only_a = refl

only_b : scrub_of (λ name. false) rings_parts (second ∷ []) ≡ header 314 295 68 ++ (metadata_b ++ (event_b ++ 19 ∷ 1 ∷ 0 ∷ 0 ∷ 0 ∷ 0 ∷ 1 ∷ 7 ∷ 2 ∷ 3 ∷ 4 ∷ 3 ∷ 1 ∷ 114 ∷ 4 ∷ 3 ∷ 3 ∷ 1 ∷ 115 ∷ []))
unfolding value_of number_in_force reached_marks remain scrub_with rebuilt stays_in slim_body slim_root table_of retabled stay_marks slim_in encode class_of class_flaws id_of decimal_number is_event_class spell spell_in run int_at string_format class_format value_format kind_of
only_b = refl

none_kept : scrub_of (λ name. false) rings_parts [] ≡ header 241 234 68 ++ (metadata_none ++ 7 ∷ 1 ∷ 0 ∷ 0 ∷ 0 ∷ 0 ∷ 0 ∷ [])
unfolding value_of number_in_force reached_marks remain scrub_with rebuilt stays_in slim_body slim_root table_of retabled stay_marks slim_in encode class_of class_flaws id_of decimal_number is_event_class spell spell_in run int_at string_format class_format value_format kind_of
none_kept = refl

all_kept : scrub_of (λ name. false) rings_parts (first ∷ second ∷ []) ≡ rings
unfolding value_of number_in_force reached_marks remain scrub_with rebuilt stays_in slim_body slim_root table_of retabled stay_marks slim_in encode class_of class_flaws id_of decimal_number is_event_class spell spell_in run int_at string_format class_format value_format kind_of
all_kept = refl

-- The set of the name t.A.
abbrev t_a : Names
t_a name = bytes_eq name (codes "t.A")

-- With the class t.A described, the metadata record is that of both kinds of events, or of those of t.A.
described_beside_b : new_metadata t_a rings_parts (second ∷ []) ≡ new_metadata (λ name. false) rings_parts (first ∷ second ∷ [])
unfolding rebuilt stays_in slim_body slim_root table_of retabled stay_marks slim_in encode class_of class_flaws id_of decimal_number is_event_class spell spell_in run int_at string_format class_format value_format kind_of
described_beside_b = refl

described_without_events : new_metadata t_a rings_parts [] ≡ new_metadata (λ name. false) rings_parts (first ∷ [])
unfolding rebuilt stays_in slim_body slim_root table_of retabled stay_marks slim_in encode class_of class_flaws id_of decimal_number is_event_class spell spell_in run int_at string_format class_format value_format kind_of
described_without_events = refl

abbrev names_left : Names → List (List ℕ)
names_left names = map (λ c. c.name) (remaining_classes names rings_parts (second ∷ []))

described_class_stays : list_any (λ name. bytes_eq name (codes "t.A")) (names_left t_a) ≡ true
unfolding rebuilt stays_in slim_body slim_root table_of retabled stay_marks slim_in encode class_of class_flaws id_of decimal_number is_event_class spell spell_in run int_at string_format class_format value_format kind_of
described_class_stays = refl

other_class_goes : list_any (λ name. bytes_eq name (codes "t.A")) (names_left (λ name. false)) ≡ false
unfolding rebuilt stays_in slim_body slim_root table_of retabled stay_marks slim_in encode class_of class_flaws id_of decimal_number is_event_class spell spell_in run int_at string_format class_format value_format kind_of
other_class_goes = refl
