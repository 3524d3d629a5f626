-- The chunk of rings with new keys.
use Rattle.std.specs.Prelude.{false, ◌≡◌, ℕ, [], ◌∷◌, ◌++◌, Ok, Some, None, List, refl, map}
use lib.Utf8.{encode}
use Rattle.bstr.specs.Utf8.{pieces_from}
use Rattle.jfr_base.specs.Decimal.{decimal_number}
use Rattle.jfr_base.specs.Formats.{run, int_at}
use Rattle.jfr_base.specs.Integer.{spell, spell_in}
use Rattle.jfr_text.specs.Strings.{string_format}
use Rattle.jfr_frame.specs.Records.{records_of, record_at}
use Rattle.jfr_layout.specs.Classes.{class_faults, is_event_class, kind_of}
use Rattle.jfr_meta.specs.Attributes.{id_of}
use Rattle.jfr_meta.specs.Body.{meta_format, body_format, element_format}
use Rattle.jfr_meta.specs.Described.{described, class_flaws, classes_of, class_of, field_of, shape_of}
use Rattle.jfr_meta.specs.Slimmed.{retabled, slim_body, slim_in, slim_root, table_of}
use Rattle.jfr_meta.specs.Stays.{stay_marks}
use Rattle.jfr_value.specs.Nodes.{value_of}
use Rattle.jfr_value.specs.Reading.{class_format, value_format}
use Rattle.jfr_pool.specs.Chains.{chain_of}
use Rattle.jfr_pool.specs.Entries.{checkpoint_format, inline, number_in_force}
use Rattle.jfr_chunk.specs.Metas.{rebuilt, stays_in}
use Rattle.jfr_chunk.specs.Parts.{EventAt, Parts}
use Rattle.jfr_chunk.specs.Reach.{reached_marks, remain}
use Rattle.jfr_chunk.specs.Refusal.{read_parts}
use Rattle.jfr_chunk.proofs.Chunks.{edited, header, metadata, metadata_b, record_a, record_b, rings, rings_parts}
use Rattle.jfr_renumber.specs.Keys.{count_below, group_number}
use Rattle.jfr_renumber.specs.Renumber.{firsts, new_key, new_key_of, renumber_of, renumber_with, together, used_keys}

-- Its events: of t.A to node 1, and of t.B to node 3.
abbrev to_node_1 : EventAt
to_node_1 = record { record_of = record_a; node = record { shape = inline 8; at = 327; end = 330 } }

abbrev to_node_3 : EventAt
to_node_3 = record { record_of = record_b; node = record { shape = inline 9; at = 332; end = 333 } }

-- With the event of t.B only, node 3 gets the key 0 and node 4 the key 1.
only_b : renumber_of (λ name. false) rings_parts (to_node_3 ∷ []) ≡ header 314 295 68 ++ (metadata_b ++ (3 ∷ 9 ∷ 0 ∷ 19 ∷ 1 ∷ 0 ∷ 0 ∷ 0 ∷ 0 ∷ 1 ∷ 7 ∷ 2 ∷ 0 ∷ 1 ∷ 3 ∷ 1 ∷ 114 ∷ 1 ∷ 0 ∷ 3 ∷ 1 ∷ 115 ∷ []))
unfolding renumber_with firsts new_key used_keys together group_number count_below value_of number_in_force reached_marks remain rebuilt stays_in slim_body slim_root table_of retabled stay_marks slim_in encode class_of class_flaws id_of decimal_number is_event_class spell spell_in run int_at string_format class_format value_format kind_of
only_b = refl

-- The chunk in which node 3 has the value of node 1: it refers to node 2, and its text is 'p'.
abbrev alike : List ℕ
alike = edited (edited rings 353 2) 356 112

abbrev alike_parts : Parts
alike_parts = record { bytes = alike; records = rings_parts.records; chain = rings_parts.chain; body = rings_parts.body; classes = rings_parts.classes; entries = rings_parts.entries }

parts : read_parts alike ≡ Ok alike_parts
unfolding run int_at string_format meta_format body_format element_format pieces_from described class_flaws classes_of class_of field_of shape_of id_of decimal_number class_faults kind_of read_parts records_of record_at chain_of checkpoint_format class_format value_format is_event_class
parts = refl

-- The nodes 1 and 3 get the key 0, node 2 the key 1. Nothing leads to node 4.
keys : map (λ key. new_key_of alike_parts (to_node_1 ∷ to_node_3 ∷ []) (7, key)) (1 ∷ 2 ∷ 3 ∷ 4 ∷ []) ≡ Some 0 ∷ Some 1 ∷ Some 0 ∷ None ∷ []
unfolding new_key used_keys together group_number count_below value_of number_in_force reached_marks remain run int_at string_format class_format value_format kind_of
keys = refl

-- Of the nodes 1 and 3, which are alike, only the first is in the output.
all_kept : renumber_of (λ name. false) alike_parts (to_node_1 ∷ to_node_3 ∷ []) ≡ header 352 333 68 ++ (metadata ++ (5 ∷ 8 ∷ 172 ∷ 2 ∷ 0 ∷ 3 ∷ 9 ∷ 0 ∷ 19 ∷ 1 ∷ 0 ∷ 0 ∷ 0 ∷ 0 ∷ 1 ∷ 7 ∷ 2 ∷ 0 ∷ 1 ∷ 3 ∷ 1 ∷ 112 ∷ 1 ∷ 0 ∷ 3 ∷ 1 ∷ 113 ∷ []))
unfolding renumber_with firsts new_key used_keys together group_number count_below value_of number_in_force reached_marks remain rebuilt stays_in slim_body slim_root table_of retabled stay_marks slim_in encode class_of class_flaws id_of decimal_number is_event_class spell spell_in run int_at string_format class_format value_format kind_of
all_kept = refl
