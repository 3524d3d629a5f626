-- What whole chunks become if every event is kept.
use Rattle.std.specs.Prelude.{◌≡◌, ℕ, false, List, [], ◌∷◌, ◌++◌, Result, Ok, Err, refl}
use Rattle.bstr.specs.Utf8.{pieces_from}
use Rattle.jfr_base.specs.Integer.{spell, spell_in}
use Rattle.jfr_base.specs.Decimal.{decimal_number}
use Rattle.jfr_base.specs.Formats.{run, int_at}
use Rattle.jfr_text.specs.Strings.{string_format}
use Rattle.jfr_layout.specs.Classes.{class_faults, kind_of, is_event_class}
use Rattle.jfr_frame.specs.Records.{records_of, record_at}
use Rattle.jfr_meta.specs.Attributes.{id_of}
use Rattle.jfr_meta.specs.Body.{meta_format, body_format, element_format}
use Rattle.jfr_meta.specs.Described.{described, class_flaws, classes_of, class_of, field_of, shape_of}
use Rattle.jfr_value.specs.Reading.{class_format, value_format}
use Rattle.jfr_pool.specs.Chains.{chain_of}
use Rattle.jfr_base.specs.declared.flaw.Flaw.{Flaw}
use Rattle.jfr_value.specs.Nodes.{value_of}
use Rattle.jfr_pool.specs.Entries.{checkpoint_format, number_in_force}
use Rattle.jfr_chunk.specs.Parts.{Parts, events_of}
use Rattle.jfr_chunk.specs.Refusal.{read_parts}
use Rattle.jfr_chunk.specs.Reach.{remain, reached_marks}
use lib.Utf8.{encode}
use Rattle.jfr_meta.specs.Slimmed.{retabled, slim_body, slim_in, slim_root, table_of}
use Rattle.jfr_meta.specs.Stays.{stay_marks}
use Rattle.jfr_chunk.specs.Metas.{rebuilt, stays_in}
use Rattle.jfr_chunk.specs.Scrub.{scrub_of, scrub_with}
use Rattle.jfr_chunk.proofs.Chunks.{header, metadata_a, event_a, plain, inert, key_twice, three_checkpoints, string_ring}

-- What a chunk becomes that is accepted.
abbrev becomes : Result Parts Flaw → List ℕ
becomes (Ok p) = scrub_of (λ name. false) p (events_of p)
becomes (Err flaw) = []

plain_is_whole : becomes (read_parts plain) ≡ plain
unfolding run int_at string_format meta_format body_format element_format pieces_from described class_flaws classes_of class_of field_of shape_of id_of decimal_number class_faults kind_of read_parts records_of record_at chain_of checkpoint_format class_format value_format is_event_class events_of value_of number_in_force reached_marks remain scrub_with spell spell_in rebuilt stays_in slim_body slim_root table_of retabled stay_marks slim_in encode
plain_is_whole = refl

inert_ones_go : becomes (read_parts inert) ≡ plain
unfolding run int_at string_format meta_format body_format element_format pieces_from described class_flaws classes_of class_of field_of shape_of id_of decimal_number class_faults kind_of read_parts records_of record_at chain_of checkpoint_format class_format value_format is_event_class events_of value_of number_in_force reached_marks remain scrub_with spell spell_in rebuilt stays_in slim_body slim_root table_of retabled stay_marks slim_in encode
inert_ones_go = refl

last_of_key_output_records : becomes (read_parts key_twice) ≡ header 336 314 68 ++ (metadata_a ++ (7 ∷ 1 ∷ 0 ∷ 0 ∷ 0 ∷ 0 ∷ 0 ∷ (event_a ++ 22 ∷ 1 ∷ 0 ∷ 0 ∷ 244 ∷ 255 ∷ 255 ∷ 255 ∷ 255 ∷ 255 ∷ 255 ∷ 255 ∷ 255 ∷ 0 ∷ 1 ∷ 7 ∷ 1 ∷ 1 ∷ 0 ∷ 3 ∷ 1 ∷ 113 ∷ [])))
unfolding run int_at string_format meta_format body_format element_format pieces_from described class_flaws classes_of class_of field_of shape_of id_of decimal_number class_faults kind_of read_parts records_of record_at chain_of checkpoint_format class_format value_format is_event_class events_of value_of number_in_force reached_marks remain scrub_with spell spell_in rebuilt stays_in slim_body slim_root table_of retabled stay_marks slim_in encode
last_of_key_output_records = refl

deltas_are_true : becomes (read_parts three_checkpoints) ≡ header 351 336 68 ++ (metadata_a ++ (14 ∷ 1 ∷ 0 ∷ 0 ∷ 0 ∷ 0 ∷ 1 ∷ 7 ∷ 1 ∷ 1 ∷ 0 ∷ 3 ∷ 1 ∷ 112 ∷ 15 ∷ 1 ∷ 0 ∷ 0 ∷ 242 ∷ 255 ∷ 255 ∷ 255 ∷ 255 ∷ 255 ∷ 255 ∷ 255 ∷ 255 ∷ 0 ∷ 0 ∷ (event_a ++ 15 ∷ 1 ∷ 0 ∷ 0 ∷ 236 ∷ 255 ∷ 255 ∷ 255 ∷ 255 ∷ 255 ∷ 255 ∷ 255 ∷ 255 ∷ 0 ∷ 0 ∷ [])))
unfolding run int_at string_format meta_format body_format element_format pieces_from described class_flaws classes_of class_of field_of shape_of id_of decimal_number class_faults kind_of read_parts records_of record_at chain_of checkpoint_format class_format value_format is_event_class events_of value_of number_in_force reached_marks remain scrub_with spell spell_in rebuilt stays_in slim_body slim_root table_of retabled stay_marks slim_in encode
deltas_are_true = refl

keys_are_followed : becomes (read_parts string_ring) ≡ header 328 307 68 ++ (metadata_a ++ (event_a ++ 21 ∷ 1 ∷ 0 ∷ 0 ∷ 0 ∷ 0 ∷ 2 ∷ 7 ∷ 1 ∷ 1 ∷ 0 ∷ 2 ∷ 1 ∷ 6 ∷ 2 ∷ 1 ∷ 2 ∷ 2 ∷ 2 ∷ 2 ∷ 2 ∷ []))
unfolding run int_at string_format meta_format body_format element_format pieces_from described class_flaws classes_of class_of field_of shape_of id_of decimal_number class_faults kind_of read_parts records_of record_at chain_of checkpoint_format class_format value_format is_event_class events_of value_of number_in_force reached_marks remain scrub_with spell spell_in rebuilt stays_in slim_body slim_root table_of retabled stay_marks slim_in encode
keys_are_followed = refl
