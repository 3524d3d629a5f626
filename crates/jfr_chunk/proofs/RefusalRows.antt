-- What refuses a chunk: cases of each stage, in the order of the stages; and none.
use Rattle.std.specs.Prelude.{◌≡◌, [], ◌∷◌, ◌++◌, Some, None, refl}
use Rattle.bstr.specs.Utf8.{pieces_from}
use Rattle.jfr_base.specs.Decimal.{decimal_number}
use Rattle.jfr_base.specs.Formats.{run, int_at}
use Rattle.jfr_text.specs.Strings.{string_format}
use Rattle.jfr_layout.specs.Classes.{class_faults, kind_of, is_event_class}
use Rattle.jfr_frame.specs.Records.{records_of, record_at}
use Rattle.jfr_meta.specs.Attributes.{id_of}
use Rattle.jfr_meta.specs.Body.{meta_format, body_format, element_format}
use Rattle.jfr_meta.specs.Described.{described, class_flaws, classes_of, class_of, field_of, shape_of}
use Rattle.jfr_value.specs.Reading.{class_format, value_format}
use Rattle.jfr_pool.specs.Chains.{chain_of}
use Rattle.jfr_base.specs.declared.reason.Reason.TheVariants.{RecordSize, MetadataPosition, PoolPosition, ChainDelta, Short, Trailing, StringKind, StringIndex, NoClasses, ClassBad, ClassTwice, InlineDeep, PoolType}
use Rattle.jfr_pool.specs.Entries.{checkpoint_format}
use Rattle.jfr_chunk.specs.Refusal.{read_parts, refusal_of}
use Rattle.jfr_chunk.proofs.Chunks.{header, edited, no_classes, metadata, plain, rings}

size_past_the_end : refusal_of (edited plain 96 8) ≡ Some (record { offset = 96; reason = RecordSize })
unfolding refusal_of run int_at string_format meta_format body_format element_format pieces_from described class_flaws classes_of class_of field_of shape_of id_of decimal_number class_faults kind_of read_parts records_of record_at chain_of checkpoint_format class_format value_format is_event_class
size_past_the_end = refl

size_too_small : refusal_of (edited plain 96 1) ≡ Some (record { offset = 96; reason = RecordSize })
unfolding refusal_of run int_at string_format meta_format body_format element_format pieces_from described class_flaws classes_of class_of field_of shape_of id_of decimal_number class_faults kind_of read_parts records_of record_at chain_of checkpoint_format class_format value_format is_event_class
size_too_small = refl

no_metadata_there : refusal_of (edited plain 31 69) ≡ Some (record { offset = 24; reason = MetadataPosition })
unfolding refusal_of run int_at string_format meta_format body_format element_format pieces_from described class_flaws classes_of class_of field_of shape_of id_of decimal_number class_faults kind_of read_parts records_of record_at chain_of checkpoint_format class_format value_format is_event_class
no_metadata_there = refl

no_checkpoint_there : refusal_of (edited plain 23 68) ≡ Some (record { offset = 16; reason = PoolPosition })
unfolding refusal_of run int_at string_format meta_format body_format element_format pieces_from described class_flaws classes_of class_of field_of shape_of id_of decimal_number class_faults kind_of read_parts records_of record_at chain_of checkpoint_format class_format value_format is_event_class
no_checkpoint_there = refl

delta_to_nowhere : refusal_of (edited plain 100 1) ≡ Some (record { offset = 100; reason = ChainDelta })
unfolding refusal_of run int_at string_format meta_format body_format element_format pieces_from described class_flaws classes_of class_of field_of shape_of id_of decimal_number class_faults kind_of read_parts records_of record_at chain_of checkpoint_format class_format value_format is_event_class
delta_to_nowhere = refl

head_cut_short : refusal_of (header 100 96 68 ++ (no_classes ++ 4 ∷ 1 ∷ 0 ∷ 0 ∷ [])) ≡ Some (record { offset = 100; reason = Short })
unfolding refusal_of run int_at string_format meta_format body_format element_format pieces_from described class_flaws classes_of class_of field_of shape_of id_of decimal_number class_faults kind_of read_parts records_of record_at chain_of checkpoint_format class_format value_format is_event_class
head_cut_short = refl

checkpoint_goes_on : refusal_of (header 104 96 68 ++ (no_classes ++ 8 ∷ 1 ∷ 0 ∷ 0 ∷ 0 ∷ 0 ∷ 0 ∷ 0 ∷ [])) ≡ Some (record { offset = 103; reason = Trailing })
unfolding refusal_of run int_at string_format meta_format body_format element_format pieces_from described class_flaws classes_of class_of field_of shape_of id_of decimal_number class_faults kind_of read_parts records_of record_at chain_of checkpoint_format class_format value_format is_event_class
checkpoint_goes_on = refl

key_in_metadata : refusal_of (edited plain 74 2) ≡ Some (record { offset = 74; reason = StringKind })
unfolding refusal_of run int_at string_format meta_format body_format element_format pieces_from described class_flaws classes_of class_of field_of shape_of id_of decimal_number class_faults kind_of read_parts records_of record_at chain_of checkpoint_format class_format value_format is_event_class
key_in_metadata = refl

no_string_of_index : refusal_of (edited plain 90 2) ≡ Some (record { offset = 90; reason = StringIndex })
unfolding refusal_of run int_at string_format meta_format body_format element_format pieces_from described class_flaws classes_of class_of field_of shape_of id_of decimal_number class_faults kind_of read_parts records_of record_at chain_of checkpoint_format class_format value_format is_event_class
no_string_of_index = refl

no_class_list : refusal_of (edited plain 93 0) ≡ Some (record { offset = 90; reason = NoClasses })
unfolding refusal_of run int_at string_format meta_format body_format element_format pieces_from described class_flaws classes_of class_of field_of shape_of id_of decimal_number class_faults kind_of read_parts records_of record_at chain_of checkpoint_format class_format value_format is_event_class
no_class_list = refl

class_without_id : refusal_of (edited rings 250 9) ≡ Some (record { offset = 245; reason = ClassBad })
unfolding refusal_of run int_at string_format meta_format body_format element_format pieces_from described class_flaws classes_of class_of field_of shape_of id_of decimal_number class_faults kind_of read_parts records_of record_at chain_of checkpoint_format class_format value_format is_event_class
class_without_id = refl

id_twice : refusal_of (edited rings 257 15) ≡ Some (record { offset = 252; reason = ClassTwice })
unfolding refusal_of run int_at string_format meta_format body_format element_format pieces_from described class_flaws classes_of class_of field_of shape_of id_of decimal_number class_faults kind_of read_parts records_of record_at chain_of checkpoint_format class_format value_format is_event_class
id_twice = refl

within_itself : refusal_of (edited rings 272 8) ≡ Some (record { offset = 259; reason = InlineDeep })
unfolding refusal_of run int_at string_format meta_format body_format element_format pieces_from described class_flaws classes_of class_of field_of shape_of id_of decimal_number class_faults kind_of read_parts records_of record_at chain_of checkpoint_format class_format value_format is_event_class
within_itself = refl

pool_of_no_class : refusal_of (edited rings 340 10) ≡ Some (record { offset = 340; reason = PoolType })
unfolding refusal_of run int_at string_format meta_format body_format element_format pieces_from described class_flaws classes_of class_of field_of shape_of id_of decimal_number class_faults kind_of read_parts records_of record_at chain_of checkpoint_format class_format value_format is_event_class
pool_of_no_class = refl

event_cut_short : refusal_of (edited rings 332 131) ≡ Some (record { offset = 332; reason = Short })
unfolding refusal_of run int_at string_format meta_format body_format element_format pieces_from described class_flaws classes_of class_of field_of shape_of id_of decimal_number class_faults kind_of read_parts records_of record_at chain_of checkpoint_format class_format value_format is_event_class
event_cut_short = refl

-- What follows an event's last field doesn't matter.
bytes_left : refusal_of (header 363 334 68 ++ (metadata ++ 5 ∷ 8 ∷ 172 ∷ 2 ∷ 1 ∷ 4 ∷ 9 ∷ 3 ∷ 255 ∷ 29 ∷ 1 ∷ 0 ∷ 0 ∷ 0 ∷ 0 ∷ 1 ∷ 7 ∷ 4 ∷ 1 ∷ 2 ∷ 3 ∷ 1 ∷ 112 ∷ 2 ∷ 1 ∷ 3 ∷ 1 ∷ 113 ∷ 3 ∷ 4 ∷ 3 ∷ 1 ∷ 114 ∷ 4 ∷ 3 ∷ 3 ∷ 1 ∷ 115 ∷ [])) ≡ None
unfolding refusal_of run int_at string_format meta_format body_format element_format pieces_from described class_flaws classes_of class_of field_of shape_of id_of decimal_number class_faults kind_of read_parts records_of record_at chain_of checkpoint_format class_format value_format is_event_class
bytes_left = refl
