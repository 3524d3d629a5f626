-- What whole chunks become if every event is kept and texts are masked.
use Rattle.std.specs.Prelude.{◌≡◌, ℕ, false, List, [], ◌∷◌, ◌++◌, Result, Ok, Err, codes, refl}
use Rattle.std.specs.Fmt.{digits}
use Rattle.bstr.proofs.Computing.{computing}
use Rattle.bstr.specs.Utf8.{pieces_from}
use Rattle.jfr_base.specs.Integer.{spell, spell_in}
use Rattle.jfr_base.specs.Decimal.{decimal_number}
use Rattle.jfr_base.specs.Formats.{run, int_at}
use Rattle.jfr_base.specs.declared.flaw.Flaw.{Flaw}
use Rattle.jfr_text.specs.Strings.{string_format}
use Rattle.jfr_filter.specs.Patterns.{glob}
use Rattle.jfr_layout.specs.Classes.{class_faults, kind_of, is_event_class}
use Rattle.jfr_frame.specs.Records.{records_of, record_at}
use Rattle.jfr_meta.specs.Attributes.{id_of}
use Rattle.jfr_meta.specs.Body.{meta_format, body_format, element_format}
use Rattle.jfr_meta.specs.Described.{described, class_flaws, classes_of, class_of, field_of, shape_of}
use Rattle.jfr_meta.specs.Slimmed.{retabled, slim_body, slim_in, slim_root, table_of}
use Rattle.jfr_meta.specs.Stays.{stay_marks}
use Rattle.jfr_value.specs.Reading.{class_format, value_format}
use Rattle.jfr_value.specs.Nodes.{value_of}
use Rattle.jfr_pool.specs.Chains.{chain_of}
use Rattle.jfr_pool.specs.Entries.{checkpoint_format, number_in_force}
use Rattle.jfr_chunk.specs.Metas.{rebuilt, stays_in}
use Rattle.jfr_chunk.specs.Parts.{Parts, events_of}
use Rattle.jfr_chunk.specs.Refusal.{read_parts}
use Rattle.jfr_chunk.proofs.Chunks.{edited, header, metadata, metadata_a, event_a, event_b, rings, key_twice, string_ring}
use Rattle.jfr_rewrite.specs.Rewrite.{rewritten}
use Rattle.jfr_mask.specs.MaskOf.{Masking, dictionary_after, mask_of}
use Rattle.jfr_mask.specs.Pseudonyms.{is_known}
use Rattle.jfr_mask.specs.ReachBut.{marks_but, remain_but}
use lib.Utf8.{encode}

-- The strings of the fields that these patterns match are masked, except for these known texts.
abbrev masks : List (List ℕ) → List (List ℕ) → Masking
masks strings lines = record { strings = strings; except = []; known = is_known lines; described = λ name. false }

abbrev all : Masking
all = masks (codes "*" ∷ []) []

-- What a chunk becomes that is accepted, with this dictionary before it, and the dictionary after it.
abbrev becomes : Masking → List (List ℕ) → Result Parts Flaw → List ℕ
becomes m d (Ok p) = mask_of m d p (events_of p)
becomes m d (Err flaw) = []

abbrev after : Masking → List (List ℕ) → Result Parts Flaw → List (List ℕ)
after m d (Ok p) = dictionary_after m d p (events_of p)
after m d (Err flaw) = []

-- A string with this pseudonym, which has a number of one digit.
abbrev masked : ℕ → List ℕ
masked digit = 3 ∷ 8 ∷ (codes "masked-" ++ digit ∷ [])

-- The output of `rings` with this size, this first byte of the checkpoint's size, and these strings of the nodes.
abbrev rings_with : ℕ → ℕ → List ℕ → List ℕ → List ℕ → List ℕ → List ℕ
rings_with size first a b c d =
    header size 333 68 ++ (metadata ++ (event_a ++ (event_b ++ first ∷ 128 ∷ 128 ∷ 128 ∷ 0 ∷ 1 ∷ 0 ∷ 0 ∷ 0 ∷ 0 ∷ 1 ∷ 7 ∷ 4 ∷ 1 ∷ 2 ∷ (a ++ 2 ∷ 1 ∷ (b ++ 3 ∷ 4 ∷ (c ++ 4 ∷ 3 ∷ d))))))

-- Four texts, numbered in the order of the entries.
each_is_masked : becomes all [] (read_parts rings) ≡ rings_with 394 189 (masked 49) (masked 50) (masked 51) (masked 52)
unfolding run int_at string_format meta_format body_format element_format pieces_from described class_flaws classes_of class_of field_of shape_of id_of decimal_number class_faults kind_of read_parts records_of record_at chain_of checkpoint_format class_format value_format is_event_class events_of value_of number_in_force marks_but remain_but rewritten mask_of spell spell_in rebuilt stays_in slim_body slim_root table_of retabled stay_marks slim_in encode glob digits computing
each_is_masked = refl

-- One of them is known, a line that begins as a pseudonym isn't.
known_stays : becomes (masks (codes "t.Node.text" ∷ []) (codes "q" ∷ codes "masked-1" ∷ [])) [] (read_parts rings) ≡ rings_with 387 182 (masked 49) (3 ∷ 1 ∷ 113 ∷ []) (masked 50) (masked 51)
unfolding run int_at string_format meta_format body_format element_format pieces_from described class_flaws classes_of class_of field_of shape_of id_of decimal_number class_faults kind_of read_parts records_of record_at chain_of checkpoint_format class_format value_format is_event_class events_of value_of number_in_force marks_but remain_but rewritten mask_of spell spell_in rebuilt stays_in slim_body slim_root table_of retabled stay_marks slim_in encode glob digits computing
known_stays = refl

-- No field of strings matches, but sizes are five bytes long all the same.
nothing_is_masked : becomes (masks (codes "t.A.text" ∷ codes "t.Node.next" ∷ []) []) [] (read_parts rings) ≡ rings_with 366 161 (3 ∷ 1 ∷ 112 ∷ []) (3 ∷ 1 ∷ 113 ∷ []) (3 ∷ 1 ∷ 114 ∷ []) (3 ∷ 1 ∷ 115 ∷ [])
unfolding run int_at string_format meta_format body_format element_format pieces_from described class_flaws classes_of class_of field_of shape_of id_of decimal_number class_faults kind_of read_parts records_of record_at chain_of checkpoint_format class_format value_format is_event_class events_of value_of number_in_force marks_but remain_but rewritten mask_of spell spell_in rebuilt stays_in slim_body slim_root table_of retabled stay_marks slim_in encode glob digits computing
nothing_is_masked = refl

-- The dictionary before the chunk has two of the texts.
dictionary_goes_on : becomes all (codes "s" ∷ codes "q" ∷ []) (read_parts rings) ≡ rings_with 394 189 (masked 51) (masked 50) (masked 52) (masked 49)
unfolding run int_at string_format meta_format body_format element_format pieces_from described class_flaws classes_of class_of field_of shape_of id_of decimal_number class_faults kind_of read_parts records_of record_at chain_of checkpoint_format class_format value_format is_event_class events_of value_of number_in_force marks_but remain_but rewritten mask_of spell spell_in rebuilt stays_in slim_body slim_root table_of retabled stay_marks slim_in encode glob digits computing
dictionary_goes_on = refl

others_are_added : after all (codes "s" ∷ codes "q" ∷ []) (read_parts rings) ≡ codes "s" ∷ codes "q" ∷ codes "p" ∷ codes "r" ∷ []
unfolding run int_at string_format meta_format body_format element_format pieces_from described class_flaws classes_of class_of field_of shape_of id_of decimal_number class_faults kind_of read_parts records_of record_at chain_of checkpoint_format class_format value_format is_event_class events_of value_of number_in_force marks_but remain_but rewritten mask_of spell spell_in rebuilt stays_in slim_body slim_root table_of retabled stay_marks slim_in encode glob digits computing
others_are_added = refl

-- The last entry of a key is in force; the checkpoint of the other stays, without pools.
last_of_key_is_masked : becomes all [] (read_parts key_twice) ≡ header 351 318 68
    ++ (metadata_a ++ (139 ∷ 128 ∷ 128 ∷ 128 ∷ 0 ∷ 1 ∷ 0 ∷ 0 ∷ 0 ∷ 0 ∷ 0
    ∷ (event_a ++ 161 ∷ 128 ∷ 128 ∷ 128 ∷ 0 ∷ 1 ∷ 0 ∷ 0 ∷ 240 ∷ 255 ∷ 255 ∷ 255 ∷ 255 ∷ 255 ∷ 255 ∷ 255 ∷ 255 ∷ 0 ∷ 1 ∷ 7 ∷ 1 ∷ 1 ∷ 0 ∷ masked 49)))
unfolding run int_at string_format meta_format body_format element_format pieces_from described class_flaws classes_of class_of field_of shape_of id_of decimal_number class_faults kind_of read_parts records_of record_at chain_of checkpoint_format class_format value_format is_event_class events_of value_of number_in_force marks_but remain_but rewritten mask_of spell spell_in rebuilt stays_in slim_body slim_root table_of retabled stay_marks slim_in encode glob digits computing
last_of_key_is_masked = refl

-- A string whose keys lead in a ring has no text, so it becomes null, and the constants go.
ring_has_no_text : becomes all [] (read_parts string_ring) ≡ header 323 307 68 ++ (metadata_a ++ (event_a ++ 144 ∷ 128 ∷ 128 ∷ 128 ∷ 0 ∷ 1 ∷ 0 ∷ 0 ∷ 0 ∷ 0 ∷ 1 ∷ 7 ∷ 1 ∷ 1 ∷ 0 ∷ 0 ∷ []))
unfolding run int_at string_format meta_format body_format element_format pieces_from described class_flaws classes_of class_of field_of shape_of id_of decimal_number class_faults kind_of read_parts records_of record_at chain_of checkpoint_format class_format value_format is_event_class events_of value_of number_in_force marks_but remain_but rewritten mask_of spell spell_in rebuilt stays_in slim_body slim_root table_of retabled stay_marks slim_in encode glob digits computing
ring_has_no_text = refl

-- Another text in place of the first one: the output is the same.
other_text_same_output : becomes all [] (read_parts (edited rings 346 122)) ≡ becomes all [] (read_parts rings)
unfolding run int_at string_format meta_format body_format element_format pieces_from described class_flaws classes_of class_of field_of shape_of id_of decimal_number class_faults kind_of read_parts records_of record_at chain_of checkpoint_format class_format value_format is_event_class events_of value_of number_in_force marks_but remain_but rewritten mask_of spell spell_in rebuilt stays_in slim_body slim_root table_of retabled stay_marks slim_in encode glob digits computing
other_text_same_output = refl
