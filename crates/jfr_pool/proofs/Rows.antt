-- Chains and entries, computed on chunks whose records are given: what comes before the checkpoints doesn't
-- matter.
use Rattle.std.specs.Prelude.{◌≡◌, ℕ, pos, negsuc, List, [], ◌∷◌, ◌++◌, None, Some, Ok, Err, codes, replicate, true, false}
use Rattle.std.proofs.Common.{refl}
use Rattle.jfr_base.specs.Formats.{int_at, run}
use Rattle.jfr_base.specs.declared.reason.Reason.TheVariants.{ChainDelta, PoolType, Short, Trailing}
use Rattle.jfr_text.specs.Strings.{string_format}
use Rattle.jfr_layout.specs.Classes.{Class, Classes, Field, kind_of}
use Rattle.jfr_value.specs.Reading.{class_format, value_format}
use Rattle.jfr_frame.specs.declared.framed.Framed.{Framed}
use Rattle.jfr_pool.specs.declared.entry.EntryAt.{EntryAt}
use Rattle.jfr_pool.specs.declared.link.Link.{Link}
use Rattle.jfr_pool.specs.Chains.{chain_of}
use Rattle.jfr_pool.specs.Entries.{checkpoint_format, entries_of, number_in_force}

abbrev framed : ℕ → ℕ → ℕ → ℕ → ℕ → Framed
framed at size type_at type_id body = record { at = at; size = size; type_at = type_at; type_id = type_id; body = body }

abbrev entry : ℕ → ℕ → ℕ → ℕ → ℕ → ℕ → ℕ → EntryAt
entry class key key_at value_at end checkpoint pool = record { class = class; key = key; key_at = key_at; value_at = value_at; end = end; checkpoint = checkpoint; pool = pool }

abbrev class : ℕ → List ℕ → List Field → Class
class id name fields = record { id = id; name = name; super_name = None; fields = fields; categories = [] }

-- Java.lang.String, and t.Node of a reference and a string.
abbrev classes : Classes
classes =
    class 6 (codes "java.lang.String") []
    ∷ class 7 (codes "t.Node") (record { name = codes "next"; shape = record { class = 7; constant = true; array = false } }
    ∷ record { name = codes "text"; shape = record { class = 6; constant = false; array = false } } ∷ [])
    ∷ []

-- A checkpoint with one entry, and an event.
abbrev first_bytes : List ℕ
first_bytes = 14 ∷ 1 ∷ 0 ∷ 0 ∷ 0 ∷ 0 ∷ 1 ∷ 7 ∷ 1 ∷ 1 ∷ 0 ∷ 3 ∷ 1 ∷ 112 ∷ []

abbrev event_bytes : List ℕ
event_bytes = 5 ∷ 8 ∷ 172 ∷ 2 ∷ 1 ∷ []

abbrev first_link : Link
first_link = record { frame = framed 325 14 326 1 327; delta_at = 329; delta_end = 330; delta = pos 0 }

-- One key twice.
abbrev twice : List ℕ
twice = replicate 325 0 ++ (first_bytes ++ (event_bytes ++ (22 ∷ 1 ∷ 0 ∷ 0 ∷ 237 ∷ 255 ∷ 255 ∷ 255 ∷ 255 ∷ 255 ∷ 255 ∷ 255 ∷ 255 ∷ 0 ∷ 1 ∷ 7 ∷ 1 ∷ 1 ∷ 0 ∷ 3 ∷ 1 ∷ 113 ∷ [])))

abbrev twice_records : List Framed
twice_records = framed 68 257 70 0 71 ∷ framed 325 14 326 1 327 ∷ framed 339 5 340 8 341 ∷ framed 344 22 345 1 346 ∷ []

abbrev twice_link : Link
twice_link = record { frame = framed 344 22 345 1 346; delta_at = 348; delta_end = 357; delta = negsuc 18 }

twice_chained : chain_of twice twice_records (framed 344 22 345 1 346) ≡ Ok (twice_link ∷ first_link ∷ [])
unfolding chain_of run int_at
twice_chained = refl

abbrev twice_entries : List EntryAt
twice_entries = entry 7 1 334 335 339 0 0 ∷ entry 7 1 361 362 366 1 0 ∷ []

twice_listed : entries_of twice classes 0 (first_link ∷ twice_link ∷ []) ≡ Ok twice_entries
unfolding checkpoint_format class_format value_format string_format kind_of run int_at
twice_listed = refl

twice_in_force : number_in_force twice_entries (7, 1) ≡ Some 1
unfolding number_in_force
twice_in_force = refl

-- Three checkpoints.
abbrev three : List ℕ
three =
    replicate 325 0
    ++ (first_bytes
    ++ ((22 ∷ 1 ∷ 0 ∷ 0 ∷ 242 ∷ 255 ∷ 255 ∷ 255 ∷ 255 ∷ 255 ∷ 255 ∷ 255 ∷ 255 ∷ 0 ∷ 1 ∷ 7 ∷ 1 ∷ 3 ∷ 0 ∷ 3 ∷ 1 ∷ 114 ∷ [])
    ++ (event_bytes ++ (15 ∷ 1 ∷ 0 ∷ 0 ∷ 229 ∷ 255 ∷ 255 ∷ 255 ∷ 255 ∷ 255 ∷ 255 ∷ 255 ∷ 255 ∷ 0 ∷ 0 ∷ []))))

abbrev three_records : List Framed
three_records = framed 68 257 70 0 71 ∷ framed 325 14 326 1 327 ∷ framed 339 22 340 1 341 ∷ framed 361 5 362 8 363 ∷ framed 366 15 367 1 368 ∷ []

abbrev second_link : Link
second_link = record { frame = framed 339 22 340 1 341; delta_at = 343; delta_end = 352; delta = negsuc 13 }

abbrev third_link : Link
third_link = record { frame = framed 366 15 367 1 368; delta_at = 370; delta_end = 379; delta = negsuc 26 }

three_chained : chain_of three three_records (framed 366 15 367 1 368) ≡ Ok (third_link ∷ second_link ∷ first_link ∷ [])
unfolding chain_of run int_at
three_chained = refl

three_listed : entries_of three classes 0 (first_link ∷ second_link ∷ third_link ∷ []) ≡ Ok (entry 7 1 334 335 339 0 0 ∷ entry 7 3 356 357 361 1 0 ∷ [])
unfolding checkpoint_format class_format value_format string_format kind_of run int_at
three_listed = refl

-- Strings that are keys, in a ring; two pools.
abbrev string_ring : List ℕ
string_ring = replicate 330 0 ++ (25 ∷ 1 ∷ 0 ∷ 0 ∷ 0 ∷ 0 ∷ 2 ∷ 7 ∷ 1 ∷ 1 ∷ 0 ∷ 2 ∷ 1 ∷ 6 ∷ 3 ∷ 1 ∷ 2 ∷ 2 ∷ 2 ∷ 2 ∷ 2 ∷ 3 ∷ 3 ∷ 1 ∷ 120 ∷ [])

ring_listed : entries_of string_ring classes 0 (record { frame = framed 330 25 331 1 332; delta_at = 334; delta_end = 335; delta = pos 0 } ∷ []) ≡ Ok (entry 7 1 339 340 343 0 0 ∷ entry 6 1 345 346 348 0 1 ∷ entry 6 2 348 349 351 0 1 ∷ entry 6 3 351 352 355 0 1 ∷ [])
unfolding checkpoint_format class_format value_format string_format kind_of run int_at
ring_listed = refl

-- The chunk of rings.
abbrev rings : List ℕ
rings =
    replicate 333 0
    ++ (29 ∷ 1 ∷ 0 ∷ 0 ∷ 0 ∷ 0 ∷ 1 ∷ 7 ∷ 4 ∷ 1 ∷ 2 ∷ 3 ∷ 1 ∷ 112 ∷ 2 ∷ 1 ∷ 3 ∷ 1 ∷ 113 ∷ 3 ∷ 4 ∷ 3 ∷ 1 ∷ 114 ∷ 4 ∷ 3 ∷ 3 ∷ 1 ∷ 115 ∷ [])

rings_listed : entries_of rings classes 0 (record { frame = framed 333 29 334 1 335; delta_at = 337; delta_end = 338; delta = pos 0 } ∷ []) ≡ Ok (entry 7 1 342 343 347 0 0 ∷ entry 7 2 347 348 352 0 0 ∷ entry 7 3 352 353 357 0 0 ∷ entry 7 4 357 358 362 0 0 ∷ [])
unfolding checkpoint_format class_format value_format string_format kind_of run int_at
rings_listed = refl

-- The plain chunk's checkpoint, with edits: a forward step, a delta that isn't there.
abbrev plain_records : ℕ → List Framed
plain_records size = framed 68 28 69 0 70 ∷ framed 96 size 97 1 98 ∷ []

forward_step : chain_of (replicate 96 0 ++ (7 ∷ 1 ∷ 0 ∷ 0 ∷ 1 ∷ 0 ∷ 0 ∷ [])) (plain_records 7) (framed 96 7 97 1 98) ≡ Err (record { offset = 100; reason = ChainDelta })
unfolding chain_of run int_at
forward_step = refl

no_delta : chain_of (replicate 96 0 ++ (4 ∷ 1 ∷ 0 ∷ 0 ∷ [])) (plain_records 4) (framed 96 4 97 1 98) ≡ Err (record { offset = 100; reason = Short })
unfolding chain_of run int_at
no_delta = refl

abbrev plain_link : ℕ → Link
plain_link size = record { frame = framed 96 size 97 1 98; delta_at = 100; delta_end = 101; delta = pos 0 }

-- A byte is left over.
left_over : entries_of (replicate 96 0 ++ (8 ∷ 1 ∷ 0 ∷ 0 ∷ 0 ∷ 0 ∷ 0 ∷ 0 ∷ [])) classes 0 (plain_link 8 ∷ []) ≡ Err (record { offset = 103; reason = Trailing })
unfolding checkpoint_format class_format value_format string_format kind_of run int_at
left_over = refl

-- A pool of an unknown class.
unknown_pool : entries_of (replicate 96 0 ++ (9 ∷ 1 ∷ 0 ∷ 0 ∷ 0 ∷ 0 ∷ 1 ∷ 10 ∷ 0 ∷ [])) classes 0 (plain_link 9 ∷ []) ≡ Err (record { offset = 103; reason = PoolType })
unfolding checkpoint_format class_format value_format string_format kind_of run int_at
unknown_pool = refl

-- An empty pool has a number too; two pools of one class.
empty_pool : entries_of (replicate 96 0 ++ (16 ∷ 1 ∷ 0 ∷ 0 ∷ 0 ∷ 0 ∷ 2 ∷ 7 ∷ 0 ∷ 7 ∷ 1 ∷ 1 ∷ 0 ∷ 3 ∷ 1 ∷ 112 ∷ [])) classes 0 (plain_link 16 ∷ []) ≡ Ok (entry 7 1 107 108 112 0 1 ∷ [])
unfolding checkpoint_format class_format value_format string_format kind_of run int_at
empty_pool = refl

-- More entries than there are bytes for.
too_many_entries : entries_of (replicate 96 0 ++ (14 ∷ 1 ∷ 0 ∷ 0 ∷ 0 ∷ 0 ∷ 1 ∷ 7 ∷ 2 ∷ 1 ∷ 0 ∷ 3 ∷ 1 ∷ 112 ∷ [])) classes 0 (plain_link 14 ∷ []) ≡ Err (record { offset = 110; reason = Short })
unfolding checkpoint_format class_format value_format string_format kind_of run int_at
too_many_entries = refl
