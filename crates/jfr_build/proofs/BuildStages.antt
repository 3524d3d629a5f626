-- What a chunk that is built has passed.
use Rattle.std.specs.Prelude.{◌≡◌, ℕ, ◌<◌, ◌^◌, Bool, true, false, nat_le, nat_lt, List, [], ◌∷◌, length, slice_get, Option, Some, None, Result, Ok, Err, option_and_then, if◌then◌else◌}
use Rattle.std.proofs.Common.{ap, arith, refl, sym, subst}
use Rattle.std.proofs.lemmas.Bool.Decides.{nat_tests}
use Rattle.jfr_layout.specs.Classes.{ClassFlaw, Classes, class_faults}
use Rattle.jfr_build.specs.declared.lines.NumberedLine.{NumberedLine}
use Rattle.jfr_build.specs.declared.reason.BuildReason.TheVariants.{TooLarge}
use Rattle.jfr_build.specs.Lines.{read_lines}
use Rattle.jfr_build.specs.ClassLines.{classes_in}
use Rattle.jfr_build.specs.LineValues.{first_bad_value}
use Rattle.jfr_build.specs.Described.{metadata_record}
use Rattle.jfr_build.specs.Regions.{region_in}
use Rattle.jfr_build.specs.Built.{checkpoint_of, chunk_with, events_of}
use Rattle.jfr_build.specs.Builds.{build_chunk, build_classes, build_lines, build_of, build_values, chunk_of, if_small, line_count, refused}

-- The lines are read, their classes have no flaw and their values are good, and the chunk is theirs.
pub record Stages (text chunk : List ℕ) : Type 0 where
  pub lines : List NumberedLine
  pub read : read_lines text ≡ Ok lines
  pub flawless : class_faults (classes_in lines) ≡ []
  pub good : first_bad_value (classes_in lines) lines ≡ None
  pub made : chunk_of (classes_in lines) lines ≡ Some chunk

-- With no first flaw, there is none.
none_first : (fs : List ClassFlaw) → slice_get fs 0 ≡ None → fs ≡ []
none_first [] e = refl
none_first (f ∷ fs) e = cc

module _ (text chunk : List ℕ) where
  by_chunk : (count : ℕ) (o : Option (List ℕ)) → build_chunk count o ≡ Ok chunk → o ≡ Some chunk
  by_chunk count None e = cc
  by_chunk count (Some made) e = let h : made ≡ chunk = cc in ap (λ z. Some z) h

  by_values : (count : ℕ) (o : Option NumberedLine) (made : Option (List ℕ)) → build_values count o made ≡ Ok chunk → (o ≡ None) × (made ≡ Some chunk)
  by_values count (Some line) made e = cc
  by_values count None made e = (refl, by_chunk count made e)

  by_classes : (count : ℕ) (lines : List NumberedLine) (o : Option ClassFlaw) → build_classes count lines o ≡ Ok chunk
      → (o ≡ None) × (first_bad_value (classes_in lines) lines ≡ None) × (chunk_of (classes_in lines) lines ≡ Some chunk)
  by_classes count lines (Some f) e = cc
  by_classes count lines None e = let v = by_values count (first_bad_value (classes_in lines) lines) (chunk_of (classes_in lines) lines) e in (refl, v.0, v.1)

  by_lines : (count : ℕ) (r : Result (List NumberedLine) ℕ) → read_lines text ≡ r → build_lines count r ≡ Ok chunk → Stages text chunk
  by_lines count (Err line) q e = cc
  by_lines count (Ok lines) q e =
      let c = by_classes count lines (slice_get (class_faults (classes_in lines)) 0) e in
      record { lines = lines; read = q; flawless = none_first (class_faults (classes_in lines)) c.0; good = c.1; made = c.2 }

  by_size : (t : Bool) → (if t then refused 0 TooLarge else build_lines (line_count text) (read_lines text)) ≡ Ok chunk → Stages text chunk
  by_size true e = cc
  by_size false e = by_lines (line_count text) (read_lines text) refl e

  -- Each stage is passed in turn.
  pub stages : build_of text ≡ Ok chunk → Stages text chunk
  unfolding build_of
  stages e = by_size (nat_le (2 ^ 30) (length text)) e

-- The chunk has fewer than 2 ^ 30 bytes, and these parts.
pub record ChunkParts (k : Classes) (lines : List NumberedLine) (chunk : List ℕ) : Type 0 where
  pub metadata : List ℕ
  pub recorded : metadata_record k (region_in lines) ≡ Some metadata
  pub is : chunk ≡ chunk_with metadata (events_of k lines) (checkpoint_of k lines)
  pub small : length chunk < 2 ^ 30

small_is : (made chunk : List ℕ) → if_small made ≡ Some chunk → (chunk ≡ made) × (length chunk < 2 ^ 30)
small_is made chunk e = by_test (nat_lt (length made) (2 ^ 30)) refl e
  where
    by_test : (t : Bool) → nat_lt (length made) (2 ^ 30) ≡ t → (if t then Some made else None) ≡ Some chunk → (chunk ≡ made) × (length chunk < 2 ^ 30)
    by_test true q e =
        let h : made ≡ chunk = cc in
        let l : length made < 2 ^ 30 = grind (arith, nat_tests) in
        (sym h, subst (λ z. length z < 2 ^ 30) h l)
    by_test false q e = cc

-- What a chunk that was made consists of.
pub chunk_parts : (k : Classes) (lines : List NumberedLine) (chunk : List ℕ) → chunk_of k lines ≡ Some chunk → ChunkParts k lines chunk
unfolding chunk_of
chunk_parts k lines chunk e = by_metadata (metadata_record k (region_in lines)) refl e
  where
    by_metadata : (o : Option (List ℕ)) → metadata_record k (region_in lines) ≡ o
        → option_and_then (λ metadata. if_small (chunk_with metadata (events_of k lines) (checkpoint_of k lines))) o ≡ Some chunk → ChunkParts k lines chunk
    by_metadata None q e = cc
    by_metadata (Some metadata) q e = let s = small_is (chunk_with metadata (events_of k lines) (checkpoint_of k lines)) chunk e in record { metadata = metadata; recorded = q; is = s.0; small = s.1 }
