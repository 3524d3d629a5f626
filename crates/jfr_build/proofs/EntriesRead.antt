-- The pools of a built chunk: one for each class that has constants, with the constants of its lines.
use Rattle.std.specs.Prelude.{◌≡◌, ℕ, suc, ◌+◌, ◌==◌, Bool, true, false, not, List, [], ◌∷◌, ◌++◌, length, map, filter, Option, Some, None, is_some, cond, if◌then◌else◌}
use Rattle.std.specs.List.{flat_map, AllByRecursion, AllZip}
use Rattle.std.specs.Option.{option_map_or}
use Rattle.std.proofs.Common.{ap, arith, refl, sym, subst, length-append, ◌∙◌}
use Rattle.std.proofs.lemmas.Bool.Decides.{nat_tests}
use Rattle.std.proofs.lemmas.List.Sums.{length-filter}
use Rattle.jfr_base.specs.Integer.{spell}
use Rattle.jfr_base.specs.Formats.{Reads, Done, Here, ◌>>=◌, times}
use Rattle.jfr_base.proofs.HoldLaws.{Holds, holds_parts}
use Rattle.jfr_base.proofs.ReadLaws.{reads_then}
use Rattle.jfr_frame.proofs.WrittenRecords.{spelled_int}
use Rattle.jfr_layout.specs.Classes.{Classes, Sound}
use Rattle.jfr_value.specs.Values.{Value, bytes_of}
use Rattle.jfr_value.specs.Reading.{value_format}
use Rattle.jfr_pool.specs.Entries.{Constant as ConstantAt, constant_format, entry_of, inline}
use Rattle.jfr_chunk.specs.Parts.{Parts}
use Rattle.jfr_build.specs.declared.line.BuildLine.{BuildLine}
use Rattle.jfr_build.specs.declared.line.BuildLine.TheVariants.{Class, Field, Constant, Record, Region}
use Rattle.jfr_build.specs.declared.lines.NumberedLine.{NumberedLine}
use Rattle.jfr_build.specs.LineValues.{line_value, spelled_value}
use Rattle.jfr_build.specs.Built.{entries_of, entry_count, is_constant_of, line_entry}
use Rattle.jfr_build.specs.Accepted.{IsEntryOf, plain_lines}
use Rattle.jfr_build.proofs.ValuesRead.{spelled, value_there}
use Rattle.jfr_build.proofs.EventsRead.{IsGood}

-- What is written of a line in the pool of a class.
abbrev pub bytes_in : Classes → ℕ → BuildLine → List ℕ
bytes_in k id line = if is_constant_of id line then line_entry k line else []

-- The lines of a class, without their numbers.
abbrev pub lines_of : ℕ → List BuildLine → List BuildLine
lines_of id ls = filter (is_constant_of id) ls

-- The entries of a class, without the lines' numbers.
pub plain_bytes : (k : Classes) (id : ℕ) (ls : List NumberedLine) → entries_of k ls id ≡ flat_map (bytes_in k id) (plain_lines ls)
plain_bytes k id [] = refl
plain_bytes k id (l ∷ ls) = ap (λ z. bytes_in k id l.line ++ z) (plain_bytes k id ls)

abbrev numbered : ℕ → List NumberedLine → List NumberedLine
numbered id ls = filter (λ l. is_constant_of id l.line) ls

plain_length : (id : ℕ) (ls : List NumberedLine) → length (numbered id ls) ≡ length (lines_of id (plain_lines ls))
plain_length id [] = refl
plain_length id (l ∷ ls) = by_test (is_constant_of id l.line) (plain_length id ls)
  where
    by_test : (t : Bool) → length (numbered id ls) ≡ length (lines_of id (plain_lines ls))
        → length (cond t (l ∷ numbered id ls) (numbered id ls)) ≡ length (cond t (l.line ∷ lines_of id (plain_lines ls)) (lines_of id (plain_lines ls)))
    by_test true e = ap (λ n. suc n) e
    by_test false e = e

-- The number of entries of a class.
pub plain_count : (id : ℕ) (ls : List NumberedLine) → entry_count ls id ≡ length (lines_of id (plain_lines ls))
plain_count id ls = sym (length-filter (λ (l : NumberedLine). is_constant_of id l.line) ls) ∙ plain_length id ls

-- Constants one after another, which are those of these lines.
pub record ConstantsStand (p : Parts) (end at to number class : ℕ) (lines : List BuildLine) : Type 0 where
  pub constants : List ConstantAt
  pub reads : Reads (times (length lines) (constant_format p.classes class)) p.bytes end at constants to
  pub entries : AllZip (IsEntryOf p) lines (map (entry_of 0 number class) constants)

module _ (p : Parts) (sound : Sound p.classes) (end : ℕ) where
  abbrev k : Classes
  k = p.classes

  abbrev c : List ℕ
  c = p.bytes

  -- The entry of a constant, before those of the lines after it.
  constant_before : (at to number class key : ℕ) (words : List (List ℕ)) (v : Value) (lines : List BuildLine) → spelled_value k class words ≡ Some v → Holds c end at (spell key ++ bytes_of v)
      → ConstantsStand p end (at + length (spell key ++ bytes_of v)) to number class lines → ConstantsStand p end at to number class (Constant class key words ∷ lines)
  constant_before at to number class key words v lines value h rest =
      let q = holds_parts c end at (spell key) (bytes_of v) h in
      let m : ℕ = at + length (spell key) in
      let last : ℕ = m + length (bytes_of v) in
      let e : at + length (spell key ++ bytes_of v) ≡ last = omega (arith, length-append (spell key) (bytes_of v)) in
      let there = value_there p class words v end m (spelled k class words v sound value) q.1 in
      let one : ConstantAt = record { key = key; key_at = at; value_at = m; end = last; value = v } in
      let behind = λ (value : Value). Here (λ (end : ℕ). Done (record { key = key; key_at = at; value_at = m; end = end; value = value })) in
      let read : Reads (value_format k (inline class) >>= behind) c end m one last = reads_then (value_format k (inline class)) behind c end m v last one last there.reads (refl, refl) in
      let whole : Reads (constant_format k class) c end at one last = (m, key, spelled_int c end at key q.0, q.0.within, refl, read) in
      let more = subst (λ z. Reads (times (length lines) (constant_format k class)) c end z rest.constants to) e rest.reads in
      record {
        constants = one ∷ rest.constants;
        reads = reads_then (constant_format k class) (λ a. times (length lines) (constant_format k class) >>= λ rest. Done (a ∷ rest)) c end at one last (one ∷ rest.constants) to whole
            (reads_then (times (length lines) (constant_format k class)) (λ rest. Done (one ∷ rest)) c end last rest.constants to (one ∷ rest.constants) to more (refl, refl));
        entries = ((refl, refl, there.has), rest.entries);
      }

  -- What is written of a constant, before what is written of the lines after it.
  by_constant : (at to number class key : ℕ) (words : List (List ℕ)) (lines : List BuildLine) (value : Option Value) → spelled_value k class words ≡ value → not (is_some value) ≡ false
      → Holds c end at (option_map_or (λ v. spell key ++ bytes_of v) value []) → ConstantsStand p end (at + length (option_map_or (λ v. spell key ++ bytes_of v) value [])) to number class lines
      → ConstantsStand p end at to number class (Constant class key words ∷ lines)
  by_constant at to number class key words lines None e g h rest = cc
  by_constant at to number class key words lines (Some v) e g h rest = constant_before at to number class key words v lines e h rest

  by_class : (at to number id class key : ℕ) (words : List (List ℕ)) (lines : List BuildLine) (t : Bool) → (class == id) ≡ t → IsGood k (Constant class key words)
      → Holds c end at (if t then line_entry k (Constant class key words) else []) → ConstantsStand p end (at + length (if t then line_entry k (Constant class key words) else [])) to number id lines
      → ConstantsStand p end at to number id (cond t (Constant class key words ∷ lines) lines)
  by_class at to number id class key words lines true e g h rest =
      let q : class ≡ id = grind (arith, nat_tests) in
      subst (λ z. ConstantsStand p end (at + length (line_entry k (Constant class key words))) to number z lines → ConstantsStand p end at to number z (Constant class key words ∷ lines)) q
      (by_constant at to number class key words lines (line_value k (Constant class key words)) refl g h) rest
  by_class at to number id class key words lines false e g h rest =
      let z : at + 0 ≡ at = omega arith in
      subst (λ m. ConstantsStand p end m to number id lines) z rest

  -- What is written of all lines for the pool of one class, one after another.
  pub constants_stand : (number id : ℕ) (ls : List BuildLine) (at : ℕ) → AllByRecursion (IsGood k) ls → Holds c end at (flat_map (bytes_in k id) ls)
      → ConstantsStand p end at (at + length (flat_map (bytes_in k id) ls)) number id (lines_of id ls)
  constants_stand number id [] at good h = record { constants = []; reads = (refl, omega arith); entries = tt }
  constants_stand number id (Class i name event ∷ ls) at good h = constants_stand number id ls at good.1 h
  constants_stand number id (Field name shape ∷ ls) at good h = constants_stand number id ls at good.1 h
  constants_stand number id (Record class words ∷ ls) at good h = constants_stand number id ls at good.1 h
  constants_stand number id (Region region ∷ ls) at good h = constants_stand number id ls at good.1 h
  constants_stand number id (Constant class key words ∷ ls) at good h =
      let one : List ℕ = bytes_in k id (Constant class key words) in
      let more : List ℕ = flat_map (bytes_in k id) ls in
      let q = holds_parts c end at one more h in
      let rest = constants_stand number id ls (at + length one) good.1 q.1 in
      let l : at + length one + length more ≡ at + length (one ++ more) = omega (arith, length-append one more) in
      by_class at (at + length (one ++ more)) number id class key words (lines_of id ls) (class == id) refl good.0 q.0
      (subst (λ z. ConstantsStand p end (at + length one) z number id (lines_of id ls)) l rest)
