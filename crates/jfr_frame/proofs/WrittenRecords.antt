-- A record that was written is read: its size in a number of bytes, its type, and the rest.
use Rattle.std.specs.Prelude.{◌≡◌, ℕ, zero, suc, ◌+◌, ◌*◌, ◌/◌, ◌^◌, ◌<◌, ◌≤◌, List, ◌++◌, length}
use Rattle.std.proofs.Common.{ap, arith, refl, subst, length-append, inl}
use Rattle.jfr_base.specs.Integer.{IntAt, spell, spell_as, spell_in}
use Rattle.jfr_base.proofs.HoldLaws.{Holds, holds_parts, holds_int, holds_at, holds_narrow}
use Rattle.jfr_base.proofs.Spelling.{spell_spells}
use Rattle.jfr_base.proofs.Writing.{fits_spells}
use Rattle.jfr_frame.specs.declared.framed.Framed.{Framed}
use Rattle.jfr_frame.specs.Records.{IsRecord, record_end}
use Rattle.jfr_frame.specs.Written.{record_in}

-- A spelling in n bytes has n bytes.
length-spell_as : (n v : ℕ) → length (spell_as n v) ≡ n
length-spell_as zero v = refl
length-spell_as (suc zero) v = refl
length-spell_as (suc (suc n)) v = ap (λ k. suc k) (length-spell_as (suc n) (v / 128))

pub length-spell_in : (n v : ℕ) → length (spell_in n v) ≡ n
unfolding spell_in
length-spell_in n v = length-spell_as n v

-- An integer is read from its shortest spelling.
pub spelled_int : (c : List ℕ) (end at v : ℕ) → Holds c end at (spell v) → IntAt c at (at + length (spell v)) v
spelled_int c end at v h = holds_int c end at (spell v) v h (spell_spells v)

pub length-record_in : (width : ℕ) (body : List ℕ) → length (record_in width body) ≡ width + length body
length-record_in width body = omega (arith, length-append (spell_in width (width + length body)) body, length-spell_in width (width + length body))

-- The record at an offset whose size takes this number of bytes, and whose body is the spelling of its type,
-- followed by the rest.
abbrev pub framed : ℕ → ℕ → ℕ → List ℕ → Framed
framed width at type rest = record { at = at; size = width + length (spell type ++ rest); type_at = at + width; type_id = type; body = at + width + length (spell type) }

-- A record of this type is at the offset, and the rest of its body follows its type.
pub record IsWrittenRecord (c : List ℕ) (width at type : ℕ) (rest : List ℕ) : Type 0 where
  pub is : IsRecord c (framed width at type rest)
  pub body : Holds c (record_end (framed width at type rest)) (at + width + length (spell type)) rest

-- These bytes are a record.
pub written_record : (c : List ℕ) (width at type : ℕ) (rest : List ℕ) → 1 ≤ width → width ≤ 9 → length c < 2 ^ (7 * width) → Holds c (length c) at (record_in width (spell type ++ rest))
    → IsWrittenRecord c width at type rest
written_record c width at type rest some most small h =
    let body : List ℕ = spell type ++ rest in
    let n : ℕ = width + length body in
    let l : length (record_in width body) ≡ width + length body = length-record_in width body in
    let m : length body ≡ length (spell type) + length rest = length-append (spell type) rest in
    let w : at + length (record_in width body) ≤ length c = h.within in
    let long : length (spell_in width n) ≡ width = length-spell_in width n in
    let low : n < 2 ^ (7 * width) = omega arith in
    let p = holds_parts c (length c) at (spell_in width n) body h in
    let q = holds_parts c (length c) (at + width) (spell type) rest (holds_at c (length c) (at + length (spell_in width n)) (at + width) body (ap (λ z. at + z) long) p.1) in
    record {
      is = record {
        size_spelled = subst (λ z. IntAt c at (at + z) n) long (holds_int c (length c) at (spell_in width n) n p.0 (fits_spells n width some most (inl low)));
        type_spelled = spelled_int c (length c) (at + width) type q.0;
        covers = omega arith;
        within = omega arith;
      };
      body = holds_narrow c (length c) (at + width + length (spell type)) (at + n) rest (omega arith) (omega arith) q.1;
    }
