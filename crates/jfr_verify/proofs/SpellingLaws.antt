-- The receipt that is written is read as its lines.
use Rattle.std.specs.Prelude.{◌≡◌, ℕ, List, [], ◌∷◌, ◌++◌, length, None}
use Rattle.std.specs.List.{flat_map}
use Rattle.std.proofs.Common.{ap, refl, sym}
use Rattle.std.proofs.lemmas.List.{append-nil}
use Rattle.jfr_base.specs.Formats.{Done, Byte, ◌>>=◌, integer, times, Exactly}
use Rattle.jfr_base.specs.Integer.{spell}
use Rattle.jfr_base.proofs.ExactLaws.{bind_exact}
use Rattle.jfr_base.proofs.Spelling.{spell_spells}
use Rattle.jfr_chunk.specs.Parts.{Parts}
use Rattle.jfr_verify.specs.declared.line.Parent.{Parent}
use Rattle.jfr_verify.specs.declared.line.Line.{Line}
use Rattle.jfr_verify.specs.declared.line.Parent.TheVariants.{OfEvent, OfEntry}
use Rattle.jfr_verify.specs.Receipts.{parent_of, parent_kind, parent_number, kind_check, line_format, receipt_format, line_bytes, lines_of, receipt_of}

integer_exact : (v : ℕ) → Exactly integer (spell v) v
integer_exact v = (spell v, [], v, sym (append-nil (spell v)), spell_spells v, refl, (refl, refl))

kind_good : (r : Parent) → kind_check (parent_kind r) ≡ None
kind_good (OfEvent n) = refl
kind_good (OfEntry n) = refl

parent_again : (r : Parent) → parent_of (parent_kind r) (parent_number r) ≡ r
parent_again (OfEvent n) = refl
parent_again (OfEntry n) = refl

line_exact : (l : Line) → Exactly line_format (line_bytes l) l
line_exact l =
    let rest : List ℕ = parent_kind l.parent ∷ spell (parent_number l.parent) in
    bind_exact integer (λ entry. Byte kind_check λ kind. integer >>= λ number. Done (record { entry = entry; parent = parent_of kind number })) (spell l.entry) rest (line_bytes l) l.entry l refl
    (integer_exact l.entry) (
      parent_kind l.parent,
      spell (parent_number l.parent),
      refl,
      kind_good l.parent,
      bind_exact integer (λ number. Done (record { entry = l.entry; parent = parent_of (parent_kind l.parent) number })) (spell (parent_number l.parent)) [] (spell (parent_number l.parent))
          (parent_number l.parent) l
          (sym (append-nil (spell (parent_number l.parent)))) (integer_exact (parent_number l.parent))
          (ap (λ z. record { entry = l.entry; parent = z }) (sym (parent_again l.parent)), refl),
    )

lines_exact : (ls : List Line) → Exactly (times (length ls) line_format) (flat_map line_bytes ls) ls
lines_exact [] = (refl, refl)
lines_exact (l ∷ ls) =
    bind_exact line_format (λ a. times (length ls) line_format >>= λ rest. Done (a ∷ rest)) (line_bytes l) (flat_map line_bytes ls) (line_bytes l ++ flat_map line_bytes ls) l (l ∷ ls) refl
    (line_exact l)
    (bind_exact (times (length ls) line_format) (λ rest. Done (l ∷ rest)) (flat_map line_bytes ls) [] (flat_map line_bytes ls) ls (l ∷ ls) (sym (append-nil (flat_map line_bytes ls))) (lines_exact ls)
    (refl, refl))

pub receipt_exact : (p : Parts) → Exactly receipt_format (receipt_of p) (lines_of p)
unfolding receipt_of receipt_format
receipt_exact p =
    bind_exact integer (λ n. times n line_format) (spell (length (lines_of p))) (flat_map line_bytes (lines_of p)) (spell (length (lines_of p)) ++ flat_map line_bytes (lines_of p))
    (length (lines_of p)) (lines_of p) refl
    (integer_exact (length (lines_of p))) (lines_exact (lines_of p))
