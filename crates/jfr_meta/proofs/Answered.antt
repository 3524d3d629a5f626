-- What is computed of a record says what it holds, or why it is refused.
use Rattle.std.specs.Prelude.{◌≡◌, ℕ, List, Result, Ok, Err}
use Rattle.std.proofs.Common.{subst, inl, inr}
use Rattle.jfr_base.specs.declared.flaw.Flaw.{Flaw}
use Rattle.jfr_base.specs.declared.flaw.ReadFault.{ReadFault}
use Rattle.jfr_base.specs.declared.flaw.ReadFault.TheVariants.{Flawed, Memory}
use Rattle.jfr_base.specs.Formats.{Answer, run}
use Rattle.jfr_base.proofs.Exact.{ReadsOrFails, run_reads_or_fails}
use Rattle.jfr_frame.specs.declared.framed.Framed.{Framed}
use Rattle.jfr_frame.specs.Records.{IsRecord, record_end}
use Rattle.jfr_layout.specs.Classes.{Classes}
use Rattle.jfr_meta.specs.Answers.{IsFault, IfFlawed}
use Rattle.jfr_meta.specs.Body.{Body, meta_format}
use Rattle.jfr_meta.specs.Described.{described, described_classes, class_elements, IsMetadata, IsMetadataFlaw}
use Rattle.jfr_meta.specs.Trees.{element_offset}
use Rattle.jfr_meta.proofs.Runs.{ok}

says : (x : List ℕ) (r : Framed) (a : Answer Body) → IsRecord x r → run meta_format x (record_end r) r.body ≡ a → ReadsOrFails meta_format x (record_end r) r.body a
says x r a h e =
    let P : Answer Body → Type 0 = λ a. ReadsOrFails meta_format x (record_end r) r.body a in
    subst P e (run_reads_or_fails meta_format x (record_end r) r.body h.covers h.within)

abbrev told_of : Body → Result Classes Flaw
told_of b = described_classes b.strings (element_offset b.root) (class_elements b.strings b.root)

-- A body that is read, and the classes that it describes.
pub metadata_ok : (x : List ℕ) (r : Framed) (b : Body) (k : Classes) → IsRecord x r → run meta_format x (record_end r) r.body ≡ ok b (record_end r) → told_of b ≡ Ok k → IsMetadata x r b k
unfolding described
metadata_ok x r b k h e f = record { body = says x r (ok b (record_end r)) h e; classes = f }

-- A body that isn't read.
pub body_refused : (x : List ℕ) (r : Framed) (e : ReadFault) → IsRecord x r → IsFault (run meta_format x (record_end r) r.body) e → IfFlawed (IsMetadataFlaw x r) e
body_refused x r (Flawed f) h e = inl (says x r (Err f) h e)
body_refused x r Memory h e = tt

-- A body that describes no classes.
pub classes_refused : (x : List ℕ) (r : Framed) (b : Body) (e : ReadFault) → IsRecord x r → run meta_format x (record_end r) r.body ≡ ok b (record_end r) → IsFault (told_of b) e
    → IfFlawed (IsMetadataFlaw x r) e
unfolding described
classes_refused x r b (Flawed f) h e g = inr (b, says x r (ok b (record_end r)) h e, g)
classes_refused x r b Memory h e g = tt
