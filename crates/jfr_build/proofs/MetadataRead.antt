-- The metadata record that is built is read, and describes the classes of the lines.
use Rattle.std.specs.Prelude.{◌≡◌, ℕ, ◌+◌, ◌^◌, ◌<◌, ◌&&◌, nat_lt, nat_le, Bool, true, false, List, [], ◌∷◌, ◌++◌, length, filter, Option, Some, None, Ok, if◌then◌else◌}
use Rattle.std.specs.List.{AllByRecursion}
use Rattle.std.proofs.Common.{ap, arith, refl, subst, sym, ◌∙◌}
use Rattle.std.proofs.lemmas.Bool.Decides.{nat_tests}
use Rattle.jfr_base.proofs.HoldLaws.{Holds, holds_at, holds_after, holds_parts}
use Rattle.jfr_base.specs.Formats.{Reads}
use Rattle.jfr_frame.specs.declared.framed.Framed.{Framed}
use Rattle.jfr_frame.specs.Records.{IsRecord, record_bytes, record_end}
use Rattle.jfr_layout.specs.Classes.{Class, Classes, class_faults, has_id}
use Rattle.jfr_layout.specs.Staying.{staying}
use Rattle.jfr_meta.specs.Body.{Body, meta_format}
use Rattle.jfr_meta.specs.Described.{IsMetadata, described}
use Rattle.jfr_meta.specs.Slimmed.{IsSlim, bytes_of_body, slim_body, slim_in, table_len}
use Rattle.jfr_meta.proofs.Bare.{described_bare}
use Rattle.jfr_meta.proofs.Lists.{all_members}
use Rattle.jfr_meta.proofs.SlimLaws.{is_slim}
use Rattle.jfr_meta.proofs.StayLaws.{at_any, in_get}
use Rattle.jfr_laws.proofs.Anew.{own_bytes}
use Rattle.jfr_laws.proofs.Copied.{copied_to, record_copied}
use Rattle.jfr_laws.proofs.Five.{StandsAnew, read_back}
use Rattle.jfr_laws.proofs.Metadata.{metadata_copied}
use Rattle.jfr_laws.proofs.OutputRecords.{own_frame}
use Rattle.jfr_build.specs.declared.lines.NumberedLine.{NumberedLine}
use Rattle.jfr_build.specs.declared.region.Region.{Region}
use Rattle.jfr_build.specs.ClassLines.{classes_in}
use Rattle.jfr_build.specs.Described.{body_of, metadata_record}
use Rattle.jfr_build.specs.Lines.{read_lines}
use Rattle.jfr_build.specs.Regions.{region_in}
use Rattle.jfr_build.proofs.DescribedLaws.{root_low}
use Rattle.jfr_build.proofs.GoodClasses.{GoodClass, IsGoodRegion, body_texts}
use Rattle.jfr_build.proofs.GoodLines.{read_classes, read_region}
use Rattle.jfr_build.proofs.TreeRead.{body_described}

-- The metadata record of these classes lies after the header, and describes them.
pub record MetadataStands (c m : List ℕ) (k : Classes) : Type 0 where
  pub frame : Framed
  pub at : frame.at ≡ 68
  pub end : record_end frame ≡ 68 + length m
  pub is : IsRecord c frame
  pub type_is : frame.type_id ≡ 0
  pub body : Body
  pub read : IsMetadata c frame body k

all_stay : (p : Class → Bool) (k : Classes) → AllByRecursion (λ c. p c ≡ true) k → filter p k ≡ k
all_stay p [] a = refl
all_stay p (c ∷ cs) a = ap (λ t. if t then c ∷ filter p cs else filter p cs) a.0 ∙ ap (λ z. c ∷ z) (all_stay p cs a.1)

-- With the ids of all classes, all of them stay.
same_classes : (k : Classes) → staying (has_id k) k ≡ k
same_classes k = all_stay (λ c. has_id k c.id) k (all_members (λ c. has_id k c.id ≡ true) k (λ c j. (let r = in_get k c j in at_any k r.0 c r.1)))

module _ (k : Classes) (region : Option Region) (good : AllByRecursion GoodClass k) (texts : IsGoodRegion region) (sound : class_faults k ≡ []) where
  abbrev b : Body
  b = slim_body (body_of k region) (has_id k)

  slim : IsSlim (body_of k region) k (has_id k)
  slim = is_slim (body_of k region) k (has_id k) (body_described k region good sound) (λ ts e t id other i h s n there. there)

  slim_described : described b ≡ Ok k
  slim_described = slim.classes ∙ ap (λ z. Ok z) (same_classes k)

  -- The record by itself.
  module _ (m : List ℕ) (made : metadata_record k region ≡ Some m) where
    record IsWritten : Type 0 where
      bytes : m ≡ bytes_of_body b
      small : table_len b < 536870912

    written : IsWritten
    unfolding metadata_record slim_in
    written = by_tests (nat_lt (table_len b) (2 ^ 29)) refl (nat_le (length (bytes_of_body b)) (2 ^ 30)) made
      where
        by_tests : (t : Bool) → nat_lt (table_len b) (2 ^ 29) ≡ t → (u : Bool) → (if t && u then Some (bytes_of_body b) else None) ≡ Some m → IsWritten
        by_tests true q true e = let h : m ≡ bytes_of_body b = cc in record { bytes = h; small = grind (arith, nat_tests) }
        by_tests true q false e = cc
        by_tests false q u e = cc

    holds : StandsAnew m b
    unfolding slim_body
    holds = read_back 0 0 1 b.strings b.root m slim.indices (omega (arith, slim.levels, root_low k region)) written.small (slim.texts (body_texts k region good texts)) written.bytes

    own_read : IsMetadata m (own_frame m) (record { start = b.start; duration = b.duration; id = b.id; strings = b.strings; root = holds.tree }) k
    own_read = record {
      body = subst (λ z. Reads meta_format m z 6 (record { start = b.start; duration = b.duration; id = b.id; strings = b.strings; root = holds.tree }) z) (omega arith) holds.body;
      classes = described_bare b.start b.duration b.id b.strings b.root holds.tree k (sym holds.same) slim_described;
    }

    -- The record in a chunk, after 68 bytes.
    in_chunk : (c : List ℕ) → Holds c (length c) 68 m → MetadataStands c m k
    in_chunk c h =
        let held : Holds c (length c) 68 (record_bytes m (own_frame m)) = subst (Holds c (length c) 68) (sym (own_bytes m)) h in
        let r = metadata_copied m c (own_frame m) 68 (record { start = b.start; duration = b.duration; id = b.id; strings = b.strings; root = holds.tree }) k holds.is_record held own_read in
        record {
          frame = copied_to m 68 (own_frame m);
          at = refl;
          end = ap (λ z. 68 + length z) (own_bytes m);
          is = record_copied m c (own_frame m) 68 holds.is_record held;
          type_is = refl;
          body = r.0;
          read = r.1;
        }

pub metadata_stands : (text : List ℕ) (ls : List NumberedLine) → read_lines text ≡ Ok ls → class_faults (classes_in ls) ≡ [] → (m : List ℕ) → metadata_record (classes_in ls) (region_in ls) ≡ Some m
    → (h rest c : List ℕ) → c ≡ h ++ (m ++ rest) → length h ≡ 68 → length c < 2 ^ 30 → MetadataStands c m (classes_in ls)
metadata_stands text ls e s m made h rest c is long small =
    let behind : Holds c (length c) (length h) (m ++ rest) = subst (λ z. Holds z (length z) (length h) (m ++ rest)) (sym is) (holds_after h (m ++ rest)) in
    let held : Holds c (length c) 68 m = (holds_parts c (length c) 68 m rest (holds_at c (length c) (length h) 68 (m ++ rest) long behind)).0 in
    in_chunk (classes_in ls) (region_in ls) (read_classes text ls e) (read_region text ls e) s m made c held
