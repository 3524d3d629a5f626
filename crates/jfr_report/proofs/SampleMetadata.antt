-- The metadata of a sample, and its classes.
use Rattle.std.specs.Prelude.{◌≡◌, ℕ, ◌+◌, ◌≤◌, true, false, List, [], ◌∷◌, ◌++◌, drop, length, codes, Some, None, Ok, Err}
use Rattle.std.proofs.Common.{ap, arith, refl, ◌∙◌, subst}
use Rattle.bstr.specs.Utf8.{pieces_from}
use Rattle.jfr_base.specs.Integer.{Spells, spell}
use Rattle.jfr_base.specs.Decimal.{decimal_number}
use Rattle.jfr_base.specs.Formats.{Answer, Got, Reads, run, int_at}
use Rattle.jfr_base.proofs.Exact.{ReadsOrFails, run_reads_or_fails}
use Rattle.jfr_base.proofs.HoldLaws.{Holds, holds_parts, holds_int}
use Rattle.jfr_text.specs.Strings.{string_format}
use Rattle.jfr_header.specs.declared.header.Header.{Header}
use Rattle.jfr_header.specs.Headers.{header_bytes}
use Rattle.jfr_layout.specs.Classes.{Class, Classes, Sound, class_faults, kind_of}
use Rattle.jfr_layout.specs.declared.shape.Shape.{Shape}
use Rattle.jfr_frame.specs.declared.framed.Framed.{Framed}
use Rattle.jfr_frame.specs.Records.{IsRecord}
use Rattle.jfr_meta.specs.Trees.{Node, Nil}
use Rattle.jfr_meta.specs.Attributes.{id_of}
use Rattle.jfr_meta.specs.Body.{Body, meta_format, body_format, element_format}
use Rattle.jfr_meta.specs.Described.{described, class_flaws, classes_of, class_of, field_of, shape_of, IsMetadata}
use Rattle.jfr_chunk.proofs.HasNodesLaws.{described_sound}
use Rattle.jfr_sample.specs.Metadata.{metadata}
use Rattle.jfr_sample.proofs.Lengths.{length-metadata}

abbrev pub plain : ℕ → Shape
plain class = record { class = class; constant = false; array = false }

abbrev pub node : Shape
node = record { class = 7; constant = true; array = false }

-- The five classes.
abbrev pub number_class : Class
number_class = record { id = 5; name = codes "long"; super_name = None; fields = []; categories = [] }

abbrev pub text_class : Class
text_class = record { id = 6; name = codes "java.lang.String"; super_name = None; fields = []; categories = [] }

abbrev pub node_class : Class
node_class = record { id = 7; name = codes "t.Node"; super_name = None; fields = record { name = codes "next"; shape = node } ∷ record { name = codes "text"; shape = plain 6 } ∷ []; categories = [] }

abbrev pub a_class : Class
a_class = record {
  id = 8;
  name = codes "t.A";
  super_name = Some (codes "jdk.jfr.Event");
  fields = record { name = codes "n"; shape = plain 5 } ∷ record { name = codes "node"; shape = node } ∷ [];
  categories = [];
}

abbrev pub b_class : Class
b_class = record { id = 9; name = codes "t.B"; super_name = Some (codes "jdk.jfr.Event"); fields = record { name = codes "node"; shape = node } ∷ []; categories = [] }

unfoldable pub sample_classes : Classes
sample_classes = number_class ∷ text_class ∷ node_class ∷ a_class ∷ b_class ∷ []

-- The record of the metadata.
abbrev pub sample_metadata : Framed
sample_metadata = record { at = 68; size = 257; type_at = 70; type_id = 0; body = 71 }

-- The body that is read.
abbrev body_in : Answer Body → Body
body_in (Ok g) = g.value
body_in (Err flaw) = record { start = 0; duration = 0; id = 0; strings = []; root = Node 0 0 [] Nil }

abbrev blank : Header
blank = record { major = 0; minor = 0; size = 0; pools = 0; metadata = 0; start_nanos = 0; duration_nanos = 0; start_ticks = 0; ticks_per_second = 0; state = 0; padding = 0; flags = 0 }

pub sample_body : Body
sample_body = body_in (run meta_format (header_bytes blank ++ (metadata ++ [])) 325 71)

-- It is read after every header, whatever comes after the record.
body_read : (h : Header) (more : List ℕ) → run meta_format (header_bytes h ++ (metadata ++ more)) 325 71 ≡ Ok (record { value = sample_body; place = 325 })
unfolding sample_body run int_at string_format meta_format body_format element_format pieces_from metadata spell
body_read h more = refl

classes_described : described sample_body ≡ Ok sample_classes
unfolding sample_body sample_classes run int_at string_format meta_format body_format element_format pieces_from metadata spell described class_flaws classes_of class_of field_of shape_of id_of decimal_number class_faults kind_of
classes_described = refl

pub classes_sound : Sound sample_classes
classes_sound = described_sound sample_body sample_classes classes_described

by_run : (x : List ℕ) (end at : ℕ) (b : Body) (to : ℕ) → at ≤ end → end ≤ length x → run meta_format x end at ≡ Ok (record { value = b; place = to }) → Reads meta_format x end at b to
by_run x end at b to i j e = by_answer (run meta_format x end at) e (run_reads_or_fails meta_format x end at i j)
  where
    by_answer : (r : Answer Body) → r ≡ Ok (record { value = b; place = to }) → ReadsOrFails meta_format x end at r → Reads meta_format x end at b to
    by_answer (Ok g) e r =
        let q : g ≡ record { value = b; place = to } = cc in
        subst (λ (z : Got Body). Reads meta_format x end at z.value z.place) q r
    by_answer (Err f) e r = cc

pub metadata_read : (h : Header) (more c : List ℕ) → c ≡ header_bytes h ++ (metadata ++ more) → 325 ≤ length c → IsMetadata c sample_metadata sample_body sample_classes
metadata_read h more c e long = record {
  body = by_run c 325 71 sample_body 325 (omega arith) long (ap (λ z. run meta_format z 325 71) e ∙ body_read h more);
  classes = classes_described;
}

-- The first bytes of the record: its size and its type.
front : metadata ≡ (129 ∷ 2 ∷ []) ++ ((0 ∷ []) ++ drop 3 metadata)
unfolding metadata spell
front = refl

size_spelled : Spells (129 ∷ 2 ∷ []) 257
size_spelled = record { form = (omega arith, omega arith); worth = refl }

type_spelled : Spells (0 ∷ []) 0
type_spelled = record { form = omega arith; worth = refl }

pub metadata_stands : (c : List ℕ) → Holds c (length c) 68 metadata → IsRecord c sample_metadata
metadata_stands c h =
    let w : 68 + length metadata ≤ length c = h.within in
    let p = holds_parts c (length c) 68 (129 ∷ 2 ∷ []) ((0 ∷ []) ++ drop 3 metadata) (subst (Holds c (length c) 68) front h) in
    let q = holds_parts c (length c) 70 (0 ∷ []) (drop 3 metadata) p.1 in
    record {
      size_spelled = holds_int c (length c) 68 (129 ∷ 2 ∷ []) 257 p.0 size_spelled;
      type_spelled = holds_int c (length c) 70 (0 ∷ []) 0 q.0 type_spelled;
      covers = omega arith;
      within = omega (arith, w, length-metadata);
    }
