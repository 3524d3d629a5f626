-- Objects of JSON, by the pieces that they are written in.
use Rattle.std.specs.Prelude.{◌≡◌, ◌≤◌, ℕ, List, [], ◌++◌, codes, decimal, length, Some, take}
use Rattle.std.specs.List.{flat_map}
use Rattle.std.specs.Option.{option_map_or}
use Rattle.std.specs.Str.{chars, encode_utf8_all, IsUtf8}
use Rattle.std.proofs.Common.{ap, refl, sym, ◌∙◌}
use Rattle.std.proofs.lemmas.List.{take_all}
use Rattle.std.proofs.lemmas.Str.{encodes-chars}
use Rattle.serde_json.specs.Data.{Data, boolean, string}
use Rattle.serde_json.specs.Written.{compact_text}
use Rattle.serde_json.proofs.OnLiterals.{serde_json_on_literals}
use Rattle.jfr_layout.specs.Classes.{Class, Classes, Field}
use Rattle.jfr_chunk.specs.Parts.{Parts}
use Rattle.jfr_show.specs.declared.beginning.Beginning.{Beginning}
use Rattle.jfr_show.specs.declared.tally.Tally.{Tally}
use Rattle.jfr_show.specs.Json.{json_line, text_json}
use Rattle.jfr_show.specs.Metadata.{class_json, field_json, metadata_json, super_json}
use Rattle.jfr_show.specs.Names.{class_name}
use Rattle.jfr_show.specs.Texts.{newline}
use Rattle.jfr_show.specs.Totals.{Totals, summary_json, tallies_json, tally_json, totals_json, version_shown}
use Rattle.jfr_show.proofs.ArrayLaws.{array_of}

-- A text by its characters, and a number by an equal one.
pub text_added : (was new text name : List ℕ) → IsUtf8 text → chars text ≡ name → new ≡ was ++ compact_text (string text) → new ≡ was ++ compact_text (text_json name)
text_added was new text name u e h = h ∙ ap (λ z. was ++ compact_text (string z)) (sym (encodes-chars text u) ∙ ap encode_utf8_all e)

pub number_added : (was new before : List ℕ) (n m : ℕ) → n ≡ m → new ≡ was ++ (before ++ decimal n) → new ≡ was ++ (before ++ decimal m)
number_added was new before n m e h = h ∙ ap (λ k. was ++ (before ++ decimal k)) e

-- A line by the text on it.
pub line_added : (was new text : List ℕ) (d : Data) → text ≡ compact_text d → new ≡ was ++ (chars text ++ newline) → new ≡ was ++ json_line d
line_added was new text d e h = h ∙ ap (λ z. was ++ (chars z ++ newline)) e

-- The objects.
pub tally_text : (name : List ℕ) (t : Tally)
    → codes "{\"name\":" ++ (compact_text (string name) ++ ((codes ",\"events\":" ++ decimal t.events) ++ ((codes ",\"bytes\":" ++ decimal t.bytes) ++ codes "}"))) ≡ compact_text (tally_json (name, t))
unfolding serde_json_on_literals
tally_text name t = refl

pub totals_text : (t : Totals) (b : Beginning)
    → codes "{\"version\":" ++ (compact_text (text_json (version_shown b))
    ++ ((codes ",\"chunks\":" ++ decimal t.chunks)
    ++ ((codes ",\"bytes\":" ++ decimal t.bytes)
    ++ ((codes ",\"start\":" ++ decimal b.start_nanos)
    ++ ((codes ",\"duration\":" ++ decimal t.duration)
    ++ ((codes ",\"events\":" ++ decimal t.events)
    ++ ((codes ",\"checkpoints\":" ++ decimal t.checkpoints)
    ++ ((codes ",\"constants\":" ++ decimal t.constants)
    ++ ((codes ",\"inert\":" ++ decimal t.inert)
    ++ (codes ",\"types\":" ++ (compact_text (tallies_json t.tallies) ++ codes "}")))))))))))
    ≡ compact_text (totals_json t b)
unfolding serde_json_on_literals
totals_text t b = refl

pub field_text : (k : Classes) (f : Field)
    → codes "{\"name\":" ++ (compact_text (text_json f.name)
    ++ (codes ",\"class\":" ++ (compact_text (text_json (class_name k f.shape.class))
    ++ (codes ",\"class_id\":" ++ (decimal f.shape.class
    ++ (codes ",\"constant\":" ++ (compact_text (boolean f.shape.constant)
    ++ (codes ",\"array\":" ++ (compact_text (boolean f.shape.array) ++ codes "}")))))))))
    ≡ compact_text (field_json k f)
unfolding serde_json_on_literals
field_text k f = refl

pub class_text : (number : ℕ) (k : Classes) (c : Class)
    → codes "{\"chunk\":" ++ (decimal number
    ++ (codes ",\"name\":" ++ (compact_text (text_json c.name)
    ++ (codes ",\"id\":" ++ (decimal c.id
    ++ (codes ",\"super\":" ++ (compact_text (super_json c.super_name)
    ++ (codes ",\"categories\":" ++ (compact_text (array_of text_json c.categories)
    ++ (codes ",\"fields\":" ++ (compact_text (array_of (field_json k) c.fields) ++ codes "}")))))))))))
    ≡ compact_text (class_json number k c)
unfolding serde_json_on_literals
class_text number k c = refl

-- The lines of a chunk's classes.
pub lines_are : (p : Parts) (number n : ℕ) (was now : List ℕ) → length p.classes ≤ n → now ≡ was ++ flat_map (λ c. json_line (class_json number p.classes c)) (take n p.classes)
    → now ≡ was ++ metadata_json p number
unfolding metadata_json
lines_are p number n was now all h =
    h ∙ ap (λ z. was ++ flat_map (λ c. json_line (class_json number p.classes c)) z) (take_all n p.classes all)

-- The line of the totals.
pub totals_line : (t : Totals) (b : Beginning) → t.first ≡ Some b → json_line (totals_json t b) ≡ summary_json t
unfolding summary_json
totals_line t b e = ap (λ o. option_map_or (λ b. json_line (totals_json t b)) o []) (sym e)
