-- The classes of the lines, and the line of a flaw in them.
use Rattle.std.specs.Prelude.{◌≡◌, ⊤, ℕ, zero, suc, Bool, not, List, [], ◌∷◌, filter, Option, Some, None, slice_get, if◌then◌else◌, codes}
use Rattle.std.specs.Option.{option_map_or}
use Rattle.jfr_layout.specs.Classes.{Classes, Field, ClassFlaw, class_faults}
use Rattle.jfr_build.specs.declared.line.BuildLine.{BuildLine}
use Rattle.jfr_build.specs.declared.line.BuildLine.TheVariants as lines
use Rattle.jfr_build.specs.declared.lines.NumberedLine.{NumberedLine}
use Rattle.jfr_build.specs.declared.reason.BuildFault.{BuildFault}
use Rattle.jfr_build.specs.declared.reason.BuildFault.TheVariants.{Refused, Memory}
use Rattle.jfr_build.specs.declared.reason.BuildReason.TheVariants as reasons
use Rattle.jfr_build.specs.Lines.{is_class, is_region}

-- The field of this line, followed by the others; only these if the line is a region, and no fields if it is
-- neither.
abbrev pub field_before : BuildLine → List Field → List Field
field_before (lines.Class id name event) fs = []
field_before (lines.Field name shape) fs = record { name = name; shape = shape } ∷ fs
field_before (lines.Constant class key words) fs = []
field_before (lines.Record class words) fs = []
field_before (lines.Region region) fs = fs

-- The fields of the lines up to the first that is neither a field nor a region.
abbrev pub fields_in : List NumberedLine → List Field
fields_in [] = []
fields_in (l ∷ ls) = field_before l.line (fields_in ls)

-- The super type of an event.
abbrev pub super_of : Bool → Option (List ℕ)
super_of event = if event then Some (codes "jdk.jfr.Event") else None

-- The class of this line, with these fields, followed by the other classes; only these if the line isn't a
-- class.
abbrev pub class_before : BuildLine → List Field → Classes → Classes
class_before (lines.Class id name event) fs k = record { id = id; name = name; super_name = super_of event; fields = fs; categories = [] } ∷ k
class_before (lines.Field name shape) fs k = k
class_before (lines.Constant class key words) fs k = k
class_before (lines.Record class words) fs k = k
class_before (lines.Region region) fs k = k

-- The classes of the lines, each with the fields of the lines that follow it.
abbrev pub classes_in : List NumberedLine → Classes
classes_in [] = []
classes_in (l ∷ ls) = class_before l.line (fields_in ls) (classes_in ls)

-- The lines from that of the class with this index on.
abbrev pub from_class : ℕ → List NumberedLine → List NumberedLine
from_class i [] = []
from_class zero (l ∷ ls) = if is_class l.line then l ∷ ls else from_class zero ls
from_class (suc i) (l ∷ ls) = if is_class l.line then from_class i ls else from_class (suc i) ls

-- The number of the line with this index, regions aside; 0 if there is no such line.
abbrev pub number_at : List NumberedLine → ℕ → ℕ
number_at ls i = option_map_or (λ l. l.number) (slice_get (filter (λ l. not (is_region l.line)) ls) i) 0

-- The number of the first line or, with `field`, of the line with this index after it; 0 if there is no such line.
abbrev pub number_from : List NumberedLine → Option ℕ → ℕ
number_from [] field = 0
number_from (l ∷ ls) None = l.number
number_from (l ∷ ls) (Some i) = number_at ls i

-- The number of the line of the class with this index, or of its field with this number; 0 if there is no such
-- line.
abbrev pub line_at : List NumberedLine → ℕ → Option ℕ → ℕ
line_at ls class field = number_from (from_class class ls) field

-- The fault is the first flaw of the classes, at its line, or memory ran out.
abbrev pub IsClassFault : List NumberedLine → BuildFault → Type 0
IsClassFault ls (Refused line reason) = (f : ClassFlaw) × (slice_get (class_faults (classes_in ls)) 0 ≡ Some f) × (line ≡ line_at ls f.class f.field) × (reason ≡ reasons.Class f.reason)
IsClassFault ls Memory = ⊤
