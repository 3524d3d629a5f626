-- The texts of frames, methods, classes and names, and the caches of these texts.
use Rattle.std.specs.Prelude.{◌≡◌, ℕ, List, [], ◌∷◌, ◌++◌, codes, Option, Some, None, slice_get, if◌then◌else◌}
use Rattle.jfr_layout.specs.Classes.{Classes}
use Rattle.jfr_value.specs.Nodes.{NodeAt}
use Rattle.jfr_chunk.specs.Parts.{Parts}
use Rattle.jfr_chunk.specs.Paths.{is_reference}
use Rattle.jfr_stacks.specs.declared.fields.StackFields.{StackFields}
use Rattle.jfr_stacks.specs.declared.frame_writer.FrameWriter.{FrameWriter}
use Rattle.jfr_stacks.specs.declared.role.Role.{Role}
use Rattle.jfr_stacks.specs.declared.role.Role.TheVariants.{Frame, Method, Class, Name}
use Rattle.jfr_stacks.specs.declared.texts.RoleTexts.{RoleTexts}
use Rattle.jfr_stacks.specs.Frames.{entry_number, field_numbers}
use Rattle.jfr_stacks.specs.Texts.{frame_text, name_text}

-- The number of the entry in force to which a value refers, if the value is a reference and there is one.
abbrev pub referred : Parts → NodeAt → Option ℕ
referred p n = if is_reference n then entry_number p n else None

-- The name of the class of a method.
abbrev pub type_name : Parts → NodeAt → List ℕ
type_name p method = name_text p method (codes "type" ∷ codes "name" ∷ codes "string" ∷ [])

-- The name of a method or a class.
abbrev pub own_name : Parts → NodeAt → List ℕ
own_name p n = name_text p n (codes "name" ∷ codes "string" ∷ [])

-- The text of a value in a role.
abbrev pub role_text : Parts → Role → NodeAt → List ℕ
role_text p Frame n = frame_text p n
role_text p Method n = type_name p n ++ codes "." ++ own_name p n
role_text p Class n = own_name p n
role_text p Name n = name_text p n (codes "string" ∷ [])

-- Each reference to the entry with this number has this text in this role.
pub record IsEntryText (p : Parts) (role : Role) (number : ℕ) (text : List ℕ) : Type 0 where
  pub each : (n : NodeAt) → referred p n ≡ Some number → role_text p role n ≡ text

-- The texts in a cache, for each entry one or none, are those of this chunk's entries in this role.
pub record AreEntryTexts (p : Parts) (role : Role) (texts : List (Option (List ℕ))) : Type 0 where
  pub each : (number : ℕ) (text : List ℕ) → slice_get texts number ≡ Some (Some text) → IsEntryText p role number text

-- The texts in one role.
abbrev pub of_role : RoleTexts → Role → List (Option (List ℕ))
of_role texts Frame = texts.frames
of_role texts Method = texts.methods
of_role texts Class = texts.classes
of_role texts Name = texts.names

-- The texts in each role are those of this chunk.
pub record AreRoleTexts (p : Parts) (texts : RoleTexts) : Type 0 where
  pub frames : AreEntryTexts p Frame texts.frames
  pub methods : AreEntryTexts p Method texts.methods
  pub classes : AreEntryTexts p Class texts.classes
  pub names : AreEntryTexts p Name texts.names

-- The fields are those with these names.
pub record AreStackFields (k : Classes) (fields : StackFields) : Type 0 where
  pub frames : fields.frames ≡ field_numbers (codes "frames") k
  pub method : fields.method ≡ field_numbers (codes "method") k
  pub class : fields.class ≡ field_numbers (codes "type") k
  pub name : fields.name ≡ field_numbers (codes "name") k
  pub string : fields.string ≡ field_numbers (codes "string") k

-- The writer can write the frames of this chunk.
pub record WritesFor (p : Parts) (w : FrameWriter) : Type 0 where
  pub fields : AreStackFields p.classes w.fields
  pub texts : AreRoleTexts p w.texts
