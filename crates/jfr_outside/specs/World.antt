-- The world outside the program, and how each call changes it.
use Rattle.std.specs.Prelude.{◌≡◌, ℕ, ◌+◌, ◌==◌, ◌&&◌, Bool, not, List, [], ◌∷◌, ◌++◌, length, take, drop, map, Option, None, Some, unwrap_or, option_map, Result, Ok, Err, IsPermutation, encode_utf8_all, if◌then◌else◌}
use Rattle.std.specs.List.{flat_map, filter_map, list_all}
use Rattle.std.specs.Str.{bytes_eq}
use Rattle.std.specs.Borrow.{Bor}
use Rattle.std.specs.Ordering.{nat_cmp}
use Rattle.std.specs.Cmp.Lexicographic.{slice_cmp}
use Rattle.std.specs.FinMap as fin
use Rattle.jfr_outside.specs.declared.fault.Fault.{Fault}
use Rattle.jfr_outside.specs.declared.fault.Fault.TheVariants.{Failed, Memory}

-- The bytes of each file, by the bytes of its name.
abbrev pub Files : Type 0
Files = fin.FinMap (slice_cmp nat_cmp) (List ℕ)

-- The files, what is left of the open input, and the name of the open output.
pub record World : Type 0 where
  pub files : Files
  pub input : Option (List ℕ)
  pub output : Option (List ℕ)

-- The world of a place, if it lets contracts see it; how often reads and writes failed; and whether it fails
-- only for stated causes.
pub record State : Type 0 where
  pub contents : Option World
  pub read_faults : ℕ
  pub write_faults : ℕ
  pub steady : Bool

-- The bytes that a sink was given, if it lets contracts see them, and how often a write failed.
pub record SinkState : Type 0 where
  pub written : Option (List ℕ)
  pub faults : ℕ

-- The bytes of a file, if it exists.
abbrev pub file : World → List ℕ → Option (List ℕ)
file w name = fin.get w.files name

-- The file is the input, if it exists; otherwise no input is open.
abbrev pub opened : List ℕ → World → World
opened name w = record w { input = file w name }

-- No input is open.
abbrev pub shut : World → World
shut w = record w { input = None }

-- The next n bytes of the input have been read.
abbrev pub taken : ℕ → World → World
taken n w = record w { input = option_map (drop n) w.input }

-- The file exists, is empty, and is the output.
abbrev pub created : List ℕ → World → World
created name w = record w { files = fin.insert w.files name []; output = Some name }

-- The bytes are added at the end of the file, if one is named.
abbrev pub grown : Option (List ℕ) → List ℕ → Files → Files
grown None bytes files = files
grown (Some name) bytes files = fin.insert files name (unwrap_or (fin.get files name) [] ++ bytes)

-- The bytes are added at the end of the output.
abbrev pub appended : List ℕ → World → World
appended bytes w = record w { files = grown w.output bytes w.files }

-- No output is open.
abbrev pub finished : World → World
finished w = record w { output = None }

-- The file exists and has these bytes.
abbrev pub put : List ℕ → List ℕ → World → World
put name bytes w = record w { files = fin.insert w.files name bytes }

-- No files, nothing open.
abbrev pub empty_world : World
empty_world = record { files = fin.empty; input = None; output = None }

-- The bytes follow those written before.
abbrev pub added : List ℕ → List ℕ → List ℕ
added bytes before = before ++ bytes

-- The bytes of the pieces, one after another.
abbrev pub bytes_in : List (Bor (List ℕ)) → List ℕ
bytes_in pieces = flat_map (λ p. p.now) pieces

-- The bytes that a reference points to.
abbrev pub slice_of : Option (Bor (List ℕ)) → Option (List ℕ)
slice_of o = option_map (λ x. x.now) o

-- Nothing changed.
abbrev pub unchanged : World → World
unchanged w = w

-- The name of a file in a folder: the folder, a slash, and the rest.
abbrev pub in_folder : List ℕ → List ℕ → List ℕ
in_folder folder rest = folder ++ 47 ∷ rest

-- A name without a slash.
abbrev pub is_plain : List ℕ → Bool
is_plain name = list_all (λ b. not (b == 47)) name

-- The part of a name after the folder and a slash, if the file is directly in the folder.
abbrev pub rest_in : List ℕ → List ℕ → Option (List ℕ)
rest_in folder name =
    if bytes_eq (take (length folder + 1) name) (in_folder folder []) && is_plain (drop (length folder + 1) name)
    then Some (drop (length folder + 1) name)
    else None

-- The names of the files directly in a folder, without the folder, in byte order.
abbrev pub names_in : List ℕ → Files → List (List ℕ)
names_in folder files = filter_map (rest_in folder) (fin.keys files)

-- These texts are the names in the folder, each once, in any order.
abbrev pub IsListing : List ℕ → Files → List (List ℕ) → Type 0
IsListing folder files names = IsPermutation (names_in folder files) (map encode_utf8_all names)

-- The world after a call, by the call's answer; running out of memory changes nothing.
abbrev pub IsAfterCall : {T : Type 0} → Result T Fault → Option World → Option World → (T → World → World) → (World → World) → Type 0
IsAfterCall (Ok x) before after ok failed = after ≡ option_map (ok x) before
IsAfterCall (Err Failed) before after ok failed = after ≡ option_map failed before
IsAfterCall (Err Memory) before after ok failed = after ≡ before

-- The world after a call that adds bytes, by the call's answer; after a failure the first k of them were
-- added.
abbrev pub IsAfterAppend : {T W : Type 0} → Result T Fault → Option W → Option W → List ℕ → (List ℕ → W → W) → Type 0
IsAfterAppend (Ok x) before after bytes add = after ≡ option_map (add bytes) before
IsAfterAppend (Err Failed) before after bytes add = (k : ℕ) × (after ≡ option_map (add (take k bytes)) before)
IsAfterAppend (Err Memory) before after bytes add = after ≡ before

-- A claim about the world before and after, if contracts see it before; then they see it after, too.
abbrev pub IfKnown : Option World → Option World → (World → World → Type 0) → Type 0
IfKnown None after P = Unit {0}
IfKnown (Some w) None P = ⊥
IfKnown (Some w) (Some v) P = P w v
