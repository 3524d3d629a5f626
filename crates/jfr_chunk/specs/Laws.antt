-- Laws of the parts of accepted chunks.
use Rattle.std.specs.Prelude.{◌≡◌, ◌↔◌, ℕ, List, [], ◌∷◌, Some, Ok, ◌⊎◌, All, Contains, ⊤}
use Rattle.jfr_layout.specs.Classes.{Agree}
use Rattle.jfr_frame.specs.Records.{record_bytes}
use Rattle.jfr_value.specs.declared.node.Step.{Step}
use Rattle.jfr_value.specs.Nodes.{NodeAt, target}
use Rattle.jfr_base.specs.declared.flaw.Flaw.{Flaw}
use Rattle.jfr_chunk.specs.Parts.{Parts, EventAt, events_of, AreParts}
use Rattle.jfr_chunk.specs.Refusal.{Refused, read_parts, refusal_of}
use Rattle.jfr_chunk.specs.Paths.{leads}
use Rattle.jfr_chunk.specs.Reach.{Reached, reached_marks}
use Rattle.jfr_worklist.specs.Marks.{IsMarked}
use Rattle.jfr_chunk.specs.Meaning.{SameEntry}

-- These are events of the chunk.
abbrev pub AreEvents : Parts → List EventAt → Type 0
AreEvents p es = All (Contains (events_of p)) es

-- Two events have the same class, on which the class lists agree, and equal record bytes.
pub record SameRecord (p q : Parts) (e f : EventAt) : Type 0 where
  pub class : e.record_of.type_id ≡ f.record_of.type_id
  pub bytes : record_bytes p.bytes e.record_of ≡ record_bytes q.bytes f.record_of
  pub agree : Agree p.classes q.classes e.record_of.type_id

-- The events correspond one to one, in order, and each pair has the same class and equal record bytes.
abbrev pub SameRecords : Parts → Parts → List EventAt → List EventAt → Type 0
SameRecords p q [] [] = ⊤
SameRecords p q (e ∷ es) (f ∷ fs) = SameRecord p q e f × SameRecords p q es fs
SameRecords p q [] (f ∷ fs) = ⊥
SameRecords p q (e ∷ es) [] = ⊥

-- For each class and key to which a node on a path from a kept event refers, both chunks have the same entry
-- in force, or neither has one.
abbrev pub SameOnPaths : Parts → Parts → List EventAt → Type 0
SameOnPaths p q kept = (e : EventAt) (path : List Step) (n : NodeAt) (key : ℕ × ℕ) → Contains kept e → leads p e.node path ≡ Some n → target p.classes p.bytes n ≡ Some key → SameEntry p q key

-- An entry is marked exactly if a path from a kept event reaches it.
abbrev pub AreReached : Parts → List EventAt → Type 0
AreReached p kept = (number : ℕ) → Reached p kept number ↔ IsMarked (reached_marks p kept) number

-- A chunk either has parts, or is refused for exactly one flaw.
pub record HasOneAnswer (c : List ℕ) : Type 0 where
  pub some : ((p : Parts) × (p.bytes ≡ c) × AreParts p) ⊎ ((flaw : Flaw) × Refused c flaw)
  pub not_both : (p : Parts) (flaw : Flaw) → p.bytes ≡ c → AreParts p → Refused c flaw → ⊥
  pub one_flaw : (flaw other : Flaw) → Refused c flaw → Refused c other → flaw ≡ other

-- The parts, or the flaw, are those that `read_parts` computes.
pub record IsComputed (c : List ℕ) : Type 0 where
  pub parts : (p : Parts) → ((p.bytes ≡ c) × AreParts p) ↔ (read_parts c ≡ Ok p)
  pub flaw : (flaw : Flaw) → Refused c flaw ↔ (refusal_of c ≡ Some flaw)
