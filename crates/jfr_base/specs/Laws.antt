-- What holds of every spelling and of every format.
use Rattle.std.specs.Prelude.{◌≡◌, ℕ, ◌<◌, ◌≤◌, List, ◌++◌, length, Ok, ◌⊎◌, ◌↔◌}
use Rattle.std.specs.List.{AllByRecursion}
use Rattle.jfr_base.specs.declared.reason.Reason.{Reason}
use Rattle.jfr_base.specs.Integer.{Spells, spell}
use Rattle.jfr_base.specs.Formats.{Format, Reads, Fails, run, refused}

-- No spelling is a proper prefix of another, and each has one value.
abbrev pub OneSpelling : Type 0
OneSpelling = (a b x y : List ℕ) (v w : ℕ) → Spells a v → Spells b w → a ++ x ≡ b ++ y → (a ≡ b) × (v ≡ w)

-- No spelling of this value, or of a larger one, is shorter than the shortest.
abbrev pub IsShortest : ℕ → Type 0
IsShortest value = (b : List ℕ) (w : ℕ) → Spells b w → value ≤ w → length (spell value) ≤ length b

-- Each member is a byte.
abbrev pub AreBytes : List ℕ → Type 0
AreBytes b = AllByRecursion (λ c. c < 256) b

-- The format reads some value from the offset `at`.
abbrev pub ReadsSome : {A : Type 0} → Format A → List ℕ → ℕ → ℕ → Type 0
ReadsSome {A = A} f x end at = (value : A) × (to : ℕ) × Reads f x end at value to

-- The format, read from the offset `at`, fails at some offset for some reason.
abbrev pub FailsSome : {A : Type 0} → Format A → List ℕ → ℕ → ℕ → Type 0
FailsSome f x end at = (o : ℕ) × (why : Reason) × Fails f x end at o why

-- A format reads a value or fails, never both, and has one answer only.
pub record HasOneAnswer {A : Type 0} (f : Format A) (x : List ℕ) (end at : ℕ) : Type 0 where
  pub some : ReadsSome f x end at ⊎ FailsSome f x end at
  pub not_both : ReadsSome f x end at → FailsSome f x end at → ⊥
  pub one_reading : (v w : A) (p q : ℕ) → Reads f x end at v p → Reads f x end at w q → (v ≡ w) × (p ≡ q)
  pub one_failure : (o p : ℕ) (why other : Reason) → Fails f x end at o why → Fails f x end at p other → (o ≡ p) × (why ≡ other)

-- What `run` computes is exactly what `Reads` and `Fails` state.
pub record IsComputed {A : Type 0} (f : Format A) (x : List ℕ) (end at : ℕ) : Type 0 where
  pub reads : (v : A) (to : ℕ) → Reads f x end at v to ↔ (run f x end at ≡ Ok (record { value = v; place = to }))
  pub fails : (o : ℕ) (why : Reason) → Fails f x end at o why ↔ (run f x end at ≡ refused o why)
