-- The names of fields, compared by numbers.
use Rattle.std.specs.Prelude.{◌≡◌, ℕ, List, Option, Some, Vec}
use Rattle.std.specs.Borrow.{Bor}
use Rattle.std.specs.BTreeMap.{BTreeMap, get_by}
use Rattle.std.specs.Cmp.Lexicographic.{slice_cmp}
use Rattle.std.specs.List.{AllZip}
use Rattle.std.specs.Ordering.{nat_cmp}
use Rattle.std.specs.Str.{encode_utf8_all}
use Rattle.std.specs.declared.alloc.Global.{Global}
use Rattle.jfr_layout.specs.Classes.{Classes, Field}

-- The value of a text in a map.
abbrev pub value_under : BTreeMap (Bor (List ℕ)) ℕ → List ℕ → Option ℕ
value_under values text = get_by (λ k. slice_cmp nat_cmp (encode_utf8_all text) k.now) values

-- Each field has the number of its name, and no two names have the same number.
pub record AreNumbered (fs : List Field) (numbers : List ℕ) : Type 0 where
  pub number : List ℕ → Option ℕ
  pub one_name : (p q : List ℕ) (n : ℕ) → number p ≡ Some n → number q ≡ Some n → p ≡ q
  pub each : AllZip (λ f n. number f.name ≡ Some n) fs numbers

-- The fields of each class have such numbers.
abbrev pub AreAllNumbered : Classes → List (Vec ℕ Global) → Type 0
AreAllNumbered k numbers = AllZip (λ c ns. AreNumbered c.fields ns.items) k numbers
