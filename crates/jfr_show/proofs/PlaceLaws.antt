-- The place of a class, and the events of each.
use Rattle.std.specs.Prelude.{◌≡◌, ℕ, ◌<◌, ◌&&◌, ◌==◌, Bool, true, false, cond, List, [], length, nat_lt, Option, None, Some, find, position, slice_get}
use Rattle.std.specs.Option.{option_map_or}
use Rattle.std.specs.List.{position_or_len}
use Rattle.std.proofs.Common.{ap, refl, sym, ◌∙◌}
use Rattle.std.proofs.lemmas.Bool.{lt-ltb}
use Rattle.std.proofs.lemmas.List.Folds.{find_at}
use Rattle.std.proofs.lemmas.Option.{slice_get_within}
use Rattle.jfr_layout.specs.Classes.{Class, Classes, class_index, extends_event, find_class, is_event_class}
use Rattle.jfr_layout.specs.Events.{event_index}
use Rattle.jfr_show.specs.Names.{class_name}

-- The member that is found is at its position.
stands_by : {X : Type 0} (p : X → Bool) (xs : List X) (n : ℕ) (b : Bool) → nat_lt (position_or_len p xs) (length xs) ≡ b → cond b (Some (position_or_len p xs)) None ≡ Some n
    → find p xs ≡ slice_get xs n
stands_by p xs n true e q = let s : position_or_len p xs ≡ n = cc in find_at p xs ∙ ap (slice_get xs) s
stands_by p xs n false e q = cc

holds : {X : Type 0} (p : X → Bool) (xs : List X) (n : ℕ) → position p xs ≡ Some n → find p xs ≡ slice_get xs n
holds p xs n q = stands_by p xs n (nat_lt (position_or_len p xs) (length xs)) refl q

-- What is found has a position.
pub record HasPlace (k : Classes) (id : ℕ) : Type 0 where
  pub place : ℕ
  pub is : class_index k id ≡ Some place
  pub within : place < length k

has_place : (k : Classes) (id : ℕ) (c : Class) → find_class k id ≡ Some c → HasPlace k id
has_place k id c q =
    let test : Class → Bool = λ c. c.id == id in
    let n : ℕ = position_or_len test k in
    let w : n < length k = slice_get_within k n c (sym (find_at test k) ∙ q) in
    record { place = n; is = ap (λ b. cond b (Some n) None) (lt-ltb n (length k) w); within = w }

-- An event's class is there.
event_found : (k : Classes) (id : ℕ) (b : Bool) (o : Option Class) → find_class k id ≡ o → (b && option_map_or extends_event o false) ≡ true → HasPlace k id
event_found k id true None q e = cc
event_found k id true (Some c) q e = has_place k id c q
event_found k id false o q e = cc

pub event_has_place : (k : Classes) (id : ℕ) → is_event_class k id ≡ true → HasPlace k id
unfolding is_event_class
event_has_place k id e = event_found k id (nat_lt 1 id) (find_class k id) refl e

-- The name of a class by its place.
name_by : (k : Classes) (id n : ℕ) (c : Class) (b : Bool) → cond b (class_index k id) None ≡ Some n → slice_get k n ≡ Some c → class_name k id ≡ c.name
name_by k id n c true q g = ap (λ o. option_map_or (λ (c : Class). c.name) o []) (holds (λ (c : Class). c.id == id) k n q ∙ g)
name_by k id n c false q g = cc

pub name_at : (k : Classes) (id n : ℕ) (c : Class) → event_index k id ≡ Some n → slice_get k n ≡ Some c → class_name k id ≡ c.name
name_at k id n c q g = name_by k id n c (is_event_class k id) q g
