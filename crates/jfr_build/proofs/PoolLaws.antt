-- The pools, one line after another.
use Rattle.std.specs.Prelude.{◌≡◌, ℕ, zero, suc, ◌+◌, ◌<◌, ◌≤◌, ◌==◌, ◌||◌, Bool, true, false, List, [], ◌∷◌, ◌++◌, length, drop, Option, Some, None, IsSome, is_some}
use Rattle.std.specs.List.{flat_map, list_any}
use Rattle.std.proofs.Common.{ap, arith, get_or, refl, subst, sym, ◌∙◌}
use Rattle.std.proofs.lemmas.Bool.Decides.{nat_tests}
use Rattle.std.proofs.lemmas.List.{append-nil}
use Rattle.jfr_base.specs.Integer.{spell}
use Rattle.jfr_layout.specs.Classes.{Classes}
use Rattle.jfr_build.specs.declared.lines.NumberedLine.{NumberedLine}
use Rattle.jfr_build.specs.declared.pools.Pool.{Pool}
use Rattle.jfr_build.specs.declared.pools.ConstantPools.{ConstantPools}
use Rattle.jfr_build.specs.Built.{entries_of, entry_count, pool_of, pools_of, with_classes}
use Rattle.jfr_build.specs.LineValues.{first_bad_value}
use Rattle.jfr_build.specs.Pooled.{AreListed, count_in, entries_in, pool_bytes, pool_in, pools_bytes}

-- The pools of the lines before those that are left.
pub record Pooled (k : Classes) (lines left : List NumberedLine) (pools : ConstantPools) : Type 0 where
  pub classes : with_classes [] lines ≡ with_classes pools.classes.items left
  pub counts : (id : ℕ) → entry_count lines id ≡ count_in (pool_in pools id) + entry_count left id
  pub entries : (id : ℕ) → entries_of k lines id ≡ entries_in (pool_in pools id) ++ entries_of k left id
  pub listed : AreListed pools
  pub good : first_bad_value k left ≡ None

-- Each class in the list has a pool.
or_true : (t u : Bool) → u ≡ true → (t || u) ≡ true
or_true true u e = refl
or_true false u e = e

element_listed : (xs : List ℕ) (i : ℕ) → i < length xs → list_any (λ c. c == get_or xs i 0) xs ≡ true
element_listed [] i l = absurd (omega arith)
element_listed (x ∷ xs) zero l = let e : (x == x) ≡ true = grind (arith, nat_tests) in rw e refl
element_listed (x ∷ xs) (suc i) l = or_true (x == get_or xs i 0) (list_any (λ c. c == get_or xs i 0) xs) (element_listed xs i (omega arith))

pub pool_listed : (pools : ConstantPools) (classes : List ℕ) (i : ℕ) → classes ≡ pools.classes.items → AreListed pools → i < length classes → IsSome (pool_in pools (get_or classes i 0))
pool_listed pools classes i e listed l =
    let here : list_any (λ c. c == get_or classes i 0) pools.classes.items ≡ true = subst (λ z. list_any (λ c. c == get_or classes i 0) z ≡ true) e (element_listed classes i l) in
    by_option (pool_in pools (get_or classes i 0)) (sym (listed (get_or classes i 0)) ∙ here)
  where
    by_option : (o : Option Pool) → is_some o ≡ true → IsSome o
    by_option None q = cc
    by_option (Some pool) q = refl

drop_past : {X : Type 0} (xs : List X) (i : ℕ) → length xs ≤ i → drop i xs ≡ []
drop_past [] zero l = refl
drop_past [] (suc i) l = refl
drop_past (x ∷ xs) zero l = absurd (omega arith)
drop_past (x ∷ xs) (suc i) l = drop_past xs i (omega arith)

flat_same : (f g : ℕ → List ℕ) → ((x : ℕ) → f x ≡ g x) → (xs : List ℕ) → flat_map f xs ≡ flat_map g xs
flat_same f g h [] = refl
flat_same f g h (x ∷ xs) = ap (λ z. z ++ flat_map f xs) (h x) ∙ ap (λ z. g x ++ z) (flat_same f g h xs)

-- With no line left, these are the pools of all lines.
contents : (k : Classes) (lines : List NumberedLine) (pools : ConstantPools) → Pooled k lines [] pools → pools_bytes pools ≡ pools_of k lines
contents k lines pools p =
    let c : pools.classes.items ≡ with_classes [] lines = sym p.classes in
    ap (λ n. spell n ++ flat_map (pool_bytes pools) pools.classes.items) (ap length c)
    ∙ (ap (λ z. spell (length (with_classes [] lines)) ++ flat_map (pool_bytes pools) z) c
    ∙ ap (λ z. spell (length (with_classes [] lines)) ++ z) (flat_same (pool_bytes pools) (pool_of k lines) each (with_classes [] lines)))
  where
    each : (id : ℕ) → pool_bytes pools id ≡ pool_of k lines id
    each id =
        let n : entry_count lines id ≡ count_in (pool_in pools id) + 0 = p.counts id in
        let m : count_in (pool_in pools id) ≡ entry_count lines id = omega (arith, n) in
        let e : entries_in (pool_in pools id) ≡ entries_of k lines id = sym (p.entries id ∙ append-nil (entries_in (pool_in pools id))) in
        ap (λ n. spell id ++ (spell n ++ entries_in (pool_in pools id))) m ∙ ap (λ z. spell id ++ (spell (entry_count lines id) ++ z)) e

pub pooled_end : (k : Classes) (lines : List NumberedLine) (i : ℕ) (pools : ConstantPools) → length lines ≤ i → Pooled k lines (drop i lines) pools → pools_bytes pools ≡ pools_of k lines
pooled_end k lines i pools l p = contents k lines pools (subst (λ z. Pooled k lines z pools) (drop_past lines i l) p)
