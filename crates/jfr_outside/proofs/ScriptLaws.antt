-- A script makes exactly the call fail for which it was set.
use Rattle.std.proofs.Common.{◌≡◌, ◌∙◌, ap, sym, subst, refl, ℕ, zero, suc, ◌-◌, List, [], ◌∷◌, ◌++◌, Option, Some, None, IsSome, arith}
use Rattle.std.proofs.lemmas.List.{map-append}
use Rattle.std.proofs.lemmas.List.Sums.{fold-append}
use Rattle.jfr_outside.specs.declared.script.Call.{Call}
use Rattle.jfr_outside.specs.declared.script.Call.TheVariants.{Open, Read, Create, Append, Finish, List as Listing}
use Rattle.jfr_outside.specs.declared.script.Script.{Script}
use Rattle.jfr_outside.specs.Scripts.{passed, kept, kept_with, after_call, after_calls, lesser, IsDue}

-- A script that was just set.
abbrev pub script_for : Call → ℕ → ℕ → Script
script_for call nth keep = record { call = call; left = nth; keep = keep }

down : (n : ℕ) → suc n - 1 ≡ n
down n = omega arith

-- A call of the kind brings the script nearer.
passed-script_for : (call : Call) (n keep : ℕ) → passed call (script_for call (suc n) keep) ≡ script_for call n keep
passed-script_for Open n keep = ap (λ (k : ℕ). script_for Open k keep) (down n)
passed-script_for Read n keep = ap (λ (k : ℕ). script_for Read k keep) (down n)
passed-script_for Create n keep = ap (λ (k : ℕ). script_for Create k keep) (down n)
passed-script_for Append n keep = ap (λ (k : ℕ). script_for Append k keep) (down n)
passed-script_for Finish n keep = ap (λ (k : ℕ). script_for Finish k keep) (down n)
passed-script_for Listing n keep = ap (λ (k : ℕ). script_for Listing k keep) (down n)

-- The next call of its kind fails once the script counts 1.
kept_with-script_for : (call : Call) (keep : ℕ) (so_far : Option ℕ) → kept_with call so_far (script_for call 1 keep) ≡ Some (lesser keep so_far)
kept_with-script_for Open keep so_far = refl
kept_with-script_for Read keep so_far = refl
kept_with-script_for Create keep so_far = refl
kept_with-script_for Append keep so_far = refl
kept_with-script_for Finish keep so_far = refl
kept_with-script_for Listing keep so_far = refl

-- After n calls of a kind, a script that was set for call n + 1 makes the next one fail.
pub is_due_in_turn : (call : Call) (n keep : ℕ) (scripts : List Script) → IsDue call (after_calls call n (scripts ++ script_for call (suc n) keep ∷ []))
is_due_in_turn call zero keep scripts = subst IsSome (sym (fold-append (kept_with call) None scripts (script_for call 1 keep ∷ []) ∙ kept_with-script_for call keep (kept call scripts))) refl
is_due_in_turn call (suc n) keep scripts =
    let P : List Script → Type 0 = λ all. IsDue call (after_calls call n all) in
    subst P
    (sym (map-append (passed call) scripts (script_for call (suc (suc n)) keep ∷ []) ∙ ap (λ (s : Script). after_call call scripts ++ s ∷ []) (passed-script_for call (suc n) keep)))
    (is_due_in_turn call n keep (after_call call scripts))
