-- What std's searches in a text say of the stem of a name.
use Rattle.std.proofs.Common.{◌≡◌, ℕ, ◌+◌, ◌-◌, ◌<◌, ◌≤◌, refl, sym, ◌∙◌, ap, Bool, true, false, not, ◌&&◌, List, ◌++◌, length, take, drop, Some, ◌==◌, nat_eq, nat_lt, if◌then◌else◌, arith, take-append-drop, length-drop}
use Rattle.std.specs.List.{suffix_len, after_last}
use Rattle.std.specs.Str.{NoCharPasses}
use Rattle.std.specs.Str.Pattern.{RFindsChar}
use Rattle.std.specs.Cmp.Lexicographic.{pointwise, bytes_decides}
use Rattle.std.proofs.lemmas.Bool.{ne_eqb, eq-eqb}
use Rattle.std.proofs.lemmas.List.{get_or-drop}
use Rattle.std.proofs.lemmas.List.Sums.{suffix_len_is}
use Rattle.std.proofs.lemmas.List.Prefix.{end_rest}
use Rattle.std.proofs.lemmas.Str.Pattern.{NoCharPasses-char}
use Rattle.std.proofs.Math.ListN.{get_or}
use Rattle.jfr_split.specs.Names.{suffix, is_recording, base, without_suffix}

abbrev is_slash : ℕ → Bool
is_slash b = b == 47

last_at : (bs : List ℕ) (j : ℕ) → j ≤ length bs → ((k : ℕ) → j ≤ k → k < length bs → not (is_slash (get_or bs k 0)) ≡ true) → (0 < j → not (is_slash (get_or bs (j - 1) 0)) ≡ false)
    → after_last is_slash bs ≡ drop j bs
last_at bs j h p s =
    let n = suffix_len_is (λ x. not (is_slash x)) bs j 0 h p s in
    let k : length bs - suffix_len (λ x. not (is_slash x)) bs ≡ j = omega (arith, n, h) in
    ap (λ (i : ℕ). drop i bs) k

none_after : (bs : List ℕ) (j : ℕ) → NoCharPasses (λ d. d == 47) (drop j bs) → (k : ℕ) → j ≤ k → k < length bs → not (is_slash (get_or bs k 0)) ≡ true
none_after bs j none k h l =
    let at : j + (k - j) ≡ k = omega arith in
    let short : k - j < length (drop j bs) = omega (arith, length-drop j bs) in
    let no = NoCharPasses-char 47 (drop j bs) (k - j) none (omega arith) short in
    let other : get_or bs k 0 ≡ 47 → ⊥ = λ e. no (get_or-drop j bs (k - j) 0 ∙ ap (λ (i : ℕ). get_or bs i 0) at ∙ e) in
    ap not (ne_eqb (get_or bs k 0) 47 other)

-- Behind the last slash.
pub base_found : (bs ys : List ℕ) (i j : ℕ) → RFindsChar 47 bs (Some (i, j)) → ys ≡ drop j bs → length ys + j ≡ length bs → ys ≡ base bs
base_found bs ys i j h e l =
    let end : j ≡ i + 1 = h.1.ends in
    let at : j - 1 ≡ i = omega arith in
    let slash : get_or bs (j - 1) 0 ≡ 47 = ap (λ (k : ℕ). get_or bs k 0) at ∙ h.1.byte (omega arith) in
    e ∙ sym (last_at bs j (omega (arith, l)) (none_after bs j h.0) (λ k. ap not (eq-eqb (get_or bs (j - 1) 0) 47 slash)))

-- A name without a slash.
pub base_whole : (bs : List ℕ) → NoCharPasses (λ d. d == 47) bs → bs ≡ base bs
base_whole bs none = sym (last_at bs 0 (omega arith) (none_after bs 0 none) (λ l. absurd (omega arith)))

-- What ends in `.jfr`.
pub ends : (front : List ℕ) → is_recording (front ++ suffix) ≡ true
ends front = ap (pointwise nat_eq suffix) (end_rest (front ++ suffix) suffix front refl)

no_end : (b : Bool) (name x : List ℕ) → is_recording name ≡ b → ((front : List ℕ) → name ≡ front ++ suffix → ⊥) → (if b && nat_lt 4 (length name) then x else name) ≡ name
no_end false name x e none = refl
no_end true name x e none =
    let n = length name - 4 in
    absurd (none (take n name) (sym (take-append-drop n name) ∙ ap (λ (y : List ℕ). take n name ++ y) (sym ((bytes_decides suffix (drop n name)).0 e))))

-- A name that doesn't end so.
pub suffix_none : (name : List ℕ) → ((front : List ℕ) → name ≡ front ++ suffix → ⊥) → name ≡ without_suffix name
suffix_none name none = sym (no_end (is_recording name) name (take (length name - 4) name) refl none)
