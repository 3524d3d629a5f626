-- Names of parts rise with their numbers, and are among the names that are joined.
use Rattle.std.proofs.Common.{◌≡◌, ℕ, zero, suc, ◌+◌, ◌-◌, ◌/◌, ◌%◌, ◌<◌, ◌≤◌, ◌^◌, refl, sym, ◌∙◌, ap, Bool, true, false, not, ◌&&◌, List, [], ◌∷◌, ◌++◌, length, take, drop, Option, None, Some, Less, append_assoc, length-append, length-drop, reverse, if◌then◌else◌, nat_lt, ◌==◌, arith}
use Rattle.std.specs.Str.{bytes_eq}
use Rattle.std.specs.List.{suffix_len}
use Rattle.std.specs.Option.{option_map_or}
use Rattle.std.specs.Cmp.Lexicographic.{bytes_decides}
use Rattle.std.proofs.lemmas.Grind.{common_steps}
use Rattle.std.proofs.lemmas.List.{get_or-drop, get_or-reverse}
use Rattle.std.proofs.lemmas.List.Folds.{list_all-append}
use Rattle.std.proofs.lemmas.List.Sums.{prefix_len_passes, suffix_len-le-length}
use Rattle.std.proofs.Math.ListN.{get_or}
use Rattle.std.proofs.lemmas.List.Prefix.{front_rest}
use Rattle.jfr_header.proofs.Steps.{take_whole}
use Rattle.jfr_outside.specs.World.{in_folder, is_plain, rest_in}
use Rattle.jfr_split.specs.Names.{suffix, is_recording, base, stem, digits, within, part_name, is_joined}
use Rattle.jfr_split.proofs.Basics.{and_true, first_true, second_true}
use Rattle.jfr_split.proofs.Ordered.{order, order_after, digits_less}
use Rattle.jfr_split.proofs.Stems.{ends}

order_within : (folder : Option (List ℕ)) (x y : List ℕ) → order (within folder x) (within folder y) ≡ order x y
order_within None x y = refl
order_within (Some folder) x y = order_after folder (47 ∷ x) (47 ∷ y) ∙ order_after (47 ∷ []) x y

-- A later part has a greater name.
pub names_rise : (folder : Option (List ℕ)) (file : List ℕ) (a b : ℕ) → a < b → b < 10 ^ 6 → order (part_name folder file a) (part_name folder file b) ≡ Less
unfolding part_name
names_rise folder file a b h l =
    let u = digits 6 a ++ suffix in
    let v = digits 6 b ++ suffix in
    order_within folder (stem file ++ 95 ∷ u) (stem file ++ 95 ∷ v) ∙ order_after (stem file) (95 ∷ u) (95 ∷ v) ∙ order_after (95 ∷ []) u v ∙ digits_less 6 a b suffix suffix h l

abbrev no_slash : ℕ → Bool
no_slash b = not (b == 47)

plain_append : (x y : List ℕ) → is_plain x ≡ true → is_plain y ≡ true → is_plain (x ++ y) ≡ true
plain_append x y e f = list_all-append no_slash x y ∙ and_true (is_plain x) (is_plain y) e f

plain_take : (k : ℕ) (x : List ℕ) → is_plain x ≡ true → is_plain (take k x) ≡ true
plain_take zero x e = refl
plain_take (suc k) [] e = refl
plain_take (suc k) (b ∷ x) e = and_true (no_slash b) (is_plain (take k x)) (first_true (no_slash b) (is_plain x) e) (plain_take k x (second_true (no_slash b) (is_plain x) e))

plain_each : (x : List ℕ) → ((k : ℕ) → k < length x → no_slash (get_or x k 0) ≡ true) → is_plain x ≡ true
plain_each [] h = refl
plain_each (b ∷ x) h = and_true (no_slash b) (is_plain x) (h 0 (omega arith)) (plain_each x (λ k l. h (suc k) (omega (arith, l))))

-- The part of a name after the last slash has no slash.
plain_base : (file : List ℕ) → is_plain (base file) ≡ true
plain_base file =
    let long = suffix_len no_slash file in
    let n = length file - long in
    let most : long ≤ length file = suffix_len-le-length no_slash file in
    plain_each (drop n file) (λ k l.
    let short : n + k < length file = omega (arith, l, length-drop n file) in
    let at : length file - 1 - (length file - 1 - (n + k)) ≡ n + k = omega arith in
    let passes : no_slash (get_or (reverse file) (length file - 1 - (n + k)) 0) ≡ true = prefix_len_passes no_slash (reverse file) (length file - 1 - (n + k)) 0 (omega arith) in
    ap no_slash (get_or-drop n file k 0 ∙ ap (λ (i : ℕ). get_or file i 0) (sym at) ∙ sym (get_or-reverse file (length file - 1 - (n + k)) 0 (omega arith))) ∙ passes)

plain_by : (b : Bool) (x : List ℕ) → is_plain x ≡ true → is_plain (if b then take (length x - 4) x else x) ≡ true
plain_by true x h = plain_take (length x - 4) x h
plain_by false x h = h

plain_stem : (file : List ℕ) → is_plain (stem file) ≡ true
unfolding stem
plain_stem file = plain_by (is_recording (base file) && nat_lt 4 (length (base file))) (base file) (plain_base file)

plain_digits : (k n : ℕ) → is_plain (digits k n) ≡ true
plain_digits zero n = refl
plain_digits (suc k) n = plain_append (digits k (n / 10)) ((48 + n % 10) ∷ []) (plain_digits k (n / 10)) (and_true (no_slash (48 + n % 10)) true (plain_digit (n % 10)) refl)
  where
    plain_digit : (m : ℕ) → no_slash (48 + m) ≡ true
    plain_digit m = grind (arith, common_steps)

rest_by : (b : Bool) (x rest : List ℕ) → b ≡ true → x ≡ rest → ◌≡◌ {A = Option (List ℕ)} (if b then Some x else None) (Some rest)
rest_by true x rest e f = ap (λ (y : List ℕ). Some y) f
rest_by false x rest e f = cc

-- The rest of a name in a folder.
pub rest_found : (folder rest : List ℕ) → is_plain rest ≡ true → rest_in folder (in_folder folder rest) ≡ Some rest
rest_found folder rest plain =
    let w = in_folder folder [] in
    let name = in_folder folder rest in
    let parts : name ≡ w ++ rest = sym (append_assoc folder (47 ∷ []) rest) in
    let long : length w ≡ length folder + 1 = length-append folder (47 ∷ []) in
    let front : take (length folder + 1) name ≡ w = ap (λ (k : ℕ). take k name) (sym long) ∙ ap (take (length w)) parts ∙ take_whole w rest (length w) refl in
    let back : drop (length folder + 1) name ≡ rest = ap (λ (k : ℕ). drop k name) (sym long) ∙ front_rest name w rest parts in
    rest_by (bytes_eq (take (length folder + 1) name) w && is_plain (drop (length folder + 1) name)) (drop (length folder + 1) name) rest
    (and_true (bytes_eq (take (length folder + 1) name) w) (is_plain (drop (length folder + 1) name)) ((bytes_decides (take (length folder + 1) name) w).1 front) (ap is_plain back ∙ plain)) back

-- The name of a part is in its folder, and ends in `.jfr`.
pub part_joined : (folder file : List ℕ) (n : ℕ) → is_joined folder (part_name (Some folder) file n) ≡ true
unfolding part_name is_joined
part_joined folder file n =
    let rest = stem file ++ 95 ∷ (digits 6 n ++ suffix) in
    let plain : is_plain rest ≡ true = plain_append (stem file) (95 ∷ (digits 6 n ++ suffix)) (plain_stem file) (plain_append (digits 6 n) suffix (plain_digits 6 n) refl) in
    ap (λ (o : Option (List ℕ)). option_map_or is_recording o false) (rest_found folder rest plain)
    ∙ ap is_recording (sym (append_assoc (stem file) (95 ∷ digits 6 n) suffix)) ∙ ends (stem file ++ (95 ∷ digits 6 n))
