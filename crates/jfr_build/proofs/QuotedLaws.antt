-- A word is read as a quoted text exactly if it is that text between two quotes.
use Rattle.std.specs.Prelude.{◌≡◌, ℕ, ◌+◌, ◌-◌, ◌*◌, ◌/◌, ◌%◌, ◌<◌, ◌≤◌, ◌==◌, ◌||◌, ◌&&◌, not, nat_le, nat_lt, Bool, true, false, List, [], ◌∷◌, ◌++◌, Option, Some, None, option_map, if◌then◌else◌}
use Rattle.std.specs.Char.{digit_char}
use Rattle.std.specs.List.{flat_map}
use Rattle.std.specs.Option.{option_to_list}
use Rattle.std.proofs.Common.{ap, arith, refl, subst, sym, ◌∙◌}
use Rattle.std.proofs.lemmas.Bool.{eqb-true}
use Rattle.std.proofs.lemmas.Bool.Decides.{nat_tests}
use Rattle.std.proofs.lemmas.List.{append_assoc}
use Rattle.jfr_build.specs.declared.quoted.Quoted.{Quoted}
use Rattle.jfr_build.specs.declared.quoted.Quoted.TheVariants.{Open, Escape, FirstZero, SecondZero, High, Low, Closed}
use Rattle.jfr_build.specs.LeafWords.{Onward, escaped_by, go_on, hex_digit, high_by, is_coded, is_plain, low_by, quoted_from, quoted_step, unquoted}
use Rattle.jfr_build.specs.Laws.{UnquotesExactly, escaped, quoted}
use Rattle.jfr_build.proofs.BaseLaws.{mapped}

-- Hexadecimal digits.
low_digit : (c n : ℕ) → c ≡ 48 + n → n < 10 → hex_digit c ≡ Some n
low_digit c n e l =
    let t : nat_le 48 c ≡ true = grind arith in
    let u : nat_le c 57 ≡ true = grind arith in
    let m : c - 48 ≡ n = omega (arith, e) in
    rw (t, u) (ap (λ z. Some z) m)

high_digit : (c n : ℕ) → c ≡ 87 + n → 10 ≤ n → n < 16 → hex_digit c ≡ Some n
high_digit c n e h l =
    let t : nat_le c 57 ≡ false = grind arith in
    let s : nat_le 48 c ≡ true = grind arith in
    let u : nat_le 97 c ≡ true = grind arith in
    let v : nat_le c 102 ≡ true = grind arith in
    let m : c - 87 ≡ n = omega (arith, e) in
    rw (s, t, u, v) (ap (λ z. Some z) m)

digit_read : (n : ℕ) → n < 16 → hex_digit (digit_char n) ≡ Some n
digit_read n l = by_test (nat_lt n 10) refl
  where
    by_test : (t : Bool) → nat_lt n 10 ≡ t → hex_digit (digit_char n) ≡ Some n
    by_test true e = low_digit (digit_char n) n (rw e refl) (grind (arith, nat_tests))
    by_test false e = high_digit (digit_char n) n (rw e refl) (grind (arith, nat_tests)) l

digit_known : (c n : ℕ) → hex_digit c ≡ Some n → (n < 16) × (digit_char n ≡ c)
digit_known c n e = by_tests (nat_le 48 c && nat_le c 57) (nat_le 97 c && nat_le c 102) refl refl e
  where
    by_tests : (t u : Bool) → (nat_le 48 c && nat_le c 57) ≡ t → (nat_le 97 c && nat_le c 102) ≡ u → (if t then Some (c - 48) else if u then Some (c - 87) else None) ≡ Some n
        → (n < 16) × (digit_char n ≡ c)
    by_tests true u p q h =
        let least : 48 ≤ c = grind (arith, nat_tests) in
        let most : c ≤ 57 = grind (arith, nat_tests) in
        let m : c - 48 ≡ n = cc in
        let t : nat_lt n 10 ≡ true = grind arith in
        (omega (arith, least, most, m), rw t (omega (arith, least, most, m)))
    by_tests false true p q h =
        let least : 97 ≤ c = grind (arith, nat_tests) in
        let most : c ≤ 102 = grind (arith, nat_tests) in
        let m : c - 87 ≡ n = cc in
        let t : nat_lt n 10 ≡ false = grind arith in
        (omega (arith, least, most, m), rw t (omega (arith, least, most, m)))
    by_tests false false p q h = cc

-- How a byte is written.
abbrev is_mark : ℕ → Bool
is_mark c = (c == 34) || (c == 92)

abbrev coded : ℕ → List ℕ
coded c = 92 ∷ 117 ∷ 48 ∷ 48 ∷ digit_char (c / 16) ∷ digit_char (c % 16) ∷ []

escaped_is : (c : ℕ) (t u : Bool) → is_mark c ≡ t → is_coded c ≡ u → escaped c ≡ (if t then 92 ∷ c ∷ [] else if u then coded c else c ∷ [])
escaped_is c t u e f =
    ap (λ z. if z then 92 ∷ c ∷ [] else if is_coded c then coded c else c ∷ []) e ∙ ap (λ z. if t then 92 ∷ c ∷ [] else if z then coded c else c ∷ []) f

mark_parts : (t u : Bool) → (t || u) ≡ false → (t ≡ false) × (u ≡ false)
mark_parts true u e = cc
mark_parts false u e = (refl, e)

plain_parts : (t u : Bool) → not (t || u) ≡ true → (t ≡ false) × (u ≡ false)
plain_parts true u e = cc
plain_parts false true e = cc
plain_parts false false e = (refl, refl)

-- A byte that is written by its number is neither a quote nor a backslash.
coded_unmarked : (c : ℕ) → is_coded c ≡ true → is_mark c ≡ false
coded_unmarked c e = by_tests (c == 34) (c == 92) refl refl
  where
    by_tests : (t u : Bool) → (c == 34) ≡ t → (c == 92) ≡ u → (t || u) ≡ false
    by_tests true u p q = let h : is_coded 34 ≡ true = subst (λ z. is_coded z ≡ true) (eqb-true c 34 p) e in cc
    by_tests false true p q = let h : is_coded 92 ≡ true = subst (λ z. is_coded z ≡ true) (eqb-true c 92 q) e in cc
    by_tests false false p q = refl

-- The text and the second quote.
abbrev closed : List ℕ → List ℕ
closed text = flat_map escaped text ++ 34 ∷ []

closed_more : (c : ℕ) (text word : List ℕ) → escaped c ≡ word → closed (c ∷ text) ≡ word ++ closed text
closed_more c text word e = append_assoc (escaped c) (flat_map escaped text) (34 ∷ []) ∙ ap (λ z. z ++ closed text) e

-- The rest of a word from a state on, after what was read since the last character, is written as the text.
abbrev IsRest : Quoted → List ℕ → List ℕ → Type 0
IsRest Open cs text = cs ≡ closed text
IsRest Escape cs text = 92 ∷ cs ≡ closed text
IsRest FirstZero cs text = 92 ∷ 117 ∷ cs ≡ closed text
IsRest SecondZero cs text = 92 ∷ 117 ∷ 48 ∷ cs ≡ closed text
IsRest High cs text = 92 ∷ 117 ∷ 48 ∷ 48 ∷ cs ≡ closed text
IsRest (Low high) cs text = high < 16 → 92 ∷ 117 ∷ 48 ∷ 48 ∷ digit_char high ∷ cs ≡ closed text
IsRest Closed cs text = (cs ≡ []) × (text ≡ [])

-- What follows a step gives the text after the step's byte.
after_step : (next : Quoted) (o : Option ℕ) (cs text : List ℕ) → go_on (Some (next, o)) (λ s. quoted_from s cs) ≡ Some text
    → (more : List ℕ) × (quoted_from next cs ≡ Some more) × (option_to_list o ++ more ≡ text)
after_step next o cs text e = mapped (λ more. option_to_list o ++ more) (quoted_from next cs) text e

-- One step, if the rest is written as its text.
module _ (cs text : List ℕ) (rest : (s : Quoted) (more : List ℕ) → quoted_from s cs ≡ Some more → IsRest s cs more) where
  abbrev IsRead : Onward → Type 0
  IsRead step = go_on step (λ s. quoted_from s cs) ≡ Some text

  -- A byte is complete.
  byte_read : (c : ℕ) (word : List ℕ) → escaped c ≡ word → IsRead (Some (Open, Some c)) → word ++ cs ≡ closed text
  byte_read c word e h =
      let m = after_step Open (Some c) cs text h in
      ap (λ z. word ++ z) (rest Open m.0 m.1) ∙ (sym (closed_more c m.0 word e) ∙ ap closed m.2)

  open_read : (c : ℕ) → IsRead (quoted_step Open c) → c ∷ cs ≡ closed text
  open_read c h = by_tests (c == 34) (c == 92) (is_plain c) refl refl refl h
    where
      by_tests : (t u v : Bool) → (c == 34) ≡ t → (c == 92) ≡ u → is_plain c ≡ v
          → IsRead (if t then Some (Closed, None) else if u then Some (Escape, None) else if v then Some (Open, Some c) else None) → c ∷ cs ≡ closed text
      by_tests true u v p q r h =
          let m = after_step Closed None cs text h in
          let n = rest Closed m.0 m.1 in
          ap (λ z. z ∷ cs) (eqb-true c 34 p) ∙ (ap (λ z. 34 ∷ z) n.0 ∙ ap closed (sym n.1 ∙ m.2))
      by_tests false true v p q r h =
          let m = after_step Escape None cs text h in
          ap (λ z. z ∷ cs) (eqb-true c 92 q) ∙ (rest Escape m.0 m.1 ∙ ap closed m.2)
      by_tests false false true p q r h =
          let n = plain_parts (is_coded c) (is_mark c) r in
          byte_read c (c ∷ []) (escaped_is c false false n.1 n.0) h
      by_tests false false false p q r h = cc

  escape_read : (c : ℕ) → IsRead (escaped_by c) → 92 ∷ c ∷ cs ≡ closed text
  escape_read c h = by_tests (is_mark c) (c == 117) refl refl h
    where
      by_tests : (t u : Bool) → is_mark c ≡ t → (c == 117) ≡ u → IsRead (if t then Some (Open, Some c) else if u then Some (FirstZero, None) else None) → 92 ∷ c ∷ cs ≡ closed text
      by_tests true u p q h = byte_read c (92 ∷ c ∷ []) (escaped_is c true (is_coded c) p refl) h
      by_tests false true p q h =
          let m = after_step FirstZero None cs text h in
          ap (λ z. 92 ∷ z ∷ cs) (eqb-true c 117 q) ∙ (rest FirstZero m.0 m.1 ∙ ap closed m.2)
      by_tests false false p q h = cc

  first_zero_read : (c : ℕ) → IsRead (quoted_step FirstZero c) → 92 ∷ 117 ∷ c ∷ cs ≡ closed text
  first_zero_read c h = by_test (c == 48) refl h
    where
      by_test : (t : Bool) → (c == 48) ≡ t → IsRead (if t then Some (SecondZero, None) else None) → 92 ∷ 117 ∷ c ∷ cs ≡ closed text
      by_test true p h =
          let m = after_step SecondZero None cs text h in
          ap (λ z. 92 ∷ 117 ∷ z ∷ cs) (eqb-true c 48 p) ∙ (rest SecondZero m.0 m.1 ∙ ap closed m.2)
      by_test false p h = cc

  second_zero_read : (c : ℕ) → IsRead (quoted_step SecondZero c) → 92 ∷ 117 ∷ 48 ∷ c ∷ cs ≡ closed text
  second_zero_read c h = by_test (c == 48) refl h
    where
      by_test : (t : Bool) → (c == 48) ≡ t → IsRead (if t then Some (High, None) else None) → 92 ∷ 117 ∷ 48 ∷ c ∷ cs ≡ closed text
      by_test true p h =
          let m = after_step High None cs text h in
          ap (λ z. 92 ∷ 117 ∷ 48 ∷ z ∷ cs) (eqb-true c 48 p) ∙ (rest High m.0 m.1 ∙ ap closed m.2)
      by_test false p h = cc

  high_read : (c : ℕ) → IsRead (high_by (hex_digit c)) → 92 ∷ 117 ∷ 48 ∷ 48 ∷ c ∷ cs ≡ closed text
  high_read c h = by_digit (hex_digit c) refl h
    where
      by_digit : (o : Option ℕ) → hex_digit c ≡ o → IsRead (high_by o) → 92 ∷ 117 ∷ 48 ∷ 48 ∷ c ∷ cs ≡ closed text
      by_digit None p h = cc
      by_digit (Some digit) p h =
          let k = digit_known c digit p in
          let m = after_step (Low digit) None cs text h in
          ap (λ z. 92 ∷ 117 ∷ 48 ∷ 48 ∷ z ∷ cs) (sym k.1) ∙ (rest (Low digit) m.0 m.1 k.0 ∙ ap closed m.2)

  low_read : (high c : ℕ) → IsRead (low_by high (hex_digit c)) → 92 ∷ 117 ∷ 48 ∷ 48 ∷ digit_char high ∷ c ∷ cs ≡ closed text
  low_read high c h = by_digit (hex_digit c) refl h
    where
      by_digit : (o : Option ℕ) → hex_digit c ≡ o → IsRead (low_by high o) → 92 ∷ 117 ∷ 48 ∷ 48 ∷ digit_char high ∷ c ∷ cs ≡ closed text
      by_digit None p h = cc
      by_digit (Some digit) p h = by_test (is_coded (16 * high + digit)) refl h
        where
          by_test : (t : Bool) → is_coded (16 * high + digit) ≡ t → IsRead (if t then Some (Open, Some (16 * high + digit)) else None) → 92 ∷ 117 ∷ 48 ∷ 48 ∷ digit_char high ∷ c ∷ cs ≡ closed text
          by_test false q h = cc
          by_test true q h =
              let code : ℕ = 16 * high + digit in
              let k = digit_known c digit p in
              let quotient : (16 * high + digit) / 16 ≡ high = omega (arith, k.0) in
              let remainder : (16 * high + digit) % 16 ≡ digit = omega (arith, k.0) in
              let word : escaped code ≡ 92 ∷ 117 ∷ 48 ∷ 48 ∷ digit_char high ∷ c ∷ [] =
              escaped_is code false true (coded_unmarked code q) q
              ∙ (ap (λ z. 92 ∷ 117 ∷ 48 ∷ 48 ∷ digit_char z ∷ digit_char (code % 16) ∷ []) quotient
              ∙ (ap (λ z. 92 ∷ 117 ∷ 48 ∷ 48 ∷ digit_char high ∷ digit_char z ∷ []) remainder
              ∙ ap (λ z. 92 ∷ 117 ∷ 48 ∷ 48 ∷ digit_char high ∷ z ∷ []) k.1)) in
              byte_read code (92 ∷ 117 ∷ 48 ∷ 48 ∷ digit_char high ∷ c ∷ []) word h

-- The rest of a quoted text is written as what it gives.
rest_read : (s : Quoted) (cs text : List ℕ) → quoted_from s cs ≡ Some text → IsRest s cs text
rest_read Open [] text e = cc
rest_read Escape [] text e = cc
rest_read FirstZero [] text e = cc
rest_read SecondZero [] text e = cc
rest_read High [] text e = cc
rest_read (Low high) [] text e = λ l. cc
rest_read Closed [] text e = (refl, (let h : [] ≡ text = cc in sym h))
rest_read Open (c ∷ cs) text e = open_read cs text (λ s more q. rest_read s cs more q) c e
rest_read Escape (c ∷ cs) text e = escape_read cs text (λ s more q. rest_read s cs more q) c e
rest_read FirstZero (c ∷ cs) text e = first_zero_read cs text (λ s more q. rest_read s cs more q) c e
rest_read SecondZero (c ∷ cs) text e = second_zero_read cs text (λ s more q. rest_read s cs more q) c e
rest_read High (c ∷ cs) text e = high_read cs text (λ s more q. rest_read s cs more q) c e
rest_read (Low high) (c ∷ cs) text e = λ l. low_read cs text (λ s more q. rest_read s cs more q) high c e
rest_read Closed (c ∷ cs) text e = cc

-- A byte that is written is read again.
module _ (c : ℕ) (cs text : List ℕ) (e : quoted_from Open cs ≡ Some text) where
  abbrev from : Onward → Option (List ℕ)
  from step = go_on step (λ s. quoted_from s cs)

  mark_reads : is_mark c ≡ true → quoted_from Open (92 ∷ c ∷ cs) ≡ Some (c ∷ text)
  mark_reads p =
      ap (λ z. option_map (λ (more : List ℕ). more) (from (if z then Some (Open, Some c) else if c == 117 then Some (FirstZero, None) else None))) p
      ∙ ap (λ z. option_map (λ (more : List ℕ). more) (option_map (λ more. c ∷ more) z)) e

  plain_reads : is_mark c ≡ false → is_coded c ≡ false → quoted_from Open (c ∷ cs) ≡ Some (c ∷ text)
  plain_reads p q =
      let m = mark_parts (c == 34) (c == 92) p in
      let plain : is_plain c ≡ true = ap (λ z. not (z || is_mark c)) q ∙ ap (λ z. not z) p in
      ap (λ z. from (if z then Some (Closed, None) else if c == 92 then Some (Escape, None) else if is_plain c then Some (Open, Some c) else None)) m.0
      ∙ (ap (λ z. from (if z then Some (Escape, None) else if is_plain c then Some (Open, Some c) else None)) m.1
      ∙ (ap (λ z. from (if z then Some (Open, Some c) else None)) plain
      ∙ ap (λ z. option_map (λ more. c ∷ more) z) e))

  low_reads : is_coded c ≡ true → quoted_from (Low (c / 16)) (digit_char (c % 16) ∷ cs) ≡ Some (c ∷ text)
  low_reads q =
      let digit : hex_digit (digit_char (c % 16)) ≡ Some (c % 16) = digit_read (c % 16) (omega arith) in
      let code : 16 * (c / 16) + c % 16 ≡ c = omega arith in
      ap (λ z. from (low_by (c / 16) z)) digit
      ∙ (ap (λ z. from (if is_coded z then Some (Open, Some z) else None)) code
      ∙ (ap (λ z. from (if z then Some (Open, Some c) else None)) q
      ∙ ap (λ z. option_map (λ more. c ∷ more) z) e))

  coded_reads : is_coded c ≡ true → quoted_from Open (coded c ++ cs) ≡ Some (c ∷ text)
  coded_reads q =
      let same : Option (List ℕ) → Option (List ℕ) = option_map (λ more. more) in
      let small : c ≤ 127 = grind (arith, nat_tests) in
      let digit : hex_digit (digit_char (c / 16)) ≡ Some (c / 16) = digit_read (c / 16) (omega (arith, small)) in
      ap (λ z. same (same (same (same (go_on (high_by z) (λ s. quoted_from s (digit_char (c % 16) ∷ cs))))))) digit
      ∙ ap (λ z. same (same (same (same (same z))))) (low_reads q)

  byte_reads : quoted_from Open (escaped c ++ cs) ≡ Some (c ∷ text)
  byte_reads = by_tests (is_mark c) (is_coded c) refl refl
    where
      by_tests : (t u : Bool) → is_mark c ≡ t → is_coded c ≡ u → quoted_from Open (escaped c ++ cs) ≡ Some (c ∷ text)
      by_tests true u p q = ap (λ z. quoted_from Open (z ++ cs)) (escaped_is c true u p q) ∙ mark_reads p
      by_tests false true p q = ap (λ z. quoted_from Open (z ++ cs)) (escaped_is c false true p q) ∙ coded_reads q
      by_tests false false p q = ap (λ z. quoted_from Open (z ++ cs)) (escaped_is c false false p q) ∙ plain_reads p q

text_reads : (text : List ℕ) → quoted_from Open (closed text) ≡ Some text
text_reads [] = refl
text_reads (c ∷ text) = ap (quoted_from Open) (closed_more c text (escaped c) refl) ∙ byte_reads c (closed text) text (text_reads text)

-- The word of a quoted text.
word_read : (word text : List ℕ) → unquoted word ≡ Some text → word ≡ quoted text
word_read [] text e = cc
word_read (c ∷ cs) text e = by_test (c == 34) refl e
  where
    by_test : (t : Bool) → (c == 34) ≡ t → (if t then quoted_from Open cs else None) ≡ Some text → c ∷ cs ≡ quoted text
    by_test true p h = ap (λ z. z ∷ cs) (eqb-true c 34 p) ∙ ap (λ z. 34 ∷ z) (rest_read Open cs text h)
    by_test false p h = cc

pub text_unquoted : (word text : List ℕ) → UnquotesExactly word text
text_unquoted word text = (word_read word text, λ e. ap unquoted e ∙ text_reads text)
