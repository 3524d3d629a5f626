-- Patterns: what a star can do, and how far a pattern goes with a text.
use Rattle.std.specs.Prelude.{◌≡◌, ℕ, Bool, true, false, ◌&&◌, ◌||◌, ◌==◌, List, [], ◌∷◌, ◌⊎◌}
use Rattle.std.proofs.Common.{ap, refl, sym, ◌∙◌, inl, inr, arith}
use Rattle.jfr_filter.specs.Patterns.{glob, some_suffix, first_and}

or_true : (b : Bool) → (b || true) ≡ true
or_true true = refl
or_true false = refl

or_cases : (a b : Bool) → (a || b) ≡ true → (a ≡ true) ⊎ (b ≡ true)
or_cases true b e = inl refl
or_cases false b e = inr e

and_second : (a b : Bool) → (a && b) ≡ true → b ≡ true
and_second true b e = e
and_second false b e = cc

pub same_bool : (a b : Bool) → (a ≡ true → b ≡ true) → (b ≡ true → a ≡ true) → a ≡ b
same_bool true true f g = refl
same_bool true false f g = sym (f refl)
same_bool false true f g = g refl
same_bool false false f g = refl

-- ---- some part at the end

pub some_here : (f : List ℕ → Bool) (t : List ℕ) → f t ≡ true → some_suffix f t ≡ true
some_here f [] e = e
some_here f (c ∷ cs) e = ap (λ b. b || some_suffix f cs) e

some_later : (f : List ℕ → Bool) (c : ℕ) (cs : List ℕ) → some_suffix f cs ≡ true → some_suffix f (c ∷ cs) ≡ true
some_later f c cs e = ap (λ b. f (c ∷ cs) || b) e ∙ or_true (f (c ∷ cs))

some_same : (f g : List ℕ → Bool) → ((s : List ℕ) → f s ≡ g s) → (t : List ℕ) → some_suffix f t ≡ some_suffix g t
some_same f g h [] = h []
some_same f g h (c ∷ cs) = ap (λ b. b || some_suffix f cs) (h (c ∷ cs)) ∙ ap (λ b. g (c ∷ cs) || b) (some_same f g h cs)

-- A star after a star is one.
nested : (f : List ℕ → Bool) (t : List ℕ) → some_suffix (some_suffix f) t ≡ true → some_suffix f t ≡ true
nested f [] e = e
nested f (c ∷ cs) e = by_case (or_cases (some_suffix f (c ∷ cs)) (some_suffix (some_suffix f) cs) e) (nested f cs)
  where
    by_case : ((some_suffix f (c ∷ cs) ≡ true) ⊎ (some_suffix (some_suffix f) cs ≡ true)) → (some_suffix (some_suffix f) cs ≡ true → some_suffix f cs ≡ true) → some_suffix f (c ∷ cs) ≡ true
    by_case (inl h) i = h
    by_case (inr h) i = some_later f c cs (i h)

-- If a character and the rest match some suffix, the rest matches after the character.
after_first : (p : ℕ) (f : List ℕ → Bool) (t : List ℕ) → some_suffix (first_and p f) t ≡ true → some_suffix f t ≡ true
after_first p f [] e = cc
after_first p f (c ∷ cs) e = by_case (or_cases ((p == 63 || p == c) && f cs) (some_suffix (first_and p f) cs) e) (after_first p f cs)
  where
    by_case : ((((p == 63 || p == c) && f cs) ≡ true) ⊎ (some_suffix (first_and p f) cs ≡ true)) → (some_suffix (first_and p f) cs ≡ true → some_suffix f cs ≡ true) → some_suffix f (c ∷ cs) ≡ true
    by_case (inl h) i = some_later f c cs (some_here f cs (and_second (p == 63 || p == c) (f cs) h))
    by_case (inr h) i = some_later f c cs (i h)

past_first : (p : ℕ) (f : List ℕ → Bool) (c : ℕ) (cs : List ℕ) → some_suffix (first_and p f) (c ∷ cs) ≡ true → some_suffix f cs ≡ true
past_first p f c cs e = by_case (or_cases ((p == 63 || p == c) && f cs) (some_suffix (first_and p f) cs) e)
  where
    by_case : ((((p == 63 || p == c) && f cs) ≡ true) ⊎ (some_suffix (first_and p f) cs ≡ true)) → some_suffix f cs ≡ true
    by_case (inl h) = some_here f cs (and_second (p == 63 || p == c) (f cs) h)
    by_case (inr h) = after_first p f cs h

-- ---- a pattern by its first character

pub first_is : (p : ℕ) (ps text : List ℕ) → (p ≡ 42 → ⊥) → glob (p ∷ ps) text ≡ first_and p (glob ps) text
unfolding glob
first_is p ps text h = let t : (p == 42) ≡ false = grind arith in rw t refl

star_is : (ps text : List ℕ) → glob (42 ∷ ps) text ≡ some_suffix (glob ps) text
unfolding glob
star_is ps text = refl

-- ---- along a pattern and a text, while the characters agree

-- The pattern matches the text exactly if what is left of it matches what is left of the text; and if it
-- matches some suffix of the text, what is left of it matches some suffix of what is left of the text.
pub record Along (pattern text ps ts : List ℕ) : Type 0 where
  pub same : glob pattern text ≡ glob ps ts
  pub later : some_suffix (glob pattern) text ≡ true → some_suffix (glob ps) ts ≡ true

pub along_start : (p t : List ℕ) → Along p t p t
along_start p t = record { same = refl; later = λ e. e }

module _ (pattern text ps ts : List ℕ) (a : Along pattern text ps ts) where
  matched : (p : ℕ) (rest : List ℕ) (c : ℕ) (cs : List ℕ) → ps ≡ p ∷ rest → ts ≡ c ∷ cs → (p ≡ 42 → ⊥) → glob ps ts ≡ ((p == 63 || p == c) && glob rest cs)
  matched p rest c cs e f n = ap (λ x. glob x ts) e ∙ (ap (glob (p ∷ rest)) f ∙ first_is p rest (c ∷ cs) n)

  pub along_next : (p : ℕ) (rest : List ℕ) (c : ℕ) (cs : List ℕ) → ps ≡ p ∷ rest → ts ≡ c ∷ cs → (p ≡ 42 → ⊥) → (p == 63 || p == c) ≡ true → Along pattern text rest cs
  along_next p rest c cs e f n t = record {
    same = a.same ∙ (matched p rest c cs e f n ∙ ap (λ b. b && glob rest cs) t);
    later = λ h.
        let there : some_suffix (glob (p ∷ rest)) (c ∷ cs) ≡ true = ap (λ x. some_suffix (glob (p ∷ rest)) x) (sym f) ∙ (ap (λ x. some_suffix (glob x) ts) (sym e) ∙ a.later h) in
        past_first p (glob rest) c cs (sym (some_same (glob (p ∷ rest)) (first_and p (glob rest)) (λ s. first_is p rest s n) (c ∷ cs)) ∙ there);
  }

  pub along_apart : (p : ℕ) (rest : List ℕ) (c : ℕ) (cs : List ℕ) → ps ≡ p ∷ rest → ts ≡ c ∷ cs → (p ≡ 42 → ⊥) → (p == 63 || p == c) ≡ false → glob pattern text ≡ false
  along_apart p rest c cs e f n t = a.same ∙ (matched p rest c cs e f n ∙ ap (λ b. b && glob rest cs) t)

  pub along_text_ends : (p : ℕ) (rest : List ℕ) → ps ≡ p ∷ rest → ts ≡ [] → (p ≡ 42 → ⊥) → glob pattern text ≡ false
  along_text_ends p rest e f n = a.same ∙ (ap (λ x. glob x ts) e ∙ (ap (glob (p ∷ rest)) f ∙ first_is p rest [] n))

  pub along_both_end : ps ≡ [] → ts ≡ [] → glob pattern text ≡ true
  unfolding glob
  along_both_end e f = a.same ∙ (ap (λ x. glob x ts) e ∙ ap (glob []) f)

  pub along_pattern_ends : (c : ℕ) (cs : List ℕ) → ps ≡ [] → ts ≡ c ∷ cs → glob pattern text ≡ false
  unfolding glob
  along_pattern_ends c cs e f = a.same ∙ (ap (λ x. glob x ts) e ∙ ap (glob []) f)

  pub along_star : (rest : List ℕ) → ps ≡ 42 ∷ rest → (glob pattern text ≡ some_suffix (glob rest) ts) × (some_suffix (glob pattern) text ≡ some_suffix (glob rest) ts)
  along_star rest e =
      let first : glob pattern text ≡ some_suffix (glob rest) ts = a.same ∙ (ap (λ x. glob x ts) e ∙ star_is rest ts) in
      let onward : some_suffix (glob pattern) text ≡ true → some_suffix (glob rest) ts ≡ true = λ h.
      nested (glob rest) ts (sym (some_same (glob (42 ∷ rest)) (some_suffix (glob rest)) (star_is rest) ts) ∙ (ap (λ x. some_suffix (glob x) ts) (sym e) ∙ a.later h)) in
      (first, same_bool (some_suffix (glob pattern) text) (some_suffix (glob rest) ts) onward (λ h. some_here (glob pattern) text (first ∙ h)))

-- ---- one part at the end after another

pub some_ends : (f : List ℕ → Bool) (ts : List ℕ) → ts ≡ [] → f ts ≡ false → some_suffix f ts ≡ false
some_ends f [] e h = h
some_ends f (c ∷ cs) e h = cc

pub some_next : (f : List ℕ → Bool) (ts : List ℕ) (c : ℕ) (cs : List ℕ) → ts ≡ c ∷ cs → f ts ≡ false → some_suffix f cs ≡ some_suffix f ts
some_next f [] c cs e h = cc
some_next f (d ∷ ds) c cs e h =
    let rest : cs ≡ ds = cc in
    ap (some_suffix f) rest ∙ sym (ap (λ b. b || some_suffix f ds) h)
