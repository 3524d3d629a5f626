-- Formats on exact bytes.
use Rattle.std.specs.Prelude.{◌≡◌, ℕ, zero, suc, List, [], ◌∷◌, ◌++◌}
use Rattle.std.proofs.Common.{ap, refl, sym, ◌∙◌, subst}
use Rattle.std.proofs.lemmas.List.{append_assoc, append-nil}
use Rattle.jfr_base.specs.Formats.{Format, Done, Stop, Int, Byte, Run, Here, Refuse, ◌>>=◌, with_bytes, times, for_each, Exactly}

-- What the first format reads, and what the second does.
pub record Bound {A B : Type 0} (f : Format A) (g : A → List ℕ → Format B) (b : List ℕ) (y : B) : Type 0 where
  pub value : A
  pub front : List ℕ
  pub rest : List ℕ
  pub split : b ≡ front ++ rest
  pub first : Exactly f front value
  pub second : Exactly (g value front) rest y

behind : (h r x y : List ℕ) (b : List ℕ) → b ≡ h ++ r → r ≡ x ++ y → b ≡ (h ++ x) ++ y
behind h r x y b e f = e ∙ (ap (λ z. h ++ z) f ∙ sym (append_assoc h x y))

pub exact_bind : {A B : Type 0} (f : Format A) (g : A → Format B) (b : List ℕ) (y : B) → Exactly (f >>= g) b y → Bound f (λ a s. g a) b y
exact_bind (Done a) g b y e = record { value = a; front = []; rest = b; split = refl; first = (refl, refl); second = e }
exact_bind (Stop next) g b y e = absurd e
exact_bind (Int check next) g b y e =
    let i = exact_bind (next e.2 e.0) g e.1 y e.6 in
    record { value = i.value; front = e.0 ++ i.front; rest = i.rest; split = behind e.0 e.1 i.front i.rest b e.3 i.split; first = (e.0, i.front, e.2, refl, e.4, e.5, i.first); second = i.second }
exact_bind (Byte check next) g b y e =
    let i = exact_bind (next e.0) g e.1 y e.4 in
    record { value = i.value; front = e.0 ∷ i.front; rest = i.rest; split = e.2 ∙ ap (λ z. e.0 ∷ z) i.split; first = (e.0, i.front, refl, e.3, i.first); second = i.second }
exact_bind (Run n next) g b y e =
    let i = exact_bind (next e.0) g e.1 y e.4 in
    record { value = i.value; front = e.0 ++ i.front; rest = i.rest; split = behind e.0 e.1 i.front i.rest b e.2 i.split; first = (e.0, i.front, refl, e.3, i.first); second = i.second }
exact_bind (Here next) g b y e = absurd e
exact_bind (Refuse why) g b y e = absurd e

-- And back.
pub bind_exact : {A B : Type 0} (f : Format A) (g : A → Format B) (h r b : List ℕ) (a : A) (y : B) → b ≡ h ++ r → Exactly f h a → Exactly (g a) r y → Exactly (f >>= g) b y
bind_exact (Done a) g h r b v y s e i = subst (λ z. Exactly (g a) z y) (sym (s ∙ ap (λ z. z ++ r) e.1)) (subst (λ z. Exactly (g z) r y) e.0 i)
bind_exact (Stop next) g h r b v y s e i = absurd e
bind_exact (Int check next) g h r b v y s e i =
    (e.0, e.1 ++ r, e.2, s ∙ (ap (λ z. z ++ r) e.3 ∙ append_assoc e.0 e.1 r), e.4, e.5, bind_exact (next e.2 e.0) g e.1 r (e.1 ++ r) v y refl e.6 i)
bind_exact (Byte check next) g h r b v y s e i =
    (e.0, e.1 ++ r, s ∙ ap (λ z. z ++ r) e.2, e.3, bind_exact (next e.0) g e.1 r (e.1 ++ r) v y refl e.4 i)
bind_exact (Run n next) g h r b v y s e i =
    (e.0, e.1 ++ r, s ∙ (ap (λ z. z ++ r) e.2 ∙ append_assoc e.0 e.1 r), e.3, bind_exact (next e.0) g e.1 r (e.1 ++ r) v y refl e.4 i)
bind_exact (Here next) g h r b v y s e i = absurd e
bind_exact (Refuse why) g h r b v y s e i = absurd e

-- With the bytes.
pub exact_with : {A B : Type 0} (f : Format A) (g : A → List ℕ → Format B) (c b : List ℕ) (y : B) → Exactly (with_bytes c f g) b y → Bound f (λ a s. g a (c ++ s)) b y
exact_with (Done a) g c b y e = record { value = a; front = []; rest = b; split = refl; first = (refl, refl); second = subst (λ z. Exactly (g a z) b y) (sym (append-nil c)) e }
exact_with (Stop next) g c b y e = absurd e
exact_with (Int check next) g c b y e =
    let i = exact_with (next e.2 e.0) g (c ++ e.0) e.1 y e.6 in
    record {
      value = i.value;
      front = e.0 ++ i.front;
      rest = i.rest;
      split = behind e.0 e.1 i.front i.rest b e.3 i.split;
      first = (e.0, i.front, e.2, refl, e.4, e.5, i.first);
      second = subst
          (λ z. Exactly (g i.value z) i.rest y) (append_assoc c e.0 i.front) i.second;
    }
exact_with (Byte check next) g c b y e =
    let i = exact_with (next e.0) g (c ++ (e.0 ∷ [])) e.1 y e.4 in
    record {
      value = i.value;
      front = e.0 ∷ i.front;
      rest = i.rest;
      split = e.2 ∙ ap (λ z. e.0 ∷ z) i.split;
      first = (e.0, i.front, refl, e.3, i.first);
      second = subst
          (λ z. Exactly (g i.value z) i.rest y) (append_assoc c (e.0 ∷ []) i.front) i.second;
    }
exact_with (Run n next) g c b y e =
    let i = exact_with (next e.0) g (c ++ e.0) e.1 y e.4 in
    record {
      value = i.value;
      front = e.0 ++ i.front;
      rest = i.rest;
      split = behind e.0 e.1 i.front i.rest b e.2 i.split;
      first = (e.0, i.front, refl, e.3, i.first);
      second = subst
          (λ z. Exactly (g i.value z) i.rest y) (append_assoc c e.0 i.front) i.second;
    }
exact_with (Here next) g c b y e = absurd e
exact_with (Refuse why) g c b y e = absurd e

-- Lists of formats that read at least what others do.
pub times_more : {A : Type 0} (f g : Format A) → ((b : List ℕ) (a : A) → Exactly f b a → Exactly g b a) → (n : ℕ) (b : List ℕ) (vs : List A) → Exactly (times n f) b vs → Exactly (times n g) b vs
times_more f g m zero b vs e = e
times_more f g m (suc n) b vs e =
    let i = exact_bind f (λ a. times n f >>= λ rest. Done (a ∷ rest)) b vs e in
    let j = exact_bind (times n f) (λ rest. Done (i.value ∷ rest)) i.rest vs i.second in
    bind_exact g (λ a. times n g >>= λ rest. Done (a ∷ rest)) i.front i.rest b i.value vs i.split (m i.front i.value i.first)
    (bind_exact (times n g) (λ rest. Done (i.value ∷ rest)) j.front j.rest i.rest j.value vs j.split (times_more f g m n j.front j.value j.first) j.second)

pub each_more : {X A : Type 0} (f g : X → Format A) → ((x : X) (b : List ℕ) (a : A) → Exactly (f x) b a → Exactly (g x) b a) → (xs : List X) (b : List ℕ) (vs : List A) → Exactly (for_each xs f) b vs
    → Exactly (for_each xs g) b vs
each_more f g m [] b vs e = e
each_more f g m (x ∷ xs) b vs e =
    let i = exact_bind (f x) (λ a. for_each xs f >>= λ rest. Done (a ∷ rest)) b vs e in
    let j = exact_bind (for_each xs f) (λ rest. Done (i.value ∷ rest)) i.rest vs i.second in
    bind_exact (g x) (λ a. for_each xs g >>= λ rest. Done (a ∷ rest)) i.front i.rest b i.value vs i.split (m x i.front i.value i.first)
    (bind_exact (for_each xs g) (λ rest. Done (i.value ∷ rest)) j.front j.rest i.rest j.value vs j.split (each_more f g m xs j.front j.value j.first) j.second)
