-- Pieces that are added to a text one after another.
use Rattle.std.specs.Prelude.{◌≡◌, ℕ, ◌+◌, ◌<◌, ◌≤◌, List, [], ◌∷◌, ◌++◌, take, length, Some, slice_get, codes, decimal}
use Rattle.std.specs.List.{flat_map}
use Rattle.std.proofs.Common.{ap, refl, sym, ◌∙◌, append_assoc, get_or}
use Rattle.std.proofs.lemmas.List.{append-nil, flat_map_more, take_all, take_more}
use Rattle.jfr_layout.specs.Classes.{Classes}
use Rattle.jfr_layout.proofs.Lists.{item_at}
use Rattle.jfr_chunk.specs.Parts.{Parts}
use Rattle.jfr_show.specs.Metadata.{categories_line, class_lines, metadata_shown}
use Rattle.jfr_show.specs.Texts.{newline, quoted}
use Rattle.jfr_show.specs.Totals.{number_line}
use Rattle.std.proofs.lemmas.Option.{get_or_from_slice_get, slice_get_within}

-- The member that a loop over a list's slice has.
pub item_of : {X : Type 0} (xs items : List X) (i : ℕ) (x : X) → items ≡ xs → i < length items → x ≡ get_or items i x → slice_get xs i ≡ Some x
item_of xs items i x same within is = ap (λ z. slice_get z i) (sym same) ∙ item_at items i x within is

-- One member more.
pub take_next : {X : Type 0} (xs : List X) (i : ℕ) (x : X) → slice_get xs i ≡ Some x → take (i + 1) xs ≡ take i xs ++ x ∷ []
take_next xs i x is = take_more xs i x (slice_get_within xs i x is) ∙ ap (λ y. take i xs ++ y ∷ []) (get_or_from_slice_get xs i x x is)

-- The piece of one member more.
pub pieces_more : {X : Type 0} (f : X → List ℕ) (xs : List X) (i : ℕ) (x : X) (start now new : List ℕ) → slice_get xs i ≡ Some x → now ≡ start ++ flat_map f (take i xs) → new ≡ now ++ f x
    → new ≡ start ++ flat_map f (take (i + 1) xs)
pieces_more f xs i x start now new is so next = next ∙ (ap (λ z. z ++ f x) so ∙ (flat_map_more f start (take i xs) x ∙ ap (λ z. start ++ flat_map f z) (sym (take_next xs i x is))))

joined : (a b c d e : List ℕ) → (((a ++ b) ++ c) ++ d) ++ e ≡ a ++ ((b ++ (c ++ d)) ++ e)
joined a b c d e = simp append_assoc refl

-- The line of categories, from its parts.
pub categories_shown : (cs others : List (List ℕ)) (first : List ℕ) (n : ℕ) (was a b now : List ℕ) → cs ≡ first ∷ others → length others ≤ n → a ≡ was ++ codes "  category " → b ≡ a ++ quoted first
    → now ≡ b ++ flat_map (λ c. codes ", " ++ quoted c) (take n others) → now ++ newline ≡ was ++ categories_line cs
categories_shown cs others first n was a b now is all p q r =
    let word : List ℕ = codes "  category " in
    let rest : List ℕ = flat_map (λ c. codes ", " ++ quoted c) others in
    let d : now ≡ b ++ rest = r ∙ ap (λ z. b ++ flat_map (λ c. codes ", " ++ quoted c) z) (take_all n others all) in
    let e : now ++ newline ≡ (((was ++ word) ++ quoted first) ++ rest) ++ newline = ap (λ z. z ++ newline) (d ∙ ap (λ z. z ++ rest) (q ∙ ap (λ z. z ++ quoted first) p)) in
    e ∙ (joined was word (quoted first) rest newline ∙ ap (λ z. was ++ categories_line z) (sym is))

-- The lines of a chunk's classes, from their parts.
pub metadata_is : (p : Parts) (k : Classes) (number n : ℕ) (was a b d now : List ℕ) → k ≡ p.classes → length k ≤ n → a ≡ was ++ codes "chunk " → b ≡ a ++ decimal number → d ≡ b ++ newline
    → now ≡ d ++ flat_map (class_lines k) (take n k) → now ≡ was ++ metadata_shown p number
unfolding metadata_shown
metadata_is p k number n was a b d now same all e f g h =
    let word : List ℕ = codes "chunk " in
    let rest : List ℕ = flat_map (class_lines p.classes) p.classes in
    h ∙ (ap (λ z. d ++ flat_map (class_lines k) z) (take_all n k all)
    ∙ (ap (λ z. d ++ flat_map (class_lines z) z) same ∙ ap (λ z. z ++ rest) (g ∙ (ap (λ z. z ++ newline) (f ∙ ap (λ z. z ++ decimal number) e))) ∙ simp append_assoc refl))

-- One line with a number more.
pub line_more : (was now new lines word : List ℕ) (n m : ℕ) → now ≡ was ++ lines → new ≡ now ++ number_line word n → n ≡ m → new ≡ was ++ (lines ++ number_line word m)
line_more was now new lines word n m so next e = next ∙ (ap (λ k. now ++ number_line word k) e ∙ (ap (λ z. z ++ number_line word m) so ∙ append_assoc was lines (number_line word m)))

-- Pieces that are added one after another, each with the text after it.
abbrev pub AreAdded : List ℕ → List (List ℕ × List ℕ) → List ℕ → Type 0
AreAdded now [] end = end ≡ now
AreAdded now ((piece, next) ∷ more) end = (next ≡ now ++ piece) × AreAdded next more end

pub all_added : (now : List ℕ) (steps : List (List ℕ × List ℕ)) (end : List ℕ) → AreAdded now steps end → end ≡ now ++ flat_map (λ s. s.0) steps
all_added now [] end e = e ∙ sym (append-nil now)
all_added now ((piece, next) ∷ more) end (e, r) =
    let rest = flat_map (λ s. s.0) more in
    all_added next more end r ∙ (ap (λ z. z ++ rest) e ∙ append_assoc now piece rest)
