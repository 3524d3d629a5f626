-- The order in which the fields of a class are written is that of the members of its objects.
use Rattle.std.specs.Prelude.{◌≡◌, ℕ, suc, ◌+◌, ◌<◌, ◌≤◌, Bool, true, false, List, [], ◌∷◌, ◌++◌, length, map}
use Rattle.std.specs.List.{AllByRecursion}
use Rattle.std.specs.Ordering.{nat_cmp, match_ordering}
use Rattle.std.specs.Cmp.Lexicographic.{slice_cmp}
use Rattle.std.specs.declared.cmp.Ordering.{Ordering}
use Rattle.std.specs.declared.cmp.Ordering.TheVariants.{Less, Equal, Greater}
use Rattle.std.specs.Str.{encode_utf8_all}
use Rattle.std.proofs.Common.{ap, arith, refl, sym, ◌∙◌, subst}
use Rattle.std.proofs.lemmas.List.{append_assoc}
use Rattle.serde_json.specs.Data.{Data, number, string, unsigned, Members, no_members, member, put}
use Rattle.serde_json.specs.Written.{comma_if, compact_text, members_text}
use Rattle.jfr_layout.specs.Classes.{Field}
use Rattle.jfr_show.specs.Json.{members_with}
use Rattle.jfr_show.specs.Orders.{IsOrder, laid_out, leads, nth, number_in, numbers}

-- Members whose values are changed.
abbrev changed : (Data → Data) → Members → Members
changed f no_members = no_members
changed f (member key d ms) = member key (f d) (changed f ms)

changed_put : (f : Data → Data) (key : List ℕ) (d : Data) (ms : Members) → changed f (put key d ms) ≡ put key (f d) (changed f ms)
changed_put f key d no_members = refl
changed_put f key d (member l e ms) = by_order (slice_cmp nat_cmp key l) (changed_put f key d ms)
  where
    by_order : (o : Ordering) → changed f (put key d ms) ≡ put key (f d) (changed f ms)
        → changed f (match_ordering o (member key d (member l e ms)) (member l d ms) (member l e (put key d ms))) ≡ match_ordering o (member key (f d) (member l (f e) (changed f ms))) (member l (f d) (changed f ms)) (member l (f e) (put key (f d) (changed f ms)))
    by_order Less h = refl
    by_order Equal h = refl
    by_order Greater h = ap (member l (f e)) h

changed_with : (f : Data → Data) (ms : Members) (fs : List Field) (ds : List Data) → changed f (members_with ms fs ds) ≡ members_with (changed f ms) fs (map f ds)
changed_with f ms [] ds = refl
changed_with f ms (g ∷ fs) [] = refl
changed_with f ms (g ∷ fs) (d ∷ ds) = changed_with f (put (encode_utf8_all g.name) d ms) fs ds ∙ ap (λ z. members_with z fs (map f ds)) (changed_put f (encode_utf8_all g.name) d ms)

-- The value whose index is given by another value.
abbrev picked : List Data → Data → Data
picked ds d = nth ds (number_in d)

picked_numbers : (all : List Data) (n : ℕ) (fs : List Field) (ds : List Data) → length ds ≡ length fs → ((i : ℕ) → nth all (n + i) ≡ nth ds i) → map (picked all) (numbers n fs) ≡ ds
picked_numbers all n [] [] e h = refl
picked_numbers all n [] (d ∷ ds) e h = cc
picked_numbers all n (f ∷ fs) [] e h = cc
picked_numbers all n (f ∷ fs) (d ∷ ds) e h =
    let first : nth all n ≡ d = (let z : n ≡ n + 0 = omega arith in ap (nth all) z ∙ h 0) in
    let rest : map (picked all) (numbers (suc n) fs) ≡ ds = picked_numbers all (suc n) fs ds (omega (arith, e)) (λ i. (let z : suc n + i ≡ n + suc i = omega arith in ap (nth all) z ∙ h (suc i))) in
    ap (λ (z : Data). z ∷ map (picked all) (numbers (suc n) fs)) first ∙ ap (λ (z : List Data). d ∷ z) rest

lay_group : (c q t r : List ℕ) → c ++ (q ++ 58 ∷ (t ++ r)) ≡ (c ++ (q ++ 58 ∷ [])) ++ (t ++ r)
lay_group c q t r = sym (append_assoc c (q ++ 58 ∷ []) (t ++ r) ∙ ap (λ z. c ++ z) (append_assoc q (58 ∷ []) (t ++ r)))

-- Laid out by the leads, values are the text of the members whose numbers the leads have.
laid : (later : Bool) (ms : Members) (ds : List Data) → members_text later (changed (picked ds) ms) ≡ laid_out (leads later ms) ds
laid later no_members ds = refl
laid later (member key d ms) ds =
    ap (λ z. comma_if later ++ (compact_text (string key) ++ 58 ∷ (compact_text (picked ds d) ++ z))) (laid true ms ds)
    ∙ lay_group (comma_if later) (compact_text (string key)) (compact_text (picked ds d)) (laid_out (leads true ms) ds)

-- Each number is below a bound.
abbrev Below : ℕ → Members → Type 0
Below n no_members = Unit {0}
Below n (member key d ms) = (number_in d < n) × Below n ms

below_put : (n : ℕ) (key : List ℕ) (d : Data) (ms : Members) → number_in d < n → Below n ms → Below n (put key d ms)
below_put n key d no_members x b = (x, tt)
below_put n key d (member l e ms) x b = by_order (slice_cmp nat_cmp key l) (below_put n key d ms x b.1)
  where
    by_order : (o : Ordering) → Below n (put key d ms) → Below n (match_ordering o (member key d (member l e ms)) (member l d ms) (member l e (put key d ms)))
    by_order Less h = (x, b)
    by_order Equal h = (x, b.1)
    by_order Greater h = (b.0, h)

below_with : (n m : ℕ) (ms : Members) (fs : List Field) → m + length fs ≤ n → Below n ms → Below n (members_with ms fs (numbers m fs))
below_with n m ms [] l b = b
below_with n m ms (f ∷ fs) l b = below_with n (suc m) (put (encode_utf8_all f.name) (number (unsigned m)) ms) fs (omega (arith, l))
    (below_put n (encode_utf8_all f.name) (number (unsigned m)) ms (omega (arith, l)) b)

below_leads : (n : ℕ) (later : Bool) (ms : Members) → Below n ms → AllByRecursion (λ m. m.1 < n) (leads later ms)
below_leads n later no_members b = tt
below_leads n later (member key d ms) b = (b.0, below_leads n true ms b.1)

-- The members under which the fields' numbers are put give the order.
pub order_is : (fs : List Field) (ms : Members) → ms ≡ members_with no_members fs (numbers 0 fs) → IsOrder fs (leads false ms)
order_is fs ms e = subst (λ z. IsOrder fs (leads false z)) (sym e) (record {
  within = below_leads (length fs) false (members_with no_members fs (numbers 0 fs)) (below_with (length fs) 0 no_members fs (omega arith) tt);
  exact = λ ds l.
      ap (λ z. members_text false (members_with no_members fs z)) (sym (picked_numbers ds 0 fs ds l (λ i. (let z : 0 + i ≡ i = omega arith in ap (nth ds) z))))
      ∙ (ap (members_text false) (sym (changed_with (picked ds) no_members fs (numbers 0 fs)))
      ∙ laid false (members_with no_members fs (numbers 0 fs)) ds);
})

-- The fields from a number on, with their numbers.
pub one_number : (fs gs : List Field) (f : Field) (n : ℕ) (key : List ℕ) (d : Data) (made new : Members) → fs ≡ f ∷ gs → key ≡ encode_utf8_all f.name → d ≡ number (unsigned n) → new ≡ put key d made
    → members_with made fs (numbers n fs) ≡ members_with new gs (numbers (n + 1) gs)
one_number fs gs f n key d made new e q x h =
    let more : suc n ≡ n + 1 = omega arith in
    ap (λ z. members_with made z (numbers n z)) e
    ∙ (ap (λ z. members_with (put (encode_utf8_all f.name) (number (unsigned n)) made) gs (numbers z gs)) more
    ∙ ap (λ z. members_with z gs (numbers (n + 1) gs)) (sym (h ∙ (ap (λ z. put z d made) q ∙ ap (λ z. put (encode_utf8_all f.name) z made) x))))
