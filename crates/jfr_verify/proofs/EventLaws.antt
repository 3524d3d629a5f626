-- Events one after another.
use Rattle.std.specs.Prelude.{◌≡◌, ◌<◌, ◌≤◌, ◌+◌, ◌^◌, ◌==◌, ◌&&◌, ℕ, zero, suc, Bool, true, false, List, [], ◌∷◌, ◌++◌, take, length, slice_get, Option, Some, None, option_map, unwrap_or, if◌then◌else◌}
use Rattle.std.specs.Str.{bytes_eq}
use Rattle.std.proofs.Common.{ap, arith, refl, sym, ◌∙◌, subst}
use Rattle.std.proofs.lemmas.List.{append-nil}
use Rattle.std.proofs.lemmas.Slice.Eq.{bytes_eq-Decides}
use Rattle.std.proofs.lemmas.Option.{slice_get_within, slice_get-map}
use Rattle.jfr_header.specs.Fronts.{Whole}
use Rattle.jfr_frame.specs.declared.framed.Framed.{Framed}
use Rattle.jfr_frame.specs.Records.{IsRecord, record_end}
use Rattle.jfr_chunk.specs.Parts.{Parts, EventAt, AreParts, events_of}
use Rattle.jfr_chunk.specs.Reach.{marked, kept_by}
use Rattle.jfr_chunk.proofs.AllLaws.{all_in}
use Rattle.jfr_chunk.proofs.CountLaws.{whole_small}
use Rattle.jfr_worklist.proofs.Members.{get_in}
use Rattle.jfr_chunk.proofs.HasNodesLaws.{event_is, tiles_each}
use Rattle.jfr_verify.specs.Checks.{content, contents}
use Rattle.jfr_verify.specs.Decided.{Decided}
use Rattle.jfr_verify.specs.SameEvents.{same_content, both_same, same_event, next_event}
use Rattle.jfr_verify.proofs.RankLaws.{marked_one}
use Rattle.jfr_layout.proofs.Lists.{present, take_next}

-- The record lies in the chunk.
pub record Stands (p : Parts) (r : Framed) : Type 0 where
  pub order : r.at ≤ record_end r
  pub within : record_end r ≤ length p.bytes
  pub small : record_end r < 2 ^ 64

event_stands : (p : Parts) (n : ℕ) (e : EventAt) → Whole p.bytes → AreParts p → slice_get (events_of p) n ≡ Some e → Stands p e.record_of
event_stands p n e w a g =
    let i = event_is p a e (get_in (events_of p) n e g) in
    let r : IsRecord p.bytes e.record_of = all_in (IsRecord p.bytes) p.records e.record_of (tiles_each p.bytes 68 (length p.bytes) p.records a.records) i.listed in
    let s = whole_small p.bytes w in
    record { order = omega arith; within = r.within; small = omega (arith, r.within, s) }

-- If the record of an event has this number, it lies in the chunk.
pub record_stands : (p : Parts) (n at : ℕ) (r : Framed) → Whole p.bytes → AreParts p → option_map (slice_get p.records) (Some at) ≡ option_map (λ e. Some e.record_of) (slice_get (events_of p) n)
    → Some r ≡ slice_get p.records at → Stands p r
record_stands p n at r w a h g = by_event (slice_get (events_of p) n) refl h
  where
    by_event : (o : Option EventAt) → slice_get (events_of p) n ≡ o → option_map (slice_get p.records) (Some at) ≡ option_map (λ e. Some e.record_of) o → Stands p r
    by_event None q h = cc
    by_event (Some e) q h =
        let z : slice_get p.records at ≡ Some e.record_of = cc in
        let y : Some e.record_of ≡ Some r = sym z ∙ sym g in
        let x : e.record_of ≡ r = cc in
        subst (Stands p) x (event_stands p n e w a q)

same_is : (x y : ℕ × List ℕ) → same_content x y ≡ true → x ≡ y
same_is x y e = by_parts (x.0 == y.0) refl (bytes_eq x.1 y.1) refl e
  where
    as_one : ℕ → List ℕ → ℕ × List ℕ
    as_one a xs = (a, xs)

    pair : (a b : ℕ) (xs ys : List ℕ) → a ≡ b → xs ≡ ys → as_one a xs ≡ as_one b ys
    pair a b xs ys p q = ap (λ z. as_one z xs) p ∙ ap (as_one b) q

    by_parts : (s : Bool) → (x.0 == y.0) ≡ s → (t : Bool) → bytes_eq x.1 y.1 ≡ t → (s && t) ≡ true → x ≡ y
    by_parts true s true t h = pair x.0 y.0 x.1 y.1 (grind (arith, s)) ((bytes_eq-Decides x.1 y.1).0 t)
    by_parts true s false t h = cc
    by_parts false s t u h = cc

is_self : (x : ℕ × List ℕ) → same_content x x ≡ true
is_self x = (let h : (x.0 == x.0) ≡ true = grind arith in ap (λ z. z && bytes_eq x.1 x.1) h) ∙ (bytes_eq-Decides x.1 x.1).1 refl

module _ (p q : Parts) (flags : List Bool) where
  abbrev wanted : List (ℕ × List ℕ)
  wanted = contents q (events_of q)

  abbrev first : ℕ → List EventAt
  first n = marked (take n flags) (take n (events_of p))

  -- The first kept events of the input are the first events of the output.
  pub record InSame (n at : ℕ) : Type 0 where
    pub same : contents p (first n) ≡ take at wanted
    pub within : at ≤ length wanted

  pub same_start : InSame 0 0
  same_start = record { same = refl; within = omega arith }

  all_of : {X : Type 0} (xs : List X) (n : ℕ) → length xs ≤ n → take n xs ≡ xs
  all_of [] zero h = refl
  all_of [] (suc n) h = refl
  all_of (x ∷ xs) zero h = absurd (omega arith)
  all_of (x ∷ xs) (suc n) h = ap (λ z. x ∷ z) (all_of xs n (omega arith))

  take_size : {X : Type 0} (xs : List X) (n : ℕ) → n ≤ length xs → length (take n xs) ≡ n
  take_size [] zero h = refl
  take_size [] (suc n) h = absurd (omega arith)
  take_size (x ∷ xs) zero h = refl
  take_size (x ∷ xs) (suc n) h = ap suc (take_size xs n (omega arith))

  -- What follows the first ones.
  get_after : {X : Type 0} (ws : List X) (at : ℕ) (y : X) (rest : List X) → at ≤ length ws → slice_get (take at ws ++ y ∷ rest) at ≡ Some y
  get_after [] zero y rest h = refl
  get_after [] (suc n) y rest h = absurd (omega arith)
  get_after (w ∷ ws) zero y rest h = refl
  get_after (w ∷ ws) (suc n) y rest h = get_after ws n y rest (omega arith)

  contents_more : (xs : List EventAt) (e : EventAt) (rest : List EventAt) → contents p (xs ++ e ∷ rest) ≡ contents p xs ++ content p e ∷ contents p rest
  contents_more [] e rest = refl
  contents_more (x ∷ xs) e rest = ap (λ z. content p x ∷ z) (contents_more xs e rest)

  -- One more kept event, with all that follow.
  marked_after : (ms : List Bool) (xs : List EventAt) (n : ℕ) (e : EventAt) → slice_get ms n ≡ Some true → slice_get xs n ≡ Some e
      → (rest : List EventAt) × (marked ms xs ≡ marked (take n ms) (take n xs) ++ e ∷ rest)
  marked_after [] xs n e m g = cc
  marked_after (m ∷ ms) [] n e t g = cc
  marked_after (true ∷ ms) (x ∷ xs) zero e m g = let h : x ≡ e = cc in (marked ms xs, ap (λ z. z ∷ marked ms xs) h)
  marked_after (false ∷ ms) (x ∷ xs) zero e m g = cc
  marked_after (true ∷ ms) (x ∷ xs) (suc n) e m g = let r = marked_after ms xs n e m g in (r.0, ap (λ z. x ∷ z) r.1)
  marked_after (false ∷ ms) (x ∷ xs) (suc n) e m g = marked_after ms xs n e m g

  one_more : (n : ℕ) → n + 1 ≡ suc n
  one_more n = omega arith

  wanted_at : (at : ℕ) → slice_get wanted at ≡ option_map (content q) (slice_get (events_of q) at)
  wanted_at at = slice_get-map (content q) (events_of q) at

  both_is : (x : ℕ × List ℕ) (o : Option (ℕ × List ℕ)) → both_same (Some x) o ≡ true → o ≡ Some x
  both_is x None e = cc
  both_is x (Some y) e = ap (λ z. Some z) (sym (same_is x y e))

  pub same_next : (n at next : ℕ) → n < length flags → length flags ≡ length (events_of p) → InSame n at → next_event p q flags n at ≡ Some next → InSame (n + 1) next
  same_next n at next h s i e = by_flag (slice_get flags n) refl e
    where
      by_same : (x : EventAt) (b : Bool) → slice_get (events_of p) n ≡ Some x → slice_get flags n ≡ Some true → same_event p q n at ≡ b → (if b then Some (at + 1) else None) ≡ Some next
          → InSame (n + 1) next
      by_same x false g f b e = cc
      by_same x true g f b e =
          let o : slice_get wanted at ≡ Some (content p x) = wanted_at at ∙ both_is (content p x) (option_map (content q) (slice_get (events_of q) at))
          (sym (ap (λ z. both_same (option_map (content p) z) (option_map (content q) (slice_get (events_of q) at))) g) ∙ b) in
          let k : contents p (first (suc n)) ≡ take (at + 1) wanted =
          ap (contents p) (marked_one flags (events_of p) n true x f g) ∙ (contents_more (first n) x [] ∙ (ap (λ z. z ++ content p x ∷ []) i.same ∙ sym (take_next wanted at (content p x) o))) in
          let l : at + 1 ≡ next = cc in
          let w : at < length wanted = slice_get_within wanted at (content p x) o in
          record {
            same = ap (λ z. contents p (first z)) (one_more n) ∙ (k ∙ ap (λ z. take z wanted) l);
            within = omega arith;
          }

      by_flag : (o : Option Bool) → slice_get flags n ≡ o → (if unwrap_or o false then (if same_event p q n at then Some (at + 1) else None) else Some at) ≡ Some next → InSame (n + 1) next
      by_flag None f e = let x = present flags n h in let z : None ≡ Some x.0 = sym f ∙ x.1 in cc
      by_flag (Some false) f e =
          let l : at ≡ next = cc in
          let x = present (events_of p) n (omega arith) in
          record {
            same = ap (λ z. contents p (first z)) (one_more n) ∙ (ap (contents p) (marked_one flags (events_of p) n false x.0 f x.1 ∙ append-nil (first n)) ∙ (i.same ∙ ap (λ z. take z wanted) l));
            within = subst (λ z. z ≤ length wanted) l i.within;
          }
      by_flag (Some true) f e = let x = present (events_of p) n (omega arith) in by_same x.0 (same_event p q n at) x.1 f refl e

  pub same_differs : (n at : ℕ) → n < length flags → length flags ≡ length (events_of p) → InSame n at → next_event p q flags n at ≡ None → contents p (kept_by p flags) ≡ wanted → ⊥
  same_differs n at h s i e all = by_flag (slice_get flags n) refl e
    where
      by_same : (x : EventAt) (b : Bool) → slice_get (events_of p) n ≡ Some x → slice_get flags n ≡ Some true → same_event p q n at ≡ b → (if b then Some (at + 1) else None) ≡ None → ⊥
      by_same x true g f b e = cc
      by_same x false g f b e =
          let r = marked_after flags (events_of p) n x f g in
          let k : take at wanted ++ content p x ∷ contents p r.0 ≡ wanted =
          ap (λ z. z ++ content p x ∷ contents p r.0) (sym i.same) ∙ (sym (contents_more (first n) x r.0) ∙ (sym (ap (contents p) r.1) ∙ all)) in
          let o : slice_get wanted at ≡ Some (content p x) = ap (λ z. slice_get z at) (sym k) ∙ get_after wanted at (content p x) (contents p r.0) i.within in
          let t : same_event p q n at ≡ true = ap (λ z. both_same (option_map (content p) z) (option_map (content q) (slice_get (events_of q) at))) g
          ∙ (ap (both_same (Some (content p x))) (sym (wanted_at at) ∙ o) ∙ is_self (content p x)) in
          (let z : false ≡ true = sym b ∙ t in cc)

      by_flag : (o : Option Bool) → slice_get flags n ≡ o → (if unwrap_or o false then (if same_event p q n at then Some (at + 1) else None) else Some at) ≡ None → ⊥
      by_flag None f e = cc
      by_flag (Some false) f e = cc
      by_flag (Some true) f e = let x = present (events_of p) n (omega arith) in by_same x.0 (same_event p q n at) x.1 f refl e

  map_size : (es : List EventAt) → length (contents q es) ≡ length es
  map_size [] = refl
  map_size (x ∷ xs) = ap suc (map_size xs)

  whole_first : (n : ℕ) → length flags ≤ n → length flags ≡ length (events_of p) → first n ≡ kept_by p flags
  whole_first n h s = ap (λ z. marked z (take n (events_of p))) (all_of flags n h) ∙ ap (marked flags) (all_of (events_of p) n (omega arith))

  pub same_end : (n at : ℕ) → length flags ≤ n → length flags ≡ length (events_of p) → InSame n at → (b : Bool) → (at == length (events_of q)) ≡ b → Decided (contents p (kept_by p flags) ≡ wanted) b
  same_end n at h s i true e =
      let l : at ≡ length (events_of q) = grind (arith, e) in
      let m = map_size (events_of q) in
      sym (ap (contents p) (whole_first n h s)) ∙ (i.same ∙ all_of wanted at (omega arith))
  same_end n at h s i false e = λ all.
      let k : take at wanted ≡ wanted = sym i.same ∙ (ap (contents p) (whole_first n h s) ∙ all) in
      let l : at ≡ length (events_of q) = sym (take_size wanted at i.within) ∙ (ap length k ∙ map_size (events_of q)) in
      (let z : (at == length (events_of q)) ≡ true = grind (arith, l) in cc)

  pub same_small : (n at : ℕ) → InSame n at → at ≤ length (events_of q)
  same_small n at i = let m = map_size (events_of q) in omega (arith, i.within)

pub same_within : (p q : Parts) (n m : ℕ) → same_event p q n m ≡ true → m < length (events_of q)
same_within p q n m e = by_other (option_map (content p) (slice_get (events_of p) n)) (slice_get (events_of q) m) refl e
  where
    by_other : (a : Option (ℕ × List ℕ)) (b : Option EventAt) → slice_get (events_of q) m ≡ b → both_same a (option_map (content q) b) ≡ true → m < length (events_of q)
    by_other None b g e = cc
    by_other (Some x) None g e = cc
    by_other (Some x) (Some y) g e = slice_get_within (events_of q) m y g
