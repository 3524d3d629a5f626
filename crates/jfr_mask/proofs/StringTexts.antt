-- The texts of an event's masked strings are those of its leaves.
use Rattle.std.specs.Prelude.{◌≡◌, ℕ, suc, ◌+◌, ◌-◌, ◌<◌, ◌≤◌, Bool, true, false, List, [], ◌∷◌, ◌++◌, drop, get_or, length, nat_lt, slice_get, slice_range, take, unwrap_or, Option, None, Some, IfSome, IsSome, if◌then◌else◌}
use Rattle.std.specs.List.{AllByRecursion, cons_option, filter_map, flat_map}
use Rattle.std.proofs.Common.{ap, arith, refl, sym, subst, ◌∙◌}
use Rattle.std.proofs.lemmas.Bool.{ltb-false}
use Rattle.std.proofs.lemmas.Option.{slice_get-get_or}
use Rattle.jfr_value.specs.declared.leaf.Holder.{Holder}
use Rattle.jfr_value.specs.Leaves.{LeafAt, leaves}
use Rattle.jfr_value.specs.Nodes.{IsNode, NodeAt}
use Rattle.jfr_value.specs.Values.{Value}
use Rattle.jfr_worklist.proofs.Members.{get_in}
use Rattle.jfr_chunk.specs.Parts.{AreParts, EventAt, Parts, events_of}
use Rattle.jfr_chunk.proofs.HasNodesLaws.{event_is, has_nodes}
use Rattle.jfr_output.proofs.CursorLaws.{drop_at}
use Rattle.jfr_rewrite.specs.Copying.{LiesIn}
use Rattle.jfr_rewrite.proofs.LaidLeaves.{node_lies}
use Rattle.jfr_mask.specs.declared.event_strings.StringAt.{StringAt}
use Rattle.jfr_mask.specs.declared.numbering.GrowingDictionary.{GrowingDictionary}
use Rattle.jfr_mask.specs.declared.numbering.Numbering.{Numbering}
use Rattle.jfr_mask.specs.EventStrings.{long_at, masked_at, start_of, string_at, strings_in}
use Rattle.jfr_mask.specs.Masked.{node_texts, numbered_text}
use Rattle.jfr_mask.specs.MaskedLeaves.{is_masked_leaf, leaf_text, leaf_texts}
use Rattle.jfr_mask.specs.Maskers.{held_by, node_texts_by}
use Rattle.jfr_mask.specs.Noted.{IsStringIn, NotesTexts, NumbersListed, text_at, texts_at}
use Rattle.jfr_mask.specs.Pseudonyms.{has_text, with_texts}
use Rattle.jfr_mask.specs.Reaching.{marked_get}
use Rattle.jfr_mask.proofs.LeafMasks.{node_texts_are}
use Rattle.jfr_mask.proofs.NumberLaws.{with_append}
use Rattle.jfr_mask.proofs.ShortStrings.{short_numbers}
use Rattle.jfr_mask.proofs.StringsIn.{masked_string, strings_are_in, text_same}

module _ (masked : Option Holder → Bool) (known : List ℕ → Bool) (p : Parts) where
  abbrev texts : StringAt → List (List ℕ)
  texts s = numbered_text known (text_at p s)

  leaves_listed : (ls : List LeafAt) → AllByRecursion (LiesIn p) ls → flat_map texts (filter_map (masked_at masked) ls) ≡ flat_map (leaf_texts masked known p) ls
  leaves_listed [] h = refl
  leaves_listed (l ∷ ls) h = by_mask (is_masked_leaf masked l) refl (leaves_listed ls h.1)
    where
      by_mask : (b : Bool) → is_masked_leaf masked l ≡ b → flat_map texts (filter_map (masked_at masked) ls) ≡ flat_map (leaf_texts masked known p) ls
          → flat_map texts (cons_option (if b then long_at l else None) (filter_map (masked_at masked) ls))
          ≡ (if b then numbered_text known (leaf_text p l) else []) ++ flat_map (leaf_texts masked known p) ls
      by_mask true m rest = by_length (nat_lt 1 (length l.spelled)) refl
        where
          by_length : (b : Bool) → nat_lt 1 (length l.spelled) ≡ b
              → flat_map texts (cons_option (if b then Some (string_at l) else None) (filter_map (masked_at masked) ls)) ≡ numbered_text known (leaf_text p l) ++ flat_map (leaf_texts masked known p) ls
          by_length true w =
              ap (λ z. numbered_text known z ++ flat_map texts (filter_map (masked_at masked) ls)) (text_same p l (masked_string masked p l m) h.0)
              ∙ ap (λ z. numbered_text known (leaf_text p l) ++ z) rest
          by_length false w =
              rest ∙ ap (λ z. z ++ flat_map (leaf_texts masked known p) ls) (sym (short_numbers p l h.0 (masked_string masked p l m) (ltb-false 1 (length l.spelled) w) known))
      by_mask false m rest = rest

  -- The texts of the masked strings in a node.
  node_listed : AreParts p → (n : NodeAt) (v : Value) → IsNode p.classes p.bytes n v → flat_map texts (strings_in masked p n) ≡ node_texts masked known p n
  node_listed a n v i =
      let sound = (has_nodes p a).sound in
      leaves_listed (leaves p.classes p.bytes n) (node_lies p sound p.classes p.bytes n v refl refl i) ∙ sym (node_texts_are masked p known sound n v i)

-- A member that is marked.
marked_some : {X : Type 0} (flags : List Bool) (xs : List X) (i : ℕ) → IsSome (marked_get flags xs i) → (x : X) × (marked_get flags xs i ≡ Some x) × (slice_get xs i ≡ Some x)
marked_some {X = X} flags xs i s = by_flag (unwrap_or (slice_get flags i) false) s
  where
    by_member : (o : Option X) → IsSome o → (x : X) × (o ≡ Some x) × (o ≡ Some x)
    by_member None h = cc
    by_member (Some x) h = (x, refl, refl)

    by_flag : (b : Bool) → IsSome (if b then slice_get xs i else None) → (x : X) × ((if b then slice_get xs i else None) ≡ Some x) × (slice_get xs i ≡ Some x)
    by_flag true h = by_member (slice_get xs i) h
    by_flag false h = cc

-- The strings of a kept event, and their texts.
pub record EventListed (n : Numbering) (number start end : ℕ) : Type 0 where
  pub order : start ≤ end
  pub within : end ≤ length n.events.now.strings.items
  pub all : AllByRecursion (IsStringIn n.strings.chunk.now) (slice_range n.events.now.strings.items start end)
  pub texts : IfSome (slice_get (events_of n.strings.chunk.now) number) (λ e. flat_map (texts_at n) (slice_range n.events.now.strings.items start end) ≡ node_texts_by n e.node)

pub event_listed : (n : Numbering) (number start end : ℕ) → AreParts n.strings.chunk.now → NumbersListed n → IsSome (marked_get n.kept.now (events_of n.strings.chunk.now) number)
    → start ≡ start_of n.events.now.ends.items number → end ≡ get_or n.events.now.ends.items number 0 → EventListed n number start end
event_listed n number start end a listed kept s e =
    let p = n.strings.chunk.now in
    let masked = held_by n.strings in
    let strings = n.events.now.strings.items in
    let here = marked_some n.kept.now (events_of p) number kept in
    let of_event = listed number here.0 here.1 in
    let i = event_is p a here.0 (get_in (events_of p) number here.0 here.2) in
    let done : EventListed n number (start_of n.events.now.ends.items number) (get_or n.events.now.ends.items number 0) = record {
      order = of_event.order;
      within = of_event.within;
      all = subst (AllByRecursion (IsStringIn p)) (sym of_event.are) (strings_are_in masked p a here.0.node i.value i.node);
      texts = subst (λ o. IfSome o (λ x. flat_map (texts_at n) (slice_range strings (start_of n.events.now.ends.items number) (get_or n.events.now.ends.items number 0)) ≡ node_texts_by n x.node)) (sym here.2)
          (ap (flat_map (texts_at n)) of_event.are ∙ node_listed masked (has_text n.known.now) p a here.0.node i.value i.node);
    } in
    subst (λ z. EventListed n number z end) (sym s) (subst (λ z. EventListed n number (start_of n.events.now.ends.items number) z) (sym e) done)

-- With the texts of its strings, the dictionary has those of the event.
pub event_added : (n : Numbering) (number start end : ℕ) (old now : List (List ℕ)) → EventListed n number start end → now ≡ with_texts old (flat_map (texts_at n) (slice_range n.events.now.strings.items start end))
    → IfSome (slice_get (events_of n.strings.chunk.now) number) (λ e. now ≡ with_texts old (node_texts_by n e.node))
event_added n number start end old now listed h = by_event (slice_get (events_of n.strings.chunk.now) number) listed.texts
  where
    by_event : (o : Option EventAt) → IfSome o (λ e. flat_map (texts_at n) (slice_range n.events.now.strings.items start end) ≡ node_texts_by n e.node) → IfSome o (λ e. now ≡ with_texts old (node_texts_by n e.node))
    by_event None t = tt
    by_event (Some e) t = h ∙ ap (with_texts old) t

-- A range begins with the member at its place.
range_next : {X : Type 0} (xs : List X) (from to : ℕ) (x : X) → slice_get xs from ≡ Some x → from < to → slice_range xs from to ≡ x ∷ slice_range xs (from + 1) to
range_next xs from to x e h =
    let n : to - from ≡ suc (to - (from + 1)) = omega (arith, h) in
    ap (λ k. take k (drop from xs)) n ∙ ap (take (suc (to - (from + 1)))) (drop_at xs from x e)

-- With the texts of the strings that are left, the dictionary is the one with those of all.
pub record StringsRest (n : Numbering) (start end number : ℕ) (old now : GrowingDictionary) : Type 0 where
  pub noted : NotesTexts n now
  pub all : AllByRecursion (IsStringIn n.strings.chunk.now) (slice_range n.events.now.strings.items number end)
  pub texts : with_texts now.dictionary (flat_map (texts_at n) (slice_range n.events.now.strings.items number end))
      ≡ with_texts old.dictionary (flat_map (texts_at n) (slice_range n.events.now.strings.items start end))

module _ (n : Numbering) (start end number : ℕ) (old now : GrowingDictionary) (so_far : StringsRest n start end number old now) where
  abbrev strings : List StringAt
  strings = n.events.now.strings.items

  module _ (s : StringAt) (there : slice_get strings number ≡ Some s) (more : number < end) where
    is_next : slice_range strings number end ≡ s ∷ slice_range strings (number + 1) end
    is_next = range_next strings number end s there more

    all_next : AllByRecursion (IsStringIn n.strings.chunk.now) (s ∷ slice_range strings (number + 1) end)
    all_next = subst (AllByRecursion (IsStringIn n.strings.chunk.now)) is_next so_far.all

    one_added : (after : GrowingDictionary) → NotesTexts n after → after.dictionary ≡ with_texts now.dictionary (texts_at n s) → StringsRest n start end (number + 1) old after
    one_added after noted e =
        let rest = flat_map (texts_at n) (slice_range strings (number + 1) end) in
        record {
          noted = noted;
          all = all_next.1;
          texts =
              ap (λ z. with_texts z rest) e
              ∙ (sym (with_append now.dictionary (texts_at n s) rest) ∙ (ap (λ z. with_texts now.dictionary (flat_map (texts_at n) z)) (sym is_next) ∙ so_far.texts));
        }

  -- The next string is in the chunk.
  pub next_in : number < end → IfSome (slice_get strings number) (IsStringIn n.strings.chunk.now)
  next_in more = by_member (slice_get strings number) refl
    where
      by_member : (o : Option StringAt) → slice_get strings number ≡ o → IfSome o (IsStringIn n.strings.chunk.now)
      by_member None e = tt
      by_member (Some s) e = (all_next s e more).0

  -- One more text is added.
  pub next_added : number < end → end ≤ length strings → (after : GrowingDictionary) → NotesTexts n after
      → IfSome (slice_get strings number) (λ s. after.dictionary ≡ with_texts now.dictionary (texts_at n s)) → StringsRest n start end (number + 1) old after
  next_added more within after noted h =
      let none : StringAt = record { class = 0; at = 0; len = 0 } in
      let there = slice_get-get_or strings number none (omega (arith, more, within)) in
      one_added (get_or strings number none) there more after noted (subst (λ o. IfSome o (λ s. after.dictionary ≡ with_texts now.dictionary (texts_at n s))) there h)

  -- All texts are added.
  pub all_added : end ≤ number → now.dictionary ≡ with_texts old.dictionary (flat_map (texts_at n) (slice_range strings start end))
  all_added h =
      let none : end - number ≡ 0 = omega (arith, h) in
      ap (λ k. with_texts now.dictionary (flat_map (texts_at n) (take k (drop number strings)))) (sym none) ∙ so_far.texts
