-- An event in which the masked strings are written anew at their places is the masked event.
use Rattle.std.specs.Prelude.{◌≡◌, ℕ, suc, ◌+◌, ◌-◌, ◌<◌, ◌≤◌, Bool, true, false, List, [], ◌∷◌, ◌++◌, drop, get_or, length, nat_lt, slice_get, slice_range, take, unwrap_or, Option, None, Some, if◌then◌else◌}
use Rattle.std.specs.List.{AllByRecursion, cons_option, filter_map, flat_map}
use Rattle.std.specs.Option.{option_map}
use Rattle.std.proofs.Common.{ap, append_assoc, arith, refl, sym, ◌∙◌, subst}
use Rattle.std.proofs.lemmas.Bool.{ltb-false}
use Rattle.std.proofs.lemmas.List.{at_drop_more}
use Rattle.jfr_base.proofs.Ranges.{range_none, range_split}
use Rattle.jfr_frame.specs.Records.{record_end}
use Rattle.jfr_layout.specs.Classes.{Sound}
use Rattle.jfr_value.specs.declared.leaf.Holder.{Holder}
use Rattle.jfr_value.specs.Leaves.{LeafAt, leaves}
use Rattle.jfr_value.specs.Nodes.{IsNode, NodeAt}
use Rattle.jfr_value.specs.Values.{Value}
use Rattle.jfr_worklist.proofs.Members.{get_in}
use Rattle.jfr_chunk.specs.Parts.{AreParts, EventAt, Parts, events_of}
use Rattle.jfr_chunk.proofs.HasNodesLaws.{event_is, has_nodes}
use Rattle.jfr_rewrite.specs.Copying.{LiesIn, leaf_becomes}
use Rattle.jfr_rewrite.specs.Writing.{changed_within}
use Rattle.jfr_rewrite.proofs.CopyLaws.{node_becomes}
use Rattle.jfr_rewrite.proofs.EventWriting.{event_facts}
use Rattle.jfr_rewrite.proofs.LaidLeaves.{AreLaid, node_laid, node_lies}
use Rattle.jfr_mask.specs.declared.event_strings.StringAt.{StringAt}
use Rattle.jfr_mask.specs.declared.masker.Masker.{Masker}
use Rattle.jfr_mask.specs.EventStrings.{AreOfEvent, long_at, masked_at, start_of, string_at, strings_in}
use Rattle.jfr_mask.specs.Masked.{masking, string_bytes}
use Rattle.jfr_mask.specs.MaskedLeaves.{is_masked_leaf, leaf_text}
use Rattle.jfr_mask.specs.Maskers.{change_by, held_by, shown_by}
use Rattle.jfr_mask.specs.NewLeaves.{masked_by}
use Rattle.jfr_mask.specs.Noted.{HasListed, IsStringIn, text_at}
use Rattle.jfr_mask.specs.Reaching.{marked_get}
use Rattle.jfr_mask.specs.Written.{AreApart, with_strings}
use Rattle.jfr_mask.proofs.LeafMasks.{masked_leaf, string_masked}
use Rattle.jfr_mask.proofs.ShortStrings.{short_stays}
use Rattle.jfr_mask.proofs.StringsIn.{masked_string, strings_are_in, text_same}

module _ (masked : Option Holder → Bool) (p : Parts) (show : List ℕ → List ℕ) (empty : show [] ≡ []) where
  abbrev c : List ℕ
  c = p.bytes

  -- What becomes of a masked string, and of a leaf.
  abbrev shown_string : StringAt → List ℕ
  shown_string s = string_bytes (option_map show (text_at p s))

  abbrev becomes : LeafAt → List ℕ
  becomes l = leaf_becomes (masking masked show p) l

  masked_becomes : (l : LeafAt) → LiesIn p l → is_masked_leaf masked l ≡ true → shown_string (string_at l) ≡ becomes l
  masked_becomes l h m = string_masked masked p show l (slice_range c l.at (l.at + length l.spelled)) m (masked_string masked p l m) h.bytes

  -- One of a single byte stays.
  short_becomes : (l : LeafAt) → LiesIn p l → is_masked_leaf masked l ≡ true → nat_lt 1 (length l.spelled) ≡ false → becomes l ≡ l.spelled
  short_becomes l h m w =
      sym (masked_becomes l h m) ∙ (ap (λ z. string_bytes (option_map show z)) (text_same p l (masked_string masked p l m) h)
      ∙ short_stays p l h (masked_string masked p l m) (ltb-false 1 (length l.spelled) w) show empty)

  other_stays : (l : LeafAt) → is_masked_leaf masked l ≡ false → becomes l ≡ l.spelled
  other_stays l m = masked_leaf masked p show l ∙ ap (λ t. if t then string_bytes (option_map show (leaf_text p l)) else l.spelled) m

  -- The bytes from one offset up to another, with leaves between them that become other bytes.
  record IsPut (from at end to : ℕ) (bytes : List ℕ) (strings : List StringAt) : Type 0 where
    put : with_strings shown_string c from to strings ≡ slice_range c from at ++ (bytes ++ slice_range c end to)
    apart : AreApart from to strings

  put_nothing : (from at end to : ℕ) → from ≤ at → at ≡ end → end ≤ to → IsPut from at end to [] []
  put_nothing from at end to f e w = record {
    put = range_split c from at to f (omega (arith, e, w)) ∙ ap (λ z. slice_range c from at ++ slice_range c z to) e;
    apart = omega (arith, e, f, w);
  }

  put_same : (from end to : ℕ) (l : LeafAt) (bytes : List ℕ) (strings : List StringAt) → LiesIn p l → from ≤ l.at → becomes l ≡ l.spelled → IsPut from (l.at + length l.spelled) end to bytes strings
      → IsPut from l.at end to (becomes l ++ bytes) strings
  put_same from end to l bytes strings lies f e rest =
      let last : List ℕ = bytes ++ slice_range c end to in
      record {
        put =
            rest.put
            ∙ (ap (λ z. z ++ last) (range_split c from l.at (l.at + length l.spelled) f (omega arith))
            ∙ (append_assoc (slice_range c from l.at) (slice_range c l.at (l.at + length l.spelled)) last
            ∙ ap (λ z. slice_range c from l.at ++ z) (ap (λ z. z ++ last) (lies.bytes ∙ sym e) ∙ sym (append_assoc (becomes l) bytes (slice_range c end to)))));
        apart = rest.apart;
      }

  put_string : (from end to : ℕ) (l : LeafAt) (bytes : List ℕ) (strings : List StringAt) → LiesIn p l → from ≤ l.at → is_masked_leaf masked l ≡ true
      → IsPut (l.at + length l.spelled) (l.at + length l.spelled) end to bytes strings → IsPut from l.at end to (becomes l ++ bytes) (string_at l ∷ strings)
  put_string from end to l bytes strings lies f m rest =
      let after : ℕ = l.at + length l.spelled in
      let last : List ℕ = bytes ++ slice_range c end to in
      let others : with_strings shown_string c after to strings ≡ last = rest.put ∙ ap (λ z. z ++ last) (range_none c after after (omega arith)) in
      record {
        put = ap (λ z. slice_range c from l.at ++ z)
            (ap (λ z. z ++ with_strings shown_string c after to strings) (masked_becomes l lies m)
            ∙ (ap (λ z. becomes l ++ z) others ∙ sym (append_assoc (becomes l) bytes (slice_range c end to))));
        apart = (f, rest.apart);
      }

  abbrev listed : List LeafAt → List StringAt
  listed ls = filter_map (masked_at masked) ls

  -- One leaf, and what is put for those after it.
  leaf_put : (from end to : ℕ) (l : LeafAt) (ls : List LeafAt) → LiesIn p l → from ≤ l.at
      → ((start : ℕ) → start ≤ l.at + length l.spelled → IsPut start (l.at + length l.spelled) end to (flat_map becomes ls) (listed ls))
      → IsPut from l.at end to (flat_map becomes (l ∷ ls)) (listed (l ∷ ls))
  leaf_put from end to l ls lies f others = by_mask (is_masked_leaf masked l) refl
    where
      by_mask : (b : Bool) → is_masked_leaf masked l ≡ b → IsPut from l.at end to (becomes l ++ flat_map becomes ls) (cons_option (if b then long_at l else None) (listed ls))
      by_mask true m = by_length (nat_lt 1 (length l.spelled)) refl
        where
          by_length : (b : Bool) → nat_lt 1 (length l.spelled) ≡ b → IsPut from l.at end to (becomes l ++ flat_map becomes ls) (cons_option (if b then Some (string_at l) else None) (listed ls))
          by_length true w = put_string from end to l (flat_map becomes ls) (listed ls) lies f m (others (l.at + length l.spelled) (omega arith))
          by_length false w = put_same from end to l (flat_map becomes ls) (listed ls) lies f (short_becomes l lies m w) (others from (omega (arith, f)))
      by_mask false m = put_same from end to l (flat_map becomes ls) (listed ls) lies f (other_stays l m) (others from (omega (arith, f)))

  leaves_put : (from at end to : ℕ) (ls : List LeafAt) → AreLaid p.classes c at end ls → AllByRecursion (LiesIn p) ls → from ≤ at → end ≤ to → IsPut from at end to (flat_map becomes ls) (listed ls)
  leaves_put from at end to [] h lie f w = put_nothing from at end to f h w
  leaves_put from at end to (l ∷ ls) h lie f w =
      let here = h.0 in
      subst (λ z. IsPut from z end to (flat_map becomes (l ∷ ls)) (listed (l ∷ ls))) h.0
      (leaf_put from end to l ls lie.0 (omega (arith, here, f))
      (λ start s. leaves_put start (l.at + length l.spelled) end to ls (subst (λ z. AreLaid p.classes c (z + length l.spelled) end ls) (sym h.0) h.3) lie.1 s w))

  -- What a node's masked strings are in the chunk, from one offset up to another.
  pub record ArePut (n : NodeAt) (from to : ℕ) (strings : List StringAt) : Type 0 where
    pub all : AllByRecursion (IsStringIn p) strings
    pub apart : AreApart from to strings
    pub put : with_strings shown_string p.bytes from to strings ≡ changed_within (masking masked show p) p n from to

  -- The masked event, or another node of the chunk.
  pub node_put : AreParts p → (n : NodeAt) (v : Value) → IsNode p.classes p.bytes n v → (from to : ℕ) → from ≤ n.at → n.end ≤ to → ArePut n from to (strings_in masked p n)
  node_put a n v i from to f w =
      let sound : Sound p.classes = (has_nodes p a).sound in
      let all : List LeafAt = leaves p.classes c n in
      let done = leaves_put from n.at n.end to all (node_laid p.classes sound c n v i) (node_lies p sound p.classes c n v refl refl i) f w in
      record {
        all = strings_are_in masked p a n v i;
        apart = done.apart;
        put = done.put ∙ ap (λ z. slice_range c from n.at ++ (z ++ slice_range c n.end to)) (sym (node_becomes (masking masked show p) p.classes sound c n v i));
      }

  -- An event with the bytes before its fields and after them.
  pub event_put : AreParts p → (number : ℕ) (e : EventAt) → slice_get (events_of p) number ≡ Some e → ArePut e.node e.record_of.at (record_end e.record_of) (strings_in masked p e.node)
  event_put a number e q =
      let i = event_is p a e (get_in (events_of p) number e q) in
      let facts = event_facts p a number e (sym q) in
      let start = facts.place in
      let size = facts.is_record.size_spelled.order in
      let type = facts.is_record.type_spelled.order in
      node_put a e.node i.value i.node e.record_of.at (record_end e.record_of) (omega (arith, start, size, type)) i.within

-- The masker has the strings of an event from one number up to another, and can write them at their places.
pub record HasStrings (m : Masker) (p : Parts) (e : EventAt) (start end : ℕ) : Type 0 where
  pub order : start ≤ end
  pub listed : end ≤ length m.events.now.strings.items
  pub all : AllByRecursion (IsStringIn m.strings.chunk.now) (slice_range m.events.now.strings.items start end)
  pub apart : AreApart e.record_of.at (record_end e.record_of) (slice_range m.events.now.strings.items start end)
  pub within : record_end e.record_of ≤ length m.strings.chunk.now.bytes
  pub put : with_strings (masked_by m) m.strings.chunk.now.bytes e.record_of.at (record_end e.record_of) (slice_range m.events.now.strings.items start end)
      ≡ changed_within (change_by m) p e.node e.record_of.at (record_end e.record_of)

pub has_strings : (m : Masker) (p : Parts) (number : ℕ) (e : EventAt) {start end : ℕ} → p ≡ m.strings.chunk.now → AreParts p → HasListed m → unwrap_or (slice_get m.kept.now number) false ≡ true
    → slice_get (events_of p) number ≡ Some e → start ≡ start_of m.events.now.ends.items number → end ≡ get_or m.events.now.ends.items number 0 → HasStrings m p e start end
has_strings m p number e {start} {end} same a listed kept there s t =
    let q : Parts = m.strings.chunk.now in
    let strings : List StringAt = m.events.now.strings.items in
    let valid : AreParts q = subst AreParts same a in
    let here : slice_get (events_of q) number ≡ Some e = subst (λ (z : Parts). slice_get (events_of z) number ≡ Some e) same there in
    let marked : marked_get m.kept.now (events_of q) number ≡ Some e = ap (λ b. if b then slice_get (events_of q) number else None) kept ∙ here in
    let of_event : AreOfEvent (held_by m.strings) q e strings start end =
    subst (λ z. AreOfEvent (held_by m.strings) q e strings z end) (sym s)
    (subst (AreOfEvent (held_by m.strings) q e strings (start_of m.events.now.ends.items number)) (sym t) (listed number e marked)) in
    let put : ArePut (held_by m.strings) q (shown_by m) refl e.node e.record_of.at (record_end e.record_of) (slice_range strings start end) =
    subst (ArePut (held_by m.strings) q (shown_by m) refl e.node e.record_of.at (record_end e.record_of)) (sym of_event.are) (event_put (held_by m.strings) q (shown_by m) refl valid number e here) in
    record {
      order = of_event.order;
      listed = of_event.within;
      all = put.all;
      apart = put.apart;
      within = (event_facts q valid number e (sym here)).is_record.within;
      put = put.put ∙ ap (λ (z : Parts). changed_within (change_by m) z e.node e.record_of.at (record_end e.record_of)) (sym same);
    }

-- A range begins with the member at its place.
pub range_next : {X : Type 0} (xs : List X) (from to : ℕ) (x : X) → x ≡ get_or xs from x → from < to → to ≤ length xs → slice_range xs from to ≡ x ∷ slice_range xs (from + 1) to
range_next xs from to x e h w =
    let n : to - from ≡ suc (to - (from + 1)) = omega (arith, h) in
    ap (λ k. take k (drop from xs)) n
    ∙ (at_drop_more (take (suc (to - (from + 1)))) xs from x (omega (arith, h, w)) ∙ ap (λ z. z ∷ slice_range xs (from + 1) to) (sym e))

pub range_empty : {X : Type 0} (xs : List X) (from to : ℕ) → to ≤ from → slice_range xs from to ≡ []
range_empty xs from to h = let n : to - from ≡ 0 = omega (arith, h) in ap (λ k. take k (drop from xs)) n

-- What is written once the strings before the next one are: with the rest, it is the bytes with all strings from the
-- first one up to the last.
pub record IsPutUpTo (becomes : StringAt → List ℕ) (p : Parts) (strings : List StringAt) (first last from to next copied : ℕ) (old now : List ℕ) : Type 0 where
  pub order : next ≤ last
  pub bytes : now ++ with_strings becomes p.bytes copied to (slice_range strings next last) ≡ old ++ with_strings becomes p.bytes from to (slice_range strings first last)
  pub all : AllByRecursion (IsStringIn p) (slice_range strings next last)
  pub apart : AreApart copied to (slice_range strings next last)

-- The next string, after what is copied.
pub record NextString (p : Parts) (copied : ℕ) (s : StringAt) : Type 0 where
  pub order : copied ≤ s.at
  pub string : IsStringIn p s

module _ {becomes : StringAt → List ℕ} {p : Parts} {strings : List StringAt} {first last from to next copied : ℕ} {old now : List ℕ}
    (so_far : IsPutUpTo becomes p strings first last from to next copied old now) where
  module _ (s : StringAt) (there : s ≡ get_or strings next s) (more : next < last) (within : last ≤ length strings) where
    abbrev others : List StringAt
    others = slice_range strings (next + 1) last

    is_next : slice_range strings next last ≡ s ∷ others
    is_next = range_next strings next last s there more within

    all_next : AllByRecursion (IsStringIn p) (s ∷ others)
    all_next = subst (AllByRecursion (IsStringIn p)) is_next so_far.all

    apart_next : AreApart copied to (s ∷ others)
    apart_next = subst (AreApart copied to) is_next so_far.apart

    pub next_string : NextString p copied s
    next_string = record { order = apart_next.0; string = all_next.0 }

    -- One more string is written.
    pub one_put : (after : List ℕ) → after ≡ (now ++ slice_range p.bytes copied s.at) ++ becomes s → IsPutUpTo becomes p strings first last from to (next + 1) (s.at + s.len) old after
    one_put after e =
        let rest : List ℕ = with_strings becomes p.bytes (s.at + s.len) to others in
        record {
          order = omega (arith, more);
          bytes =
              ap (λ z. z ++ rest) e
              ∙ (append_assoc (now ++ slice_range p.bytes copied s.at) (becomes s) rest
              ∙ (append_assoc now (slice_range p.bytes copied s.at) (becomes s ++ rest)
              ∙ (ap (λ z. now ++ with_strings becomes p.bytes copied to z) (sym is_next) ∙ so_far.bytes)));
          all = all_next.1;
          apart = apart_next.1;
        }

  module _ (done : last ≤ next) where
    is_last : slice_range strings next last ≡ []
    is_last = range_empty strings next last done

    -- All strings are written.
    pub last_order : copied ≤ to
    last_order = subst (AreApart copied to) is_last so_far.apart

    pub all_put : now ++ slice_range p.bytes copied to ≡ old ++ with_strings becomes p.bytes from to (slice_range strings first last)
    all_put = ap (λ z. now ++ with_strings becomes p.bytes copied to z) (sym is_last) ∙ so_far.bytes
