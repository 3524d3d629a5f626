-- An event in which the keys at the places that its chunk notes are new ones is the changed event.
use Rattle.std.specs.Prelude.{◌≡◌, ◌==◌, ℕ, ◌+◌, ◌-◌, ◌<◌, ◌≤◌, List, [], ◌∷◌, ◌++◌, drop, get_or, length, map, slice_get, slice_index, slice_range, Bool, true, false, Option, Some, None, IfSome, IsSome, if◌then◌else◌}
use Rattle.std.specs.List.{AllByRecursion, cons_option, filter_map, flat_map}
use Rattle.std.specs.Option.{option_map, option_map_or}
use Rattle.std.proofs.Common.{ap, append_assoc, arith, refl, sym, ◌∙◌, subst}
use Rattle.std.proofs.lemmas.Map.Views.{exact_unsigned_eq}
use Rattle.std.proofs.lemmas.Option.{get_or_from_slice_get}
use Rattle.jfr_base.specs.declared.integer.Var.{Var}
use Rattle.jfr_base.specs.Formats.{int_at}
use Rattle.jfr_base.specs.Integer.{IntAt, Spells, spell, worth_within}
use Rattle.jfr_base.proofs.OneAnswer.{int_computed}
use Rattle.jfr_base.proofs.Ranges.{range_cons, range_length, range_none, range_one, range_split}
use Rattle.jfr_frame.specs.Records.{record_end}
use Rattle.jfr_layout.specs.Classes.{Sound}
use Rattle.jfr_layout.specs.declared.kind.Kind.TheVariants as kinds
use Rattle.jfr_value.specs.declared.leaf.KeyAt.{KeyAt}
use Rattle.jfr_value.specs.declared.leaf.LeafKind.{LeafKind}
use Rattle.jfr_value.specs.declared.leaf.LeafKind.TheVariants as leaf_kinds
use Rattle.jfr_value.specs.Leaves.{LeafAt, key_of_leaf, key_start, leaf_key, leaves, spelled_key}
use Rattle.jfr_value.specs.Nodes.{IsNode, NodeAt}
use Rattle.jfr_value.specs.Values.{Value}
use Rattle.jfr_worklist.proofs.Members.{get_in}
use Rattle.jfr_pool.specs.declared.entry.EntryAt.{EntryAt}
use Rattle.jfr_pool.specs.Entries.{number_in_force}
use Rattle.jfr_chunk.specs.declared.key_places.KeyPlace.{KeyPlace}
use Rattle.jfr_chunk.specs.KeyPlaces.{AreKeyPlaces, IsShortZero, number_of_key, place_of_key}
use Rattle.jfr_chunk.specs.Parts.{AreParts, EventAt, Parts, events_of}
use Rattle.jfr_chunk.proofs.HasNodesLaws.{event_is, has_nodes}
use Rattle.jfr_rewrite.specs.Copying.{LiesIn, leaf_becomes}
use Rattle.jfr_rewrite.specs.Changed.{Content}
use Rattle.jfr_rewrite.specs.Writing.{changed_within}
use Rattle.jfr_rewrite.proofs.CopyLaws.{node_becomes}
use Rattle.jfr_rewrite.proofs.EventWriting.{event_facts}
use Rattle.jfr_rewrite.proofs.LaidLeaves.{AreLaid, node_laid, node_lies}
use Rattle.jfr_renumber.specs.KeyPlaces.{AreIntegers, integer_end, with_keys_at}
use Rattle.jfr_renumber.specs.Numbers.{ChunkKeys, NumberedPairs, new_keys, number_or_zero}
use Rattle.jfr_renumber.specs.Rekeyed.{content_with, key_bytes, rekeying}
use Rattle.jfr_renumber.specs.Renumber.{pair_of}
use Rattle.jfr_renumber.specs.Rewriting.{leaf_with}
use Rattle.jfr_renumber.proofs.EntryNumbers.{in_force_number, in_force_within}
use Rattle.jfr_renumber.proofs.RekeyedLaws.{leaf_changed}
use Rattle.jfr_renumber.proofs.RewritingLaws.{with_key, zero_in_one}

-- Where an integer ends.
pub integer_ends : (c : List ℕ) (at end value : ℕ) → IntAt c at end value → integer_end c at ≡ end
integer_ends c at end value i =
    ap (λ o. option_map_or (λ (v : Var). v.end) o at) (int_computed c at (length c) end value (let o = i.order in let w = i.within in omega (arith, o, w)) (omega arith) i i.within)

integer_there : (c : List ℕ) (at end value : ℕ) → IntAt c at end value → IsSome (int_at c at (length c))
integer_there c at end value i =
    subst IsSome (sym (int_computed c at (length c) end value (let o = i.order in let w = i.within in omega (arith, o, w)) (omega arith) i i.within)) refl

module _ (p : Parts) (new : ℕ × ℕ → ℕ) (new_keys : List ℕ) (zero : (class : ℕ) → new (class, 0) ≡ 0)
    (known : (t : ℕ × ℕ) (i : ℕ) → number_in_force p.entries t ≡ Some i → (i < length new_keys) × (get_or new_keys i 0 ≡ new t)) where
  abbrev c : List ℕ
  c = p.bytes

  abbrev new_key_of : ℕ → ℕ
  new_key_of i = get_or new_keys i 0

  abbrev becomes : LeafAt → List ℕ
  becomes l = leaf_becomes (rekeying new) l

  abbrev IsOther : KeyAt → Type 0
  IsOther key = number_of_key p.entries key ≡ None → IsShortZero key

  becomes_with : (l : LeafAt) → becomes l ≡ leaf_with new l
  becomes_with l = ap (λ (z : Content). z.spelled) (leaf_changed new l)

  -- What is known of a leaf with a key.
  record KeyFacts (l : LeafAt) (key : ℕ) : Type 0 where
    order : l.at ≤ key_start l.kind l.at
    integer : IntAt c (key_start l.kind l.at) (l.at + length l.spelled) key
    becomes_is : becomes l ≡ slice_range c l.at (key_start l.kind l.at) ++ spell (new (l.class, key))

  reference_facts : (l : LeafAt) → LiesIn p l → (n key : ℕ) → l.kind ≡ leaf_kinds.Key n → n ≡ key → KeyFacts l key
  reference_facts l lies n key k e =
      let at : key_start l.kind l.at ≡ l.at = ap (λ z. key_start z l.at) k in
      let s : Spells l.spelled key = subst (Spells l.spelled) e (lies.reference n k) in
      record {
        order = omega (arith, at);
        integer = subst (λ z. IntAt c z (l.at + length l.spelled) key) (sym at)
            (record { order = omega arith; within = lies.within; spelled = subst (λ z. Spells z key) (sym lies.bytes) s });
        becomes_is =
            becomes_with l
            ∙ (with_key new l key (ap (λ z. leaf_key z l.spelled) k ∙ ap Some e)
            ∙ (ap (λ z. key_bytes (new (l.class, key)) z) k
            ∙ ap (λ z. z ++ spell (new (l.class, key))) (sym (range_none c l.at (key_start l.kind l.at) (omega (arith, at))))));
      }

  string_facts : (l : LeafAt) → LiesIn p l → (key : ℕ) → (b : List ℕ) → l.spelled ≡ b → l.kind ≡ leaf_kinds.Base kinds.Text → spelled_key b ≡ Some key → KeyFacts l key
  string_facts l lies key [] e k q = cc
  string_facts l lies key (kind ∷ rest) e k q = by_kind (kind == 2) refl q
    where
      len : length l.spelled ≡ length (kind ∷ rest)
      len = ap length e

      at : key_start l.kind l.at ≡ l.at + 1
      at = ap (λ z. key_start z l.at) k

      by_kind : (t : Bool) → (kind == 2) ≡ t → (if t then Some (worth_within 8 rest) else None) ≡ Some key → KeyFacts l key
      by_kind false x y = cc
      by_kind true x y =
          let two : kind ≡ 2 = exact_unsigned_eq kind 2 x in
          let spelled : l.spelled ≡ 2 ∷ rest = e ∙ ap (λ z. z ∷ rest) two in
          let w = lies.within in
          let cons = sym (range_cons c l.at (l.at + length l.spelled) (omega (arith, len)) (omega (arith, len, w))) ∙ (lies.bytes ∙ spelled) in
          let first : slice_index c l.at ≡ 2 = cc in
          let others : slice_range c (l.at + 1) (l.at + length l.spelled) ≡ rest = cc in
          let worth : worth_within 8 rest ≡ key = cc in
          let integer : IntAt c (l.at + 1) (l.at + length l.spelled) key =
          record { order = omega (arith, len); within = w; spelled = subst (λ z. Spells z key) (sym others) (record { form = lies.key k rest spelled; worth = sym worth }) } in
          let kind_byte : slice_range c l.at (l.at + 1) ≡ 2 ∷ [] = range_one c l.at (omega (arith, len, w)) ∙ ap (λ z. z ∷ []) first in
          record {
            order = omega (arith, at);
            integer = subst (λ z. IntAt c z (l.at + length l.spelled) key) (sym at) integer;
            becomes_is =
                becomes_with l
                ∙ (with_key new l key (ap (λ z. leaf_key z l.spelled) k ∙ (ap spelled_key spelled ∙ ap Some worth))
                ∙ (ap (λ z. key_bytes (new (l.class, key)) z) k
                ∙ ap (λ z. z ++ spell (new (l.class, key))) (sym (ap (λ z. slice_range c l.at z) at ∙ kind_byte))));
          }

  key_facts : (l : LeafAt) → LiesIn p l → (kind : LeafKind) → l.kind ≡ kind → (key : ℕ) → leaf_key kind l.spelled ≡ Some key → KeyFacts l key
  key_facts l lies (leaf_kinds.Key n) k key q = let e : n ≡ key = cc in reference_facts l lies n key k e
  key_facts l lies (leaf_kinds.Count n) k key q = cc
  key_facts l lies (leaf_kinds.Base kinds.Text) k key q = string_facts l lies key l.spelled refl k q
  key_facts l lies (leaf_kinds.Base kinds.Boolean) k key q = cc
  key_facts l lies (leaf_kinds.Base kinds.Byte) k key q = cc
  key_facts l lies (leaf_kinds.Base kinds.Char) k key q = cc
  key_facts l lies (leaf_kinds.Base kinds.Short) k key q = cc
  key_facts l lies (leaf_kinds.Base kinds.Int) k key q = cc
  key_facts l lies (leaf_kinds.Base kinds.Long) k key q = cc
  key_facts l lies (leaf_kinds.Base kinds.Float) k key q = cc
  key_facts l lies (leaf_kinds.Base kinds.Double) k key q = cc
  key_facts l lies (leaf_kinds.Base kinds.Composite) k key q = cc

  -- A leaf without a key stays, and so does one with the key 0 in one byte.
  stays_keyless : (l : LeafAt) → leaf_key l.kind l.spelled ≡ None → becomes l ≡ l.spelled
  stays_keyless l q = becomes_with l ∙ ap (λ o. (content_with (option_map new (option_map (λ key. (l.class, key)) o)) l).spelled) q

  stays_zero : (l : LeafAt) → LiesIn p l → (key : ℕ) → KeyFacts l key → key ≡ 0 → l.at + length l.spelled ≡ key_start l.kind l.at + 1 → becomes l ≡ l.spelled
  stays_zero l lies key f e one =
      let start : ℕ = key_start l.kind l.at in
      let end : ℕ = l.at + length l.spelled in
      let i = f.integer in
      let o = f.order in
      let s : Spells (slice_range c start end) 0 = subst (Spells (slice_range c start end)) e i.spelled in
      let n : length (slice_range c start end) ≡ end - start = range_length c start end i.within in
      f.becomes_is
      ∙ (ap (λ z. slice_range c l.at start ++ spell (new (l.class, z))) e
      ∙ (ap (λ z. slice_range c l.at start ++ spell z) (zero l.class)
      ∙ (ap (λ z. slice_range c l.at start ++ z) (zero_in_one (slice_range c start end) s (omega (arith, n, one)))
      ∙ (sym (range_split c l.at start end o i.order) ∙ lies.bytes))))

  -- The bytes from one offset up to another, with leaves between them that become other bytes.
  record IsPut (from at end to : ℕ) (bytes : List ℕ) (places : List KeyPlace) : Type 0 where
    put : with_keys_at new_key_of c from to places ≡ slice_range c from at ++ (bytes ++ slice_range c end to)
    integers : AreIntegers c (length new_keys) from to places

  put_nothing : (from at end to : ℕ) → from ≤ at → at ≡ end → end ≤ to → IsPut from at end to [] []
  put_nothing from at end to f e w = record {
    put = range_split c from at to f (omega (arith, e, w)) ∙ ap (λ z. slice_range c from at ++ slice_range c z to) e;
    integers = omega (arith, e, f, w);
  }

  put_same : (from end to : ℕ) (l : LeafAt) (bytes : List ℕ) (places : List KeyPlace) → LiesIn p l → from ≤ l.at → becomes l ≡ l.spelled → IsPut from (l.at + length l.spelled) end to bytes places
      → IsPut from l.at end to (becomes l ++ bytes) places
  put_same from end to l bytes places lies f e rest = record {
    put =
        rest.put
        ∙ (ap (λ z. z ++ (bytes ++ slice_range c end to)) (range_split c from l.at (l.at + length l.spelled) f (omega arith))
        ∙ (append_assoc (slice_range c from l.at) (slice_range c l.at (l.at + length l.spelled)) (bytes ++ slice_range c end to)
        ∙ ap (λ z. slice_range c from l.at ++ z)
        (ap (λ z. z ++ (bytes ++ slice_range c end to)) (lies.bytes ∙ sym e) ∙ sym (append_assoc (becomes l) bytes (slice_range c end to)))));
    integers = rest.integers;
  }

  put_key : (from end to : ℕ) (l : LeafAt) (key entry : ℕ) (bytes : List ℕ) (places : List KeyPlace) → KeyFacts l key → from ≤ l.at → number_in_force p.entries (l.class, key) ≡ Some entry
      → IsPut (l.at + length l.spelled) (l.at + length l.spelled) end to bytes places
      → IsPut from l.at end to (becomes l ++ bytes) (record { entry = entry; at = key_start l.kind l.at } ∷ places)
  put_key from end to l key entry bytes places f h q rest =
      let start : ℕ = key_start l.kind l.at in
      let after : ℕ = l.at + length l.spelled in
      let last : List ℕ = bytes ++ slice_range c end to in
      let there = known (l.class, key) entry q in
      let ends = integer_ends c start after key f.integer in
      let o = f.order in
      let within = f.integer.within in
      let order = f.integer.order in
      let others : with_keys_at new_key_of c (integer_end c start) to places ≡ last =
      ap (λ z. with_keys_at new_key_of c z to places) ends ∙ (rest.put ∙ ap (λ z. z ++ last) (range_none c after after (omega arith))) in
      let before : slice_range c from start ++ spell (new_key_of entry) ≡ slice_range c from l.at ++ becomes l =
      ap (λ z. z ++ spell (new_key_of entry)) (range_split c from l.at start h o)
      ∙ (append_assoc (slice_range c from l.at) (slice_range c l.at start) (spell (new_key_of entry))
      ∙ ap (λ z. slice_range c from l.at ++ z) (ap (λ z. slice_range c l.at start ++ spell z) there.1 ∙ sym f.becomes_is)) in
      record {
        put =
            ap (λ z. slice_range c from start ++ (spell (new_key_of entry) ++ z)) others
            ∙ (sym (append_assoc (slice_range c from start) (spell (new_key_of entry)) last)
            ∙ (ap (λ z. z ++ last) before
            ∙ (append_assoc (slice_range c from l.at) (becomes l) last ∙ ap (λ z. slice_range c from l.at ++ z) (sym (append_assoc (becomes l) bytes (slice_range c end to))))));
        integers = (
          omega (arith, h, o),
          omega (arith, order, within),
          integer_there c start after key f.integer,
          there.0,
          subst (λ z. AreIntegers c (length new_keys) z to places) (sym ends) rest.integers,
        );
      }

  abbrev listed : List LeafAt → List KeyPlace
  listed ls = filter_map (place_of_key p.entries) (filter_map key_of_leaf ls)

  -- A leaf's key.
  abbrev told : LeafAt → ℕ → KeyAt
  told l key = record { class = l.class; key = key; at = key_start l.kind l.at; end = l.at + length l.spelled }

  -- One leaf, and what is put for those after it.
  leaf_put : (from at end to : ℕ) (l : LeafAt) (ls : List LeafAt) → AreLaid p.classes c at end (l ∷ ls) → LiesIn p l → from ≤ at → AllByRecursion IsOther (filter_map key_of_leaf (l ∷ ls))
      → ((start : ℕ) → start ≤ l.at + length l.spelled → AllByRecursion IsOther (filter_map key_of_leaf ls) → IsPut start (l.at + length l.spelled) end to (flat_map becomes ls) (listed ls))
      → IsPut from l.at end to (flat_map becomes (l ∷ ls)) (listed (l ∷ ls))
  leaf_put from at end to l ls h lies f o others = by_key (leaf_key l.kind l.spelled) refl o
    where
      starts : from ≤ l.at
      starts = let here = h.0 in omega (arith, here, f)

      by_number : (key : ℕ) → KeyFacts l key → AllByRecursion IsOther (told l key ∷ filter_map key_of_leaf ls) → (n : Option ℕ) → number_of_key p.entries (told l key) ≡ n
          → IsPut from l.at end to (becomes l ++ flat_map becomes ls) (cons_option (option_map (λ number. record { entry = number; at = key_start l.kind l.at }) n) (listed ls))
      by_number key facts o None e =
          let z : IsShortZero (told l key) = o.0 e in
          put_same from end to l (flat_map becomes ls) (listed ls) lies starts (stays_zero l lies key facts z.zero z.one_byte) (others from (omega (arith, starts)) o.1)
      by_number key facts o (Some entry) e = put_key from end to l key entry (flat_map becomes ls) (listed ls) facts starts e (others (l.at + length l.spelled) (omega arith) o.1)

      by_key : (k : Option ℕ) → leaf_key l.kind l.spelled ≡ k → AllByRecursion IsOther (cons_option (option_map (told l) k) (filter_map key_of_leaf ls))
          → IsPut from l.at end to (becomes l ++ flat_map becomes ls) (filter_map (place_of_key p.entries) (cons_option (option_map (told l) k) (filter_map key_of_leaf ls)))
      by_key None q o = put_same from end to l (flat_map becomes ls) (listed ls) lies starts (stays_keyless l q) (others from (omega (arith, starts)) o)
      by_key (Some key) q o = by_number key (key_facts l lies l.kind refl key q) o (number_of_key p.entries (told l key)) refl

  leaves_put : (from at end to : ℕ) (ls : List LeafAt) → AreLaid p.classes c at end ls → AllByRecursion (LiesIn p) ls → AllByRecursion IsOther (filter_map key_of_leaf ls) → from ≤ at → end ≤ to
      → IsPut from at end to (flat_map becomes ls) (listed ls)
  leaves_put from at end to [] h lie o f w = put_nothing from at end to f h w
  leaves_put from at end to (l ∷ ls) h lie o f w =
      subst (λ z. IsPut from z end to (flat_map becomes (l ∷ ls)) (listed (l ∷ ls))) h.0
      (leaf_put from at end to l ls h lie.0 f o
      (λ start s o. leaves_put start (l.at + length l.spelled) end to ls (subst (λ z. AreLaid p.classes c (z + length l.spelled) end ls) (sym h.0) h.3) lie.1 o s w))

  -- The changed event, or another node of the chunk.
  pub node_put : Sound p.classes → (n : NodeAt) (v : Value) → IsNode p.classes c n v → (places : List KeyPlace) → AreKeyPlaces p n places → (from to : ℕ) → from ≤ n.at → n.end ≤ to
      → AreIntegers c (length new_keys) from to places × (with_keys_at new_key_of c from to places ≡ changed_within (rekeying new) p n from to)
  node_put sound n v i places keys from to f w =
      let all : List LeafAt = leaves p.classes c n in
      let done = leaves_put from n.at n.end to all (node_laid p.classes sound c n v i) (node_lies p sound p.classes c n v refl refl i) keys.others f w in
      let same : listed all ≡ places = sym keys.listed in (
        subst (AreIntegers c (length new_keys) from to) same done.integers,
        ap (λ z. with_keys_at new_key_of c from to z) (sym same)
            ∙ (done.put ∙ ap (λ z. slice_range c from n.at ++ (z ++ slice_range c n.end to)) (sym (node_becomes (rekeying new) p.classes sound c n v i))),
      )

  -- An event with the bytes before its fields and after them.
  pub event_put : AreParts p → (number : ℕ) (e : EventAt) → slice_get (events_of p) number ≡ Some e → (places : List KeyPlace) → AreKeyPlaces p e.node places
      → AreIntegers c (length new_keys) e.record_of.at (record_end e.record_of) places
      × (with_keys_at new_key_of c e.record_of.at (record_end e.record_of) places ≡ changed_within (rekeying new) p e.node e.record_of.at (record_end e.record_of))
  event_put a number e q places keys =
      let i = event_is p a e (get_in (events_of p) number e q) in
      let facts = event_facts p a number e (sym q) in
      let start = facts.place in
      let size = facts.is_record.size_spelled.order in
      let type = facts.is_record.type_spelled.order in
      node_put (has_nodes p a).sound e.node i.value i.node places keys e.record_of.at (record_end e.record_of) (omega (arith, start, size, type)) i.within

-- The new keys of entries, by their numbers.
pub entry_keys : (k : NumberedPairs) (es : List EntryAt) (new_keys : List ℕ) → new_keys ≡ map (λ e. number_or_zero k (pair_of e)) es → (t : ℕ × ℕ) (i : ℕ) → number_in_force es t ≡ Some i
    → (i < length new_keys) × (get_or new_keys i 0 ≡ number_or_zero k t)
entry_keys k es new_keys e t i q =
    let there : slice_get new_keys i ≡ Some (number_or_zero k t) = ap (λ z. slice_get z i) e ∙ in_force_number (number_or_zero k) es t i q in
    (subst (λ z. i < length z) (sym e) (in_force_within (number_or_zero k) es t i q), get_or_from_slice_get new_keys i (number_or_zero k t) 0 there)

-- An event of a chunk that notes the places of its keys.
pub noted_put : (p : Parts) (k : ChunkKeys) (keys c : List ℕ) (number end : ℕ) (e : EventAt) (places : List KeyPlace) → AreParts p → k.entries ≡ p.entries
    → keys ≡ map (λ e. number_or_zero k.keys (pair_of e)) k.entries → ((class : ℕ) → new_keys k (class, 0) ≡ 0) → slice_get (events_of p) number ≡ Some e
    → IfSome (slice_get (events_of p) number) (λ e. AreKeyPlaces p e.node places) → c ≡ p.bytes → end ≡ record_end e.record_of
    → AreIntegers c (length keys) e.record_of.at end places
    × (with_keys_at (λ i. get_or keys i 0) c e.record_of.at end places ≡ changed_within (rekeying (new_keys k)) p e.node e.record_of.at (record_end e.record_of))
noted_put p k keys c number end e places a same by_entry zero listed noted bytes last =
    let new : ℕ × ℕ → ℕ = new_keys k in
    let known = entry_keys k.keys p.entries keys (by_entry ∙ ap (λ es. map (λ e. number_or_zero k.keys (pair_of e)) es) same) in
    let put = event_put p new keys zero known a number e listed places (subst (λ o. IfSome o (λ e. AreKeyPlaces p e.node places)) listed noted) in (
      subst (λ z. AreIntegers z (length keys) e.record_of.at end places) (sym bytes) (subst (λ z. AreIntegers p.bytes (length keys) e.record_of.at z places) (sym last) put.0),
      ap (λ z. with_keys_at (λ i. get_or keys i 0) z e.record_of.at end places) bytes
          ∙ (ap (λ z. with_keys_at (λ i. get_or keys i 0) p.bytes e.record_of.at z places) last ∙ put.1),
    )

-- What is written once the keys at the first places are: with the rest, it is the bytes with all new keys.
pub record IsPutUpTo (new_keys c : List ℕ) (from to : ℕ) (places : List KeyPlace) (index copied : ℕ) (old now : List ℕ) : Type 0 where
  pub bytes : now ++ with_keys_at (λ i. get_or new_keys i 0) c copied to (drop index places) ≡ old ++ with_keys_at (λ i. get_or new_keys i 0) c from to places
  pub integers : AreIntegers c (length new_keys) copied to (drop index places)

module _ (new_keys c : List ℕ) (from to : ℕ) (places : List KeyPlace) (index copied : ℕ) (old now : List ℕ) (so_far : IsPutUpTo new_keys c from to places index copied old now) where
  abbrev new : ℕ → ℕ
  new i = get_or new_keys i 0

  module _ (place : KeyPlace) (next : drop index places ≡ place ∷ drop (index + 1) places) where
    -- The next place.
    pub next_integer : AreIntegers c (length new_keys) copied to (place ∷ drop (index + 1) places)
    next_integer = subst (AreIntegers c (length new_keys) copied to) next so_far.integers

    -- One more key is written.
    pub one_put : (after : List ℕ) (end : ℕ) → after ≡ (now ++ slice_range c copied place.at) ++ spell (new place.entry) → integer_end c place.at ≡ end
        → IsPutUpTo new_keys c from to places (index + 1) end old after
    one_put after end f g =
        let others : List KeyPlace = drop (index + 1) places in
        let rest : List ℕ = with_keys_at new c (integer_end c place.at) to others in
        record {
          bytes =
              ap (λ z. after ++ with_keys_at new c z to others) (sym g)
              ∙ (ap (λ z. z ++ rest) f
              ∙ (append_assoc (now ++ slice_range c copied place.at) (spell (new place.entry)) rest
              ∙ (append_assoc now (slice_range c copied place.at) (spell (new place.entry) ++ rest)
              ∙ (ap (λ z. now ++ with_keys_at new c copied to z) (sym next) ∙ so_far.bytes))));
          integers = subst (λ z. AreIntegers c (length new_keys) z to others) g next_integer.4;
        }

  module _ (all : drop index places ≡ []) where
    -- All keys are written.
    pub last_order : copied ≤ to
    last_order = subst (AreIntegers c (length new_keys) copied to) all so_far.integers

    pub all_put : now ++ slice_range c copied to ≡ old ++ with_keys_at new c from to places
    all_put = ap (λ z. now ++ with_keys_at new c copied to z) (sym all) ∙ so_far.bytes
