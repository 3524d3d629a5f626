-- The output with new keys is made of what it tells, and chunks that agree on all that remains have equal ones.
use Rattle.std.specs.Prelude.{◌≡◌, ℕ, not, ◌&&◌, ◌||◌, ◌==◌, Bool, List, [], ◌∷◌, ◌++◌, find, map, slice_range, length, Option, Some, None, Contains}
use Rattle.std.specs.Option.{option_map_or}
use Rattle.std.specs.Str.{bytes_eq}
use Rattle.std.proofs.Common.{ap, refl, sym, ◌∙◌}
use Rattle.jfr_base.specs.Integer.{spell}
use Rattle.jfr_base.proofs.AlikeLaws.{Each}
use Rattle.jfr_base.proofs.UnitLaws.{one_run}
use Rattle.jfr_base.proofs.Ranges.{range_split}
use Rattle.jfr_frame.specs.Records.{IsRecord, record_end, body_bytes}
use Rattle.jfr_value.specs.Values.{Value, bytes_of, targets_of}
use Rattle.jfr_value.specs.Nodes.{NodeAt, IsNode, node_bytes, targets, value_of, Both}
use Rattle.jfr_value.proofs.NodeLaws.{value_is}
use Rattle.jfr_pool.specs.declared.entry.EntryAt.{EntryAt}
use Rattle.jfr_pool.specs.Entries.{in_force, entry_node}
use Rattle.jfr_worklist.specs.Members.{In}
use Rattle.jfr_worklist.proofs.Members.{contains_in, in_contains}
use Rattle.jfr_chunk.specs.Parts.{Parts, EventAt, AreParts}
use Rattle.jfr_chunk.specs.Reach.{Used, all_targets, nodes_of, remain}
use Rattle.jfr_chunk.specs.Written.{sized}
use Rattle.jfr_chunk.specs.Laws.{AreEvents}
use Rattle.jfr_chunk.specs.Scrub.{OutputRecord, output_records}
use Rattle.jfr_chunk.proofs.AllLaws.{all_in}
use Rattle.jfr_chunk.proofs.HasNodesLaws.{IsEvent, has_nodes}
use Rattle.jfr_chunk.proofs.MeaningLaws.{SameFields, same_fields}
use Rattle.jfr_laws.specs.Told.{rendered}
use Rattle.jfr_laws.specs.SameKept.{SameKept, SamePools}
use Rattle.jfr_laws.proofs.KeptPairs.{NodePair, SameValue, same_entry}
use Rattle.jfr_laws.proofs.OnlyKept.{Events, Entries, events, entries, told_same}
use Rattle.jfr_laws.proofs.Outlines.{Spelled}
use Rattle.jfr_laws.proofs.PoolsAlike.{AnswersAlike, Related, pools_filter, related_filter}
use Rattle.jfr_laws.proofs.Premises.{recorded}
use Rattle.jfr_laws.proofs.ToldLaws.{all_apart, rendered_same}
use Rattle.jfr_renumber.specs.Rekeyed.{rekeyed_bytes, rekeying}
use Rattle.jfr_rewrite.specs.Changed.{changed}
use Rattle.jfr_rewrite.specs.Rewrite.{written_by}
use Rattle.jfr_renumber.specs.Renumber.{used_keys, pair_of, equal_values, together, new_key, firsts, firsts_with, entry_bytes, event_bytes, new_bytes, whole_bytes, renumber_with}
use Rattle.jfr_renumber.specs.Keys.{group_number}
use Rattle.jfr_renumber.specs.ToldAnew.{told_anew}
use Rattle.jfr_renumber.proofs.AgreeLaws.{bytes_same}
use Rattle.jfr_renumber.proofs.LawLaws.{kept_nodes}
use Rattle.jfr_renumber.proofs.SameOrderLaws.{same_numbers}
use Rattle.jfr_renumber.proofs.TogetherLaws.{together_is}
use Rattle.jfr_laws.proofs.Entries.{each_append}
use Rattle.jfr_renumber.proofs.UsedLaws.{entry_used, event_used, in_used, remains_used, used_in}

-- What is written with these keys.
abbrev rewritten : (ℕ × ℕ → ℕ) → (p : Parts) (kept : List EventAt) → Spelled p kept
rewritten new p kept = record {
  whole = λ r. whole_bytes new p r (find (λ e. e.record_of.at == r.at) kept);
  event = event_bytes new p;
  entry = entry_bytes new p;
  other = λ r h. ap (whole_bytes new p r) h;
  of_event = λ r e h i. ap (whole_bytes new p r) h;
}

-- The law: the output with new keys is made of what `told_anew` lists, and of nothing else.
pub anew_tells : (slim : Option (List ℕ)) (p : Parts) (kept : List EventAt) → AreParts p → renumber_with slim p kept ≡ rendered (told_anew slim p kept)
unfolding renumber_with told_anew
anew_tells slim p kept a =
    rendered_same (rewritten new p kept).whole (entry_bytes new p) p (firsts p kept) bytes (written_by bytes)
    (record { whole_bytes = λ r at older. refl; new_bytes = λ r x at older. refl; chained_bytes = λ number l at older. refl; none = λ at older. refl; next = λ at older s ss. refl })
    (output_records slim p kept) (all_apart slim p kept a)
  where
    new : ℕ × ℕ → ℕ
    new = new_key p kept

    bytes : OutputRecord → ℕ → Option ℕ → List ℕ
    bytes = new_bytes new p kept (firsts p kept)

-- The first of each group.
module _ (R : EntryAt → EntryAt → Type 0) (s : EntryAt → EntryAt → Bool) (z : EntryAt → EntryAt → Bool) (like : (e f d g : EntryAt) → R e f → R d g → s e d ≡ z f g) where
  abbrev apart : EntryAt → EntryAt → Bool
  apart e d = not (s e d)

  abbrev apart_too : EntryAt → EntryAt → Bool
  apart_too f g = not (z f g)

  apart_like : (e f : EntryAt) → R e f → AnswersAlike R (apart e) (apart_too f)
  apart_like e f r d g k = ap (λ b. not b) (like e f d g r k)

  mutual
    related_firsts : (es fs : List EntryAt) → Related R es fs → Related R (firsts_with s es) (firsts_with z fs)
    related_firsts [] [] r = tt
    related_firsts [] (f ∷ fs) r = absurd r
    related_firsts (e ∷ es) [] r = absurd r
    related_firsts (e ∷ es) (f ∷ fs) r =
        let i = related_firsts es fs r.2 in (
          r.0,
          pools_filter R (apart e) (apart_too f) (apart_like e f r.0) e f (firsts_with s es) (firsts_with z fs) i (pools_firsts e f es fs r.2 r.1),
          related_filter R (apart e) (apart_too f)
              (apart_like e f r.0) (firsts_with s es) (firsts_with z fs) i,
        )

    pools_firsts : (x y : EntryAt) (es fs : List EntryAt) → Related R es fs → SamePools x y es fs → SamePools x y (firsts_with s es) (firsts_with z fs)
    pools_firsts x y [] [] r p = tt
    pools_firsts x y [] (f ∷ fs) r p = absurd r
    pools_firsts x y (e ∷ es) [] r p = absurd r
    pools_firsts x y (e ∷ es) (f ∷ fs) r p =
        (p.0, pools_filter R (apart e) (apart_too f) (apart_like e f r.0) x y (firsts_with s es) (firsts_with z fs) (related_firsts es fs r.2) (pools_firsts x y es fs r.2 p.1))

module _ (slim other : Option (List ℕ)) (p q : Parts) (kept others : List EventAt) (a : AreParts p) (b : AreParts q) (these : AreEvents p kept) (those : AreEvents q others) (g : SameKept slim other p q kept others) where
  abbrev EP : EventAt → EventAt → Type 0
  EP = Events slim other p q kept others a b these those g

  abbrev NP : EntryAt → EntryAt → Type 0
  NP = Entries slim other p q kept others a b these those g

  abbrev nodes : (e : EventAt) → In kept e → (v : Value) × IsNode p.classes p.bytes e.node v
  nodes = kept_nodes p a kept these

  -- Counterparts have the same value.
  value_same : (n o : NodeAt) → NodePair p q a b n o → value_of p.classes p.bytes n ≡ value_of q.classes q.bytes o
  value_same n o x = value_is p.classes p.bytes n x.value (has_nodes p a).sound x.left ∙ sym (value_is q.classes q.bytes o x.value (has_nodes q b).sound x.right)

  -- So the same keys are used.
  all_same : (ns os : List NodeAt) → Each (NodePair p q a b) ns os → all_targets p ns ≡ all_targets q os
  all_same [] [] e = refl
  all_same [] (o ∷ os) e = absurd e
  all_same (n ∷ ns) [] e = absurd e
  all_same (n ∷ ns) (o ∷ os) e = ap (λ z. option_map_or targets_of z [] ++ all_targets p ns) (value_same n o e.0) ∙ ap (λ z. targets q.classes q.bytes o ++ z) (all_same ns os e.1)

  event_nodes : (es fs : List EventAt) → Each EP es fs → Each (NodePair p q a b) (nodes_of es) (nodes_of fs)
  event_nodes [] [] e = tt
  event_nodes [] (f ∷ fs) e = absurd e
  event_nodes (x ∷ es) [] e = absurd e
  event_nodes (x ∷ es) (f ∷ fs) e = (e.0.pair, event_nodes es fs e.1)

  entry_nodes : (es fs : List EntryAt) → Related NP es fs → Each (NodePair p q a b) (map entry_node es) (map entry_node fs)
  entry_nodes [] [] e = tt
  entry_nodes [] (f ∷ fs) e = absurd e
  entry_nodes (x ∷ es) [] e = absurd e
  entry_nodes (x ∷ es) (f ∷ fs) e = (e.0.pair, entry_nodes es fs e.2)

  keys_same : used_keys p kept ≡ used_keys q others
  unfolding used_keys
  keys_same =
      all_same (nodes_of kept ++ map entry_node (remain p kept)) (nodes_of others ++ map entry_node (remain q others))
      (each_append (NodePair p q a b) (nodes_of kept) (nodes_of others) (map entry_node (remain p kept)) (map entry_node (remain q others))
      (event_nodes kept others (events slim other p q kept others a b these those g)) (entry_nodes (remain p kept) (remain q others) (entries slim other p q kept others a b these those g)))

  -- Values are equal in one chunk where they are equal in the other.
  equal_same : (x y z w : Option EntryAt) → Both (SameValue p q a b) x z → Both (SameValue p q a b) y w → equal_values p.bytes x y ≡ equal_values q.bytes z w
  equal_same None y None w r s = refl
  equal_same None y (Some f) w r s = absurd r
  equal_same (Some e) y None w r s = absurd r
  equal_same (Some e) None (Some f) None r s = refl
  equal_same (Some e) None (Some f) (Some h) r s = absurd s
  equal_same (Some e) (Some d) (Some f) None r s = absurd s
  equal_same (Some e) (Some d) (Some f) (Some h) r s = λ i. bytes_eq (r i) (s i)

  together_same : (t u : ℕ × ℕ) → Used p kept t → Used p kept u → together p t u ≡ together q t u
  unfolding together
  together_same t u x y =
      ap (λ z. (t.0 == u.0) && ((t.1 == u.1) || z))
      (equal_same (in_force p.entries t) (in_force p.entries u) (in_force q.entries t) (in_force q.entries u) (same_entry p q a b slim other kept others these those g t x)
      (same_entry p q a b slim other kept others these those g u y))

  -- So they have the same new keys.
  listed : (t : ℕ × ℕ) → Contains (used_keys p kept) t → Used p kept t
  listed t c = in_used p (has_nodes p a) kept nodes t (contains_in (used_keys p kept) t c)

  new_same : (t : ℕ × ℕ) → In (used_keys p kept) t → new_key p kept t ≡ new_key q others t
  unfolding new_key
  new_same t i =
      same_numbers (together p) (together q) (together_is p) (together_is q) (used_keys p kept) (used_keys p kept) (λ u. u)
      (record { there = λ u c. c; back = λ u c. (u, c, refl); class = λ u c. refl; alike = λ u v c d. together_same u v (listed u c) (listed v d); rising = λ u v c d e l. l }) t
      (in_contains (used_keys p kept) t i)
      ∙ ap (λ us. group_number (together q) us t) keys_same

  -- And the same bytes.
  node_same : (n o : NodeAt) → NodePair p q a b n o → ((t : ℕ × ℕ) → In (targets p.classes p.bytes n) t → In (used_keys p kept) t)
      → rekeyed_bytes (new_key p kept) p.classes p.bytes n ≡ rekeyed_bytes (new_key q others) q.classes q.bytes o
  node_same n o x u =
      bytes_same (new_key p kept) (new_key q others) p.classes p.bytes n (λ t i. new_same t (u t i))
      ∙ ap (λ z. option_map_or (λ v. bytes_of (changed (rekeying (new_key q others)) None v)) z []) (value_same n o x)

  pair_same : (e f : EntryAt) → NP e f → pair_of e ≡ pair_of f
  pair_same e f r = λ i. (r.copied.class i, r.copied.key i)

  entry_in_use : (e f : EntryAt) → NP e f → Used p kept (pair_of e)
  entry_in_use e f r = (remains_used p (has_nodes p a) kept nodes e r.remains).used

  entry_same : (e f : EntryAt) → NP e f → entry_bytes (new_key p kept) p e ≡ entry_bytes (new_key q others) q f
  entry_same e f r =
      let k : new_key p kept (pair_of e) ≡ new_key q others (pair_of f) =
      new_same (pair_of e) (used_in p (has_nodes p a) kept nodes (pair_of e) (entry_in_use e f r)) ∙ ap (new_key q others) (pair_same e f r) in
      let v = node_same (entry_node e) (entry_node f) r.pair (λ t i. entry_used p (has_nodes p a) kept nodes e t r.remains i) in
      λ i. spell (k i) ++ v i

  -- An event's bytes after its fields are the same, too.
  fields_alike : (e f : EventAt) → EP e f → SameFields p.bytes q.bytes e.record_of f.record_of
  fields_alike e f r =
      same_fields p.bytes q.bytes e.record_of f.record_of (all_in (IsRecord p.bytes) p.records e.record_of (recorded p a) r.left.listed)
      (all_in (IsRecord q.bytes) q.records f.record_of (recorded q b) r.right.listed) r.same.bytes

  body_split : (k : Parts) (e : EventAt) → IsEvent k e → body_bytes k.bytes e.record_of ≡ node_bytes k.bytes e.node ++ slice_range k.bytes e.node.end (record_end e.record_of)
  body_split k e i = ap (λ z. slice_range k.bytes z (record_end e.record_of)) (sym i.at) ∙ range_split k.bytes e.node.at e.node.end (record_end e.record_of) i.node.order i.within

  rest_same : (e f : EventAt) → EP e f → slice_range p.bytes e.node.end (record_end e.record_of) ≡ slice_range q.bytes f.node.end (record_end f.record_of)
  rest_same e f r =
      let n : node_bytes p.bytes e.node ≡ node_bytes q.bytes f.node = r.pair.left.bytes ∙ sym r.pair.right.bytes in
      let z = sym (body_split p e r.left) ∙ ((fields_alike e f r).body ∙ body_split q f r.right) in
      (one_run (node_bytes p.bytes e.node) (node_bytes q.bytes f.node) (slice_range p.bytes e.node.end (record_end e.record_of)) (slice_range q.bytes f.node.end (record_end f.record_of)) z
      (ap length n)).1

  event_same : (e f : EventAt) → EP e f → event_bytes (new_key p kept) p e ≡ event_bytes (new_key q others) q f
  event_same e f r =
      let x = fields_alike e f r in
      let v = node_same e.node f.node r.pair (λ t i. event_used p (has_nodes p a) kept nodes e t r.is_kept i) in
      let w = rest_same e f r in
      λ i. sized (x.width i) (x.type i ++ (v i ++ w i))

  -- The first of each group are counterparts.
  firsts_same : Related NP (firsts p kept) (firsts q others)
  unfolding firsts
  firsts_same =
      related_firsts NP (λ e d. together p (pair_of e) (pair_of d)) (λ f h. together q (pair_of f) (pair_of h))
      (λ e f d h r s. together_same (pair_of e) (pair_of d) (entry_in_use e f r) (entry_in_use d h s) ∙ (λ i. together q (pair_same e f r i) (pair_same d h s i))) (remain p kept) (remain q others)
      (entries slim other p q kept others a b these those g)

  same_told_anew : told_anew slim p kept ≡ told_anew other q others
  unfolding told_anew
  same_told_anew = told_same slim other p q kept others a b these those g (rewritten (new_key p kept) p kept) (rewritten (new_key q others) q others) event_same entry_same (firsts p kept)
      (firsts q others) firsts_same

  -- The law: the outputs with new keys are equal.
  pub same_renumber : renumber_with slim p kept ≡ renumber_with other q others
  same_renumber = anew_tells slim p kept a ∙ (ap rendered same_told_anew ∙ sym (anew_tells other q others b))
