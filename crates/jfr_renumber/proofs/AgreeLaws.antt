-- Keys that agree with the new ones on all that is used give the same output.
use Rattle.std.specs.Prelude.{◌≡◌, ℕ, ◌+◌, ◌-◌, Bool, true, false, ◌==◌, List, [], ◌∷◌, ◌++◌, length, filter, find, slice_range, Option, Some, None, unwrap_or, if◌then◌else◌}
use Rattle.std.specs.List.{AllByRecursion, flat_map}
use Rattle.std.specs.Option.{option_map_or}
use Rattle.jfr_base.specs.Integer.{spell}
use Rattle.jfr_layout.specs.Classes.{Classes}
use Rattle.jfr_frame.specs.Records.{record_end}
use Rattle.jfr_value.specs.Values.{Value, Values, Single, Group, Nil, Cons, bytes_of, targets_of, targets_of_all}
use Rattle.jfr_value.specs.Nodes.{NodeAt, targets, value_of}
use Rattle.jfr_pool.specs.Entries.{entry_node}
use Rattle.jfr_chunk.specs.Written as old
use Rattle.jfr_chunk.specs.Written.{by_pool, distance, sized}
use Rattle.jfr_chunk.specs.Scrub.{OutputRecord, Whole, Chained, Rebuilt, output_records}
use Rattle.jfr_chunk.proofs.AllLaws.{filter_all}
use Rattle.jfr_laws.proofs.Groups.{groups_hold}
use Rattle.jfr_laws.proofs.Listed.{all_each}
use Rattle.jfr_renumber.specs.Rekeyed.{key_bytes, kind_with, rekeyed, rekeyed_all, rekeyed_bytes, rekeying}
use Rattle.jfr_renumber.proofs.RekeyedLaws.{rekeyed_is_changed}
use Rattle.jfr_rewrite.specs.Changed.{changed}
use Rattle.jfr_rewrite.proofs.Output.{find_in}
use Rattle.jfr_rewrite.proofs.Pools.{all_parts}
use Rattle.std.specs.Cmp.{first_so, second_so, unsigned_Decides}
use Rattle.std.specs.Cmp.Derive.{both_true}
use Rattle.std.proofs.Common.{ap, refl, sym, ◌∙◌, subst, inl}
use Rattle.std.proofs.lemmas.Map.Views.{exact_unsigned_eq}
use Rattle.jfr_worklist.specs.Members.{In}
use Rattle.jfr_worklist.proofs.Members.{in_left, in_right}
use Rattle.jfr_pool.specs.declared.entry.EntryAt.{EntryAt}
use Rattle.jfr_chunk.specs.Parts.{Parts, EventAt, AreParts}
use Rattle.jfr_chunk.specs.Reach.{Used, kept_by, marked, reached_marks, remain}
use Rattle.jfr_chunk.proofs.HasNodesLaws.{has_nodes}
use Rattle.jfr_laws.proofs.Same.{chosen_events}
use Rattle.jfr_renumber.specs.Firsts.{firsts_by, same_new}
use Rattle.jfr_renumber.specs.Numbers.{NumberedPairs, number_of, number_or_zero}
use Rattle.jfr_renumber.specs.Meaning.{AreNewKeys}
use Rattle.jfr_renumber.specs.Renumber.{assembled_by, entry_bytes, event_bytes, firsts, group_bytes, new_bytes, new_key, new_key_of, pair_of, renumber_with, together, used_keys, whole_bytes}
use Rattle.jfr_renumber.proofs.FirstsLaws.{firsts_same}
use Rattle.jfr_renumber.proofs.LawLaws.{kept_nodes, new_keys_are}
use Rattle.jfr_renumber.proofs.NumberLaws.{any_of}
use Rattle.jfr_renumber.proofs.TogetherLaws.{first_among, together_is}
use Rattle.jfr_renumber.proofs.UsedLaws.{entry_used, event_used, in_used, remains_used, used_in}

flat_map_each : {X A : Type 0} (f g : X → List A) (xs : List X) → AllByRecursion (λ x. f x ≡ g x) xs → flat_map f xs ≡ flat_map g xs
flat_map_each f g [] a = refl
flat_map_each f g (x ∷ xs) a = ap (λ z. z ++ flat_map f xs) a.0 ∙ ap (λ z. g x ++ z) (flat_map_each f g xs a.1)

both_ways : (a b : Bool) → (a ≡ true → b ≡ true) → (b ≡ true → a ≡ true) → a ≡ b
both_ways true b f g = sym (f refl)
both_ways false true f g = g refl
both_ways false false f g = refl

-- Keys that agree on what a value refers to give the same value.
module _ (new other : ℕ × ℕ → ℕ) where
  mutual
    pub rekeyed_same : (v : Value) → ((t : ℕ × ℕ) → In (targets_of v) t → new t ≡ other t) → rekeyed new v ≡ rekeyed other v
    rekeyed_same (Single s kind b None) f = refl
    rekeyed_same (Single s kind b (Some key)) f = ap (λ n. Single s (kind_with n kind) (key_bytes n kind) (Some n)) (f (s.class, key) (inl refl))
    rekeyed_same (Group s h vs) f = ap (Group s h) (rekeyed_all_same vs f)

    rekeyed_all_same : (vs : Values) → ((t : ℕ × ℕ) → In (targets_of_all vs) t → new t ≡ other t) → rekeyed_all new vs ≡ rekeyed_all other vs
    rekeyed_all_same Nil f = refl
    rekeyed_all_same (Cons v vs) f =
        ap (λ z. Cons z (rekeyed_all new vs)) (rekeyed_same v (λ t i. f t (in_left (targets_of v) (targets_of_all vs) t i)))
        ∙ ap (λ z. Cons (rekeyed other v) z) (rekeyed_all_same vs (λ t i. f t (in_right (targets_of v) (targets_of_all vs) t i)))

  pub bytes_same : (k : Classes) (c : List ℕ) (n : NodeAt) → ((t : ℕ × ℕ) → In (targets k c n) t → new t ≡ other t) → rekeyed_bytes new k c n ≡ rekeyed_bytes other k c n
  bytes_same k c n f = by_value (value_of k c n) f
    where
      by_value : (o : Option Value) → ((t : ℕ × ℕ) → In (option_map_or targets_of o []) t → new t ≡ other t)
          → option_map_or (λ v. bytes_of (changed (rekeying new) None v)) o [] ≡ option_map_or (λ v. bytes_of (changed (rekeying other) None v)) o []
      by_value None f = refl
      by_value (Some v) f = ap bytes_of (rekeyed_is_changed new None v ∙ (rekeyed_same v f ∙ sym (rekeyed_is_changed other None v)))

all_in_groups : (P : EntryAt → Type 0) (gs : List old.Group) → AllByRecursion P (flat_map (λ g. g.entries) gs) → AllByRecursion (λ g. AllByRecursion P g.entries) gs
all_in_groups P [] a = tt
all_in_groups P (g ∷ gs) a = let h = all_parts P g.entries (flat_map (λ g. g.entries) gs) a in (h.0, all_in_groups P gs h.1)

module _ (p : Parts) (a : AreParts p) (flags : List Bool) where
  abbrev kept : List EventAt
  kept = kept_by p flags

  keys : AreNewKeys p kept (new_key p kept)
  keys = new_keys_are p a kept (chosen_events p flags)

  -- Numbers that are the new keys of all that is used.
  pub number_used : (k : NumberedPairs) → ((t : ℕ × ℕ) → number_of k t ≡ new_key_of p kept t) → (t : ℕ × ℕ) → Used p kept t → number_or_zero k t ≡ new_key p kept t
  number_used k h t u =
      ap (λ o. unwrap_or o 0) (h t)
      ∙ ap (λ b. unwrap_or (if b then Some (new_key p kept t) else None) 0) (any_of (used_keys p kept) t (used_in p (has_nodes p a) kept (kept_nodes p a kept (chosen_events p flags)) t u))

  module _ (new : ℕ × ℕ → ℕ) (same : (t : ℕ × ℕ) → Used p kept t → new t ≡ new_key p kept t) where
    -- Two entries that remain have the same class and new key exactly if they are together.
    together_by : (e f : EntryAt) → In (remain p kept) e → In (remain p kept) f → same_new new e f ≡ together p (pair_of e) (pair_of f)
    together_by e f i j = both_ways (same_new new e f) (together p (pair_of e) (pair_of f)) there back
      where
        first : Used p kept (pair_of e)
        first = (remains_used p (has_nodes p a) kept (kept_nodes p a kept (chosen_events p flags)) e i).used

        second : Used p kept (pair_of f)
        second = (remains_used p (has_nodes p a) kept (kept_nodes p a kept (chosen_events p flags)) f j).used

        there : same_new new e f ≡ true → together p (pair_of e) (pair_of f) ≡ true
        there h =
            let c : e.class ≡ f.class = exact_unsigned_eq e.class f.class (first_so (e.class == f.class) (new (pair_of e) == new (pair_of f)) h) in
            let n : new (pair_of e) ≡ new (pair_of f) = exact_unsigned_eq (new (pair_of e)) (new (pair_of f)) (second_so (e.class == f.class) (new (pair_of e) == new (pair_of f)) h) in
            (keys.groups (pair_of e) (pair_of f) first second c).0 (sym (same (pair_of e) first) ∙ (n ∙ same (pair_of f) second))

        back : together p (pair_of e) (pair_of f) ≡ true → same_new new e f ≡ true
        back h =
            let c : e.class ≡ f.class = (together_is p).class (pair_of e) (pair_of f) h in
            let n : new (pair_of e) ≡ new (pair_of f) = same (pair_of e) first ∙ ((keys.groups (pair_of e) (pair_of f) first second c).1 h ∙ sym (same (pair_of f) second)) in
            both_true ((unsigned_Decides e.class f.class).1 c) ((unsigned_Decides (new (pair_of e)) (new (pair_of f))).1 n)

    -- So the first for each class and new key are the first of each group.
    pub firsts_are : firsts_by new (remain p kept) ≡ firsts p kept
    unfolding firsts
    firsts_are = firsts_same (same_new new) (λ e f. together p (pair_of e) (pair_of f)) (remain p kept) together_by

  -- So it is for marked entries.
  pub firsts_marked : (k : NumberedPairs) → ((t : ℕ × ℕ) → number_of k t ≡ new_key_of p kept t) → (marks : List Bool) → marks ≡ reached_marks p kept
      → firsts_by (number_or_zero k) (marked marks p.entries) ≡ firsts p kept
  unfolding remain
  firsts_marked k h marks m = ap (λ z. firsts_by (number_or_zero k) (marked z p.entries)) m ∙ firsts_are (number_or_zero k) (number_used k h)

  -- What is written of events and entries is the same, and so is all that is written.
  module _ (new : ℕ × ℕ → ℕ) (same : (t : ℕ × ℕ) → Used p kept t → new t ≡ new_key p kept t) where
    listed : (t : ℕ × ℕ) → In (used_keys p kept) t → new t ≡ new_key p kept t
    listed t i = same t (in_used p (has_nodes p a) kept (kept_nodes p a kept (chosen_events p flags)) t i)

    pub event_same : (e : EventAt) → In kept e → event_bytes new p e ≡ event_bytes (new_key p kept) p e
    event_same e i =
        ap (λ z. sized (e.record_of.type_at - e.record_of.at) (slice_range p.bytes e.record_of.type_at e.record_of.body ++ (z ++ slice_range p.bytes e.node.end (record_end e.record_of))))
        (bytes_same new (new_key p kept) p.classes p.bytes e.node (λ t j. listed t (event_used p (has_nodes p a) kept (kept_nodes p a kept (chosen_events p flags)) e t i j)))

    pub entry_same : (e : EntryAt) → In (remain p kept) e → entry_bytes new p e ≡ entry_bytes (new_key p kept) p e
    entry_same e i =
        ap (λ n. spell n ++ rekeyed_bytes new p.classes p.bytes (entry_node e)) (same (pair_of e) (remains_used p (has_nodes p a) kept (kept_nodes p a kept (chosen_events p flags)) e i).used)
        ∙ ap (λ z. spell (new_key p kept (pair_of e)) ++ z)
        (bytes_same new (new_key p kept) p.classes p.bytes (entry_node e) (λ t j. listed t (entry_used p (has_nodes p a) kept (kept_nodes p a kept (chosen_events p flags)) e t i j)))

    abbrev SameEntry : EntryAt → Type 0
    SameEntry e = entry_bytes new p e ≡ entry_bytes (new_key p kept) p e

    groups_same : (gs : List old.Group) → AllByRecursion (λ g. AllByRecursion SameEntry g.entries) gs → flat_map (group_bytes new p) gs ≡ flat_map (group_bytes (new_key p kept) p) gs
    groups_same gs h = flat_map_each (group_bytes new p) (group_bytes (new_key p kept) p) gs (each gs h)
      where
        each : (gs : List old.Group) → AllByRecursion (λ g. AllByRecursion SameEntry g.entries) gs → AllByRecursion (λ g. group_bytes new p g ≡ group_bytes (new_key p kept) p g) gs
        each [] h = tt
        each (g ∷ gs) h = (ap (λ z. spell g.class ++ (spell (length g.entries) ++ z)) (flat_map_each (entry_bytes new p) (entry_bytes (new_key p kept) p) g.entries h.0), each gs h.1)

    first_same : AllByRecursion SameEntry (firsts p kept)
    unfolding firsts
    first_same = all_each SameEntry (firsts p kept) (λ e i. entry_same e (first_among p (remain p kept) e i))

    pub record_same : (s : OutputRecord) (at : ℕ) (older : Option ℕ) → new_bytes new p kept (firsts p kept) s at older ≡ new_bytes (new_key p kept) p kept (firsts p kept) s at older
    record_same (Whole r) at older = by_event (find (λ e. e.record_of.at == r.at) kept) refl
      where
        by_event : (o : Option EventAt) → find (λ e. e.record_of.at == r.at) kept ≡ o → whole_bytes new p r o ≡ whole_bytes (new_key p kept) p r o
        by_event None q = refl
        by_event (Some e) q = event_same e (find_in (λ e. e.record_of.at == r.at) kept e q).0
    record_same (Rebuilt r x) at older = refl
    record_same (Chained i l) at older =
        let these : List EntryAt = filter (λ e. e.checkpoint == i) (firsts p kept) in
        let all : AllByRecursion SameEntry (flat_map (λ g. g.entries) (by_pool these)) =
        subst (AllByRecursion SameEntry) (sym (groups_hold these)) (filter_all SameEntry (λ e. e.checkpoint == i) (firsts p kept) first_same) in
        ap (λ z. sized (l.frame.type_at - l.frame.at)
        (slice_range p.bytes l.frame.type_at l.frame.body
        ++ (slice_range p.bytes l.frame.body l.delta_at ++ (spell (distance at older) ++ (slice_range p.bytes l.delta_end (l.delta_end + 1) ++ (spell (length (by_pool these)) ++ z))))))
        (groups_same (by_pool these) (all_in_groups SameEntry (by_pool these) all))

    -- So the output with these keys is the output with the new ones.
    pub output_same : (slim : Option (List ℕ)) → assembled_by p (new_bytes new p kept (firsts p kept)) (output_records slim p kept) ≡ renumber_with slim p kept
    unfolding renumber_with
    output_same slim = λ i. assembled_by p (λ s at older. record_same s at older i) (output_records slim p kept)
