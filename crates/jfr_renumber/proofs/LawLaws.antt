-- The laws, as they are promised.
use Rattle.std.specs.Prelude.{◌≡◌, ◌↔◌, ℕ, List, ◌++◌, map, Contains, Option, Some, None, IsSome}
use Rattle.std.specs.Option.{option_map}
use Rattle.std.proofs.Common.{ap, refl, sym, ◌∙◌, subst}
use Rattle.std.proofs.lemmas.List.{map-append}
use Rattle.std.proofs.lemmas.List.Elements.{All-contains}
use Rattle.jfr_base.specs.Formats.{Exactly}
use Rattle.jfr_layout.specs.Classes.{Classes, Sound}
use Rattle.jfr_value.specs.Values.{Value, Values, Single, Group, Nil, Cons, bytes_of, targets_of, targets_of_all, Fits}
use Rattle.jfr_value.specs.Reading.{value_format}
use Rattle.jfr_value.specs.Nodes.{NodeAt, IsNode, Both}
use Rattle.jfr_value.proofs.DepthLaws.{fits_good}
use Rattle.jfr_pool.specs.Entries.{in_force}
use Rattle.jfr_chunk.specs.Parts.{Parts, EventAt, AreParts, events_of}
use Rattle.jfr_chunk.specs.Paths.{leads}
use Rattle.jfr_chunk.specs.Reach.{Used}
use Rattle.jfr_chunk.specs.Laws.{AreEvents}
use Rattle.jfr_worklist.specs.Members.{In}
use Rattle.jfr_worklist.proofs.Members.{contains_in, in_contains}
use Rattle.jfr_chunk.proofs.HasNodesLaws.{IsEvent, has_nodes, event_is}
use Rattle.jfr_rewrite.specs.Paths.{Held, leads_but, root}
use Rattle.jfr_rewrite.specs.Rewritten.{HasChangedValue, IsChangedEvent}
use Rattle.jfr_rewrite.proofs.MeaningLaws.{event_leads}
use Rattle.jfr_rewrite.proofs.OneToOneLaws.{each_to}
use Rattle.jfr_rewrite.proofs.PathLaws.{Paired}
use Rattle.jfr_renumber.specs.Rekeyed.{SameButKeys, rekeyed, rekeyed_all, rekeyed_pair, rekeying}
use Rattle.jfr_renumber.specs.Renumber.{used_keys, new_key, firsts}
use Rattle.jfr_renumber.specs.Meaning.{AreNewKeys, AreRekeyedEntries, IsInOrder, RekeyedEvent, RekeyedMeaning}
use Rattle.jfr_renumber.specs.Laws.{KeepsMeaning, RekeyedRecord, RekeyedRecords, AgreeOnUsed}
use Rattle.jfr_renumber.proofs.PathLaws.{leads_free, met_used, node_in}
use Rattle.jfr_renumber.proofs.RekeyedLaws.{never, node_rekeyed, rekeyed_fits, rekeyed_is_changed, rekeyed_leaves, rekeyed_shape, rekeyed_short, rekeying_keeps, rekeying_targets}
use Rattle.jfr_renumber.proofs.UsedLaws.{in_used, keys_rise, new_keys, used_in}
use Rattle.jfr_renumber.proofs.RenamedLaws.{entries_changed}

pub both_there : {A B : Type 0} (R : A → B → Type 0) (x : Option A) (y : Option B) → Both R x y → IsSome x ↔ IsSome y
both_there R None None r = (λ i. i, λ i. i)
both_there R (Some a) (Some b) r = (λ i. refl, λ i. refl)
both_there R None (Some b) r = absurd r
both_there R (Some a) None r = absurd r

mutual
  rekeyed_targets : (new : ℕ × ℕ → ℕ) (v : Value) → targets_of (rekeyed new v) ≡ map (rekeyed_pair new) (targets_of v)
  rekeyed_targets new (Single s kind b None) = refl
  rekeyed_targets new (Single s kind b (Some key)) = refl
  rekeyed_targets new (Group s h vs) = rekeyed_targets_all new vs

  rekeyed_targets_all : (new : ℕ × ℕ → ℕ) (vs : Values) → targets_of_all (rekeyed_all new vs) ≡ map (rekeyed_pair new) (targets_of_all vs)
  rekeyed_targets_all new Nil = refl
  rekeyed_targets_all new (Cons v vs) =
      ap (λ z. z ++ targets_of_all (rekeyed_all new vs)) (rekeyed_targets new v)
      ∙ (ap (λ z. map (rekeyed_pair new) (targets_of v) ++ z) (rekeyed_targets_all new vs) ∙ sym (map-append (rekeyed_pair new) (targets_of v) (targets_of_all vs)))

pub keeps_meaning : (new : ℕ × ℕ → ℕ) (k : Classes) (v : Value) → Sound k → Fits k v → KeepsMeaning new k v
keeps_meaning new k v sound f =
    let g = rekeyed_fits new k v f in
    record {
      fits = g;
      shape = rekeyed_shape new v;
      read = subst (λ z. Exactly (value_format k z) (bytes_of (rekeyed new v)) (rekeyed new v)) (rekeyed_shape new v) (fits_good k (rekeyed new v) sound g);
      leaves = λ holder at to. rekeyed_leaves new k v holder at to f;
      refers = rekeyed_targets new v;
      short = rekeyed_short new k v f;
    }

module _ (p : Parts) (a : AreParts p) (kept : List EventAt) (are : AreEvents p kept) where
  pub kept_event : (e : EventAt) → In kept e → IsEvent p e
  kept_event e i = event_is p a e (contains_in (events_of p) e (All-contains (Contains (events_of p)) kept e are (in_contains kept e i)))

  pub kept_nodes : (e : EventAt) → In kept e → (v : Value) × IsNode p.classes p.bytes e.node v
  kept_nodes e i = let h = kept_event e i in (h.value, h.node)

  pub new_keys_are : AreNewKeys p kept (new_key p kept)
  new_keys_are = new_keys p (has_nodes p a) kept kept_nodes

  pub new_keys_rise : IsInOrder p kept (new_key p kept)
  new_keys_rise = keys_rise p (has_nodes p a) kept kept_nodes

  pub exactly_used : (t : ℕ × ℕ) → Contains (used_keys p kept) t ↔ Used p kept t
  exactly_used t = (λ c. in_used p (has_nodes p a) kept kept_nodes t (contains_in (used_keys p kept) t c), λ u. in_contains (used_keys p kept) t (used_in p (has_nodes p a) kept kept_nodes t u))

  -- A second chunk whose entries are the first of each group with new keys.
  module _ (q : Parts) (b : AreParts q) (new : ℕ × ℕ → ℕ) (keys : AreNewKeys p kept new) (agree : AgreeOnUsed p q kept) (entries : AreRekeyedEntries new p q (firsts p kept) q.entries) where
    in_force_changed : (t : ℕ × ℕ) → Used p kept t → Both (HasChangedValue (rekeying new) p q) (in_force p.entries t) (in_force q.entries (rekeyed_pair new t))
    in_force_changed t u = entries_changed p q (has_nodes p a) new kept kept_nodes keys entries agree t u

    -- What is used has an entry in force exactly if its new key has one.
    pub same_missing : (t : ℕ × ℕ) → Used p kept t → IsSome (in_force p.entries t) ↔ IsSome (in_force q.entries (rekeyed_pair new t))
    same_missing t u = both_there _ (in_force p.entries t) (in_force q.entries (rekeyed_pair new t)) (in_force_changed t u)

    -- Changed nodes are the same except for the keys.
    abbrev Same : NodeAt → NodeAt → Type 0
    Same = SameButKeys new p.classes q.classes p.bytes q.bytes

    nodes_rekeyed : (x : Option Held) (y : Option NodeAt) → Both (Paired p q (rekeying new)) x y → Both Same (option_map node_in x) y
    nodes_rekeyed None None r = tt
    nodes_rekeyed (Some h) (Some o) r =
        node_rekeyed new p.classes (has_nodes p a).sound p.bytes h.node r.value r.before q.classes q.bytes o (has_nodes q b).sound
        (subst (IsNode q.classes q.bytes o) (rekeyed_is_changed new h.holder r.value) r.now)
    nodes_rekeyed None (Some o) r = absurd r
    nodes_rekeyed (Some h) None r = absurd r

    module _ (others : List EventAt) (those : AreEvents q others) where
      event_renamed : (e f : EventAt) → In kept e → In others f → RekeyedRecord new p q e f → RekeyedEvent new p q e f
      event_renamed e f i j h =
          let c : IsChangedEvent (rekeying new) p q e f = record { class = h.class; agree = h.agree; fields = h.fields; rest = h.rest } in
          let lead =
          event_leads (rekeying new) new never p q kept others a b are those (rekeying_keeps new p.classes) (rekeying_targets new p.classes)
          (λ t m. in_force_changed t (met_used p kept t m)) e f i j c in
          record {
            class = h.class;
            rest = h.rest;
            paths = λ path. subst (λ z. Both Same z (leads q f.node path)) (leads_free p path (root e.node)) (nodes_rekeyed (leads_but never p (root e.node) path) (leads q f.node path) (lead path));
          }

      pub renamed_the_same : RekeyedRecords new p q kept others → RekeyedMeaning new p q kept others
      renamed_the_same h = each_to kept others event_renamed h
