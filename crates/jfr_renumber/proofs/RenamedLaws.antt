-- If the entries of a second chunk are the first of each group with new keys, the entry in force for a new key has the
-- value of the entry in force with new keys.
use Rattle.std.specs.Prelude.{◌≡◌, ◌⊎◌, ℕ, ◌+◌, ◌&&◌, ◌==◌, Bool, true, false, if◌then◌else◌, option_and_then, List, [], ◌∷◌, slice_get, Option, Some, None}
use Rattle.std.proofs.Common.{ap, refl, sym, ◌∙◌, subst, inl, inr}
use Rattle.jfr_layout.specs.Classes.{Agree}
use Rattle.jfr_value.specs.Values.{Value, bytes_of}
use Rattle.jfr_value.specs.Nodes.{IsNode, node_bytes, Both}
use Rattle.jfr_pool.specs.declared.entry.EntryAt.{EntryAt}
use Rattle.jfr_pool.specs.Entries.{number_in_force, in_force, inline, entry_node, last_from, or_later}
use Rattle.std.specs.Cmp.{unsigned_Decides}
use Rattle.std.specs.Cmp.Derive.{both_true}
use Rattle.jfr_pool.specs.Laws.{IsLast}
use Rattle.jfr_pool.proofs.OneLaws.{last_is}
use Rattle.jfr_chunk.specs.Parts.{Parts, EventAt}
use Rattle.jfr_chunk.specs.Reach.{Used, remain}
use Rattle.jfr_worklist.specs.Members.{In}
use Rattle.jfr_worklist.proofs.Members.{get_in}
use Rattle.jfr_pool.proofs.ForceLaws.{forced, numbered}
use Rattle.jfr_chunk.proofs.PathLaws.{HasNodes}
use Rattle.jfr_rewrite.specs.Rewritten.{HasChangedValue}
use Rattle.jfr_rewrite.proofs.OneToOneLaws.{first, second}
use Rattle.jfr_renumber.specs.Laws.{AgreeOnUsed}
use Rattle.jfr_renumber.specs.Rekeyed.{rekeyed, rekeyed_pair, rekeying}
use Rattle.jfr_renumber.specs.Renumber.{together, firsts, pair_of}
use Rattle.jfr_renumber.specs.Meaning.{AreNewKeys, IsRekeyedEntry, AreRekeyedEntries}
use Rattle.jfr_renumber.proofs.RekeyedLaws.{node_bytes_are}
use Rattle.jfr_renumber.proofs.ValueLaws.{fits_once}
use Rattle.jfr_renumber.proofs.TogetherLaws.{Alike, pair_is, together_alike, together_is, first_among, first_with}
use Rattle.jfr_renumber.proofs.UsedLaws.{Remaining, used_remains, remains_used}

-- A class and a key that an entry has are those of a last one.
never_none : (es : List EntryAt) (n : ℕ) (e : EntryAt) → In es e → last_from n es (pair_of e) ≡ None → ⊥
never_none [] n e i q = absurd i
never_none (x ∷ es) n e i q = by_later (last_from (n + 1) es (pair_of e)) refl q i (λ j. never_none es (n + 1) e j)
  where
    hit : x ≡ e → ((x.class == e.class) && (x.key == e.key)) ≡ true
    hit h = both_true ((unsigned_Decides x.class e.class).1 (ap (λ (z : EntryAt). z.class) h)) ((unsigned_Decides x.key e.key).1 (ap (λ (z : EntryAt). z.key) h))

    by_hit : (b : Bool) → ((x.class == e.class) && (x.key == e.key)) ≡ b → (if b then Some n else None) ≡ None → x ≡ e → ⊥
    by_hit true a b h = cc
    by_hit false a b h = let z = hit h in cc

    by_later : (o : Option ℕ) → last_from (n + 1) es (pair_of e) ≡ o → or_later n ((x.class == e.class) && (x.key == e.key)) o ≡ None → (x ≡ e) ⊎ In es e
        → (In es e → last_from (n + 1) es (pair_of e) ≡ None → ⊥) → ⊥
    by_later (Some m) a b i f = cc
    by_later None a b (inl h) f = by_hit ((x.class == e.class) && (x.key == e.key)) refl b h
    by_later None a b (inr j) f = f j a

no_number : (es : List EntryAt) (t : ℕ × ℕ) (o : Option ℕ) → number_in_force es t ≡ o → option_and_then (λ n. slice_get es n) o ≡ None → last_from 0 es t ≡ None
unfolding number_in_force
no_number es t None a b = a
no_number es t (Some n) a b = let f = forced es t n a in let g = f.there in cc

-- If an entry has a class and a key, one is in force for them.
module _ (es : List EntryAt) where
  record Found (t : ℕ × ℕ) : Type 0 where
    entry : EntryAt
    is_forced : in_force es t ≡ Some entry
    member : In es entry
    has : pair_of entry ≡ t

  found : (t : ℕ × ℕ) (e : EntryAt) → in_force es t ≡ Some e → Found t
  found t e q =
      let n = numbered es t e q in
      by_last n.number n.there ((last_is es t n.number).0 n.forced)
    where
      by_last : (i : ℕ) → slice_get es i ≡ Some e → IsLast es t i → Found t
      by_last i g l =
          let h : l.entry ≡ e = (let x : slice_get es i ≡ Some l.entry = l.holds in cc) in
          record { entry = e; is_forced = q; member = get_in es i e g; has = ap pair_of (sym h) ∙ l.has }

  pub forced_pair : (t : ℕ × ℕ) (e : EntryAt) → in_force es t ≡ Some e → pair_of e ≡ t
  forced_pair t e q = let f = found t e q in let g = f.is_forced in let h : f.entry ≡ e = cc in ap pair_of (sym h) ∙ f.has

  -- Some entry with the class and the key is a member, so one is in force.
  member_forced : (e : EntryAt) → In es e → Found (pair_of e)
  member_forced e i = by_force (in_force es (pair_of e)) refl
    where
      by_force : (o : Option EntryAt) → in_force es (pair_of e) ≡ o → Found (pair_of e)
      by_force None q = absurd (never_none es 0 e i (no_number es (pair_of e) (number_in_force es (pair_of e)) refl q))
      by_force (Some f) q = found (pair_of e) f q

module _ (p q : Parts) (s : HasNodes p) (new : ℕ × ℕ → ℕ) (kept : List EventAt) (nodes : (e : EventAt) → In kept e → (v : Value) × IsNode p.classes p.bytes e.node v) (keys : AreNewKeys p kept new)
    (renamed : AreRekeyedEntries new p q (firsts p kept) q.entries) (agree : AgreeOnUsed p q kept) where
  first_remains : (e : EntryAt) → In (firsts p kept) e → Remaining p s kept nodes e
  unfolding firsts
  first_remains e i = remains_used p s kept nodes e (first_among p (remain p kept) e i)

  remains_first : (e : EntryAt) → In (remain p kept) e → (f : EntryAt) × In (firsts p kept) f × (together p (pair_of f) (pair_of e) ≡ true)
  unfolding firsts
  remains_first e i = first_with p (remain p kept) e i

  -- An entry of the second chunk with the new key of a key is that of a first entry which is together with it.
  fellow : (t : ℕ × ℕ) (f : EntryAt) → Used p kept t → In q.entries f → pair_of f ≡ rekeyed_pair new t
      → (e : EntryAt) × Remaining p s kept nodes e × IsRekeyedEntry new p q e f × (together p (pair_of e) t ≡ true)
  fellow t f u i h = by_first (first (IsRekeyedEntry new p q) (firsts p kept) q.entries renamed f i)
    where
      by_first : (e : EntryAt) × In (firsts p kept) e × IsRekeyedEntry new p q e f → (e : EntryAt) × Remaining p s kept nodes e × IsRekeyedEntry new p q e f × (together p (pair_of e) t ≡ true)
      by_first (e, j, n) =
          let m = first_remains e j in
          let c : e.class ≡ t.0 = n.class ∙ ap (λ (z : ℕ × ℕ). z.0) h in
          let k : new (pair_of e) ≡ new t = n.key ∙ ap (λ (z : ℕ × ℕ). z.1) h in
          (e, m, n, (keys.groups (pair_of e) t m.used u c).0 k)

  -- If the first chunk has no entry in force, the second has none.
  none_there : (t : ℕ × ℕ) → Used p kept t → in_force p.entries t ≡ None → in_force q.entries (rekeyed_pair new t) ≡ None
  none_there t u h = by_force (in_force q.entries (rekeyed_pair new t)) refl
    where
      clash : (e : EntryAt) → Remaining p s kept nodes e → Alike p (pair_of e) t → ⊥
      clash e m (c, inl k) = let d : pair_of e ≡ t = pair_is (pair_of e) t c k in let x : in_force p.entries t ≡ Some e = subst (λ z. in_force p.entries z ≡ Some e) d m.is_forced in cc
      clash e m (c, inr w) = let x = w.there in cc

      by_fellow : (e : EntryAt) → Remaining p s kept nodes e → together p (pair_of e) t ≡ true → ⊥
      by_fellow e m w = clash e m (together_alike p (pair_of e) t w)

      by_found : (f : EntryAt) → Found q.entries (rekeyed_pair new t) → ⊥
      by_found f x = let e = fellow t x.entry u x.member x.has in by_fellow e.0 e.1 e.3

      by_force : (o : Option EntryAt) → in_force q.entries (rekeyed_pair new t) ≡ o → in_force q.entries (rekeyed_pair new t) ≡ None
      by_force None g = g
      by_force (Some f) g = absurd (by_found f (found q.entries (rekeyed_pair new t) f g))

  -- Entries in force of keys that are together have equal value bytes.
  equal_bytes : (t : ℕ × ℕ) (e d : EntryAt) → in_force p.entries t ≡ Some e → in_force p.entries (pair_of d) ≡ Some d → Alike p (pair_of d) t
      → node_bytes p.bytes (entry_node d) ≡ node_bytes p.bytes (entry_node e)
  equal_bytes t e d h m (c, inl k) =
      let x : in_force p.entries t ≡ Some d = subst (λ z. in_force p.entries z ≡ Some d) (pair_is (pair_of d) t c k) m in
      let y : d ≡ e = cc in
      ap (λ (z : EntryAt). node_bytes p.bytes (entry_node z)) y
  equal_bytes t e d h m (c, inr w) =
      let x : w.entry ≡ d = (let z = w.here in cc) in
      let y : w.other ≡ e = (let z = w.there in cc) in
      ap (λ (z : EntryAt). node_bytes p.bytes (entry_node z)) (sym x) ∙ (w.bytes ∙ ap (λ (z : EntryAt). node_bytes p.bytes (entry_node z)) y)

  -- If it has one, the second has one with new keys in its value.
  entry_changed : (t : ℕ × ℕ) (e d f : EntryAt) → Used p kept t → in_force p.entries t ≡ Some e → Remaining p s kept nodes d → IsRekeyedEntry new p q d f → Alike p (pair_of d) t
      → HasChangedValue (rekeying new) p q e f
  entry_changed t e d f u h m n a =
      let v = s.entries t e h in
      let c : e.class ≡ t.0 = (numbered p.entries t e h).class in
      let b : node_bytes p.bytes (entry_node d) ≡ node_bytes p.bytes (entry_node e) = equal_bytes t e d h m.is_forced a in
      let same : v.0 ≡ m.value = fits_once p.classes v.0 m.value s.sound v.1.fits m.node.fits (sym v.1.shape ∙ (ap inline (c ∙ sym a.0) ∙ m.node.shape)) (sym v.1.bytes ∙ (sym b ∙ m.node.bytes)) in
      record {
        class = (c ∙ sym a.0) ∙ n.class;
        agree = subst (Agree p.classes q.classes) (sym c) (agree t u);
        value =
            node_bytes_are new p.classes s.sound p.bytes (entry_node e) v.0 v.1 ∙ (ap (λ z. bytes_of (rekeyed new z)) same
            ∙ (sym (node_bytes_are new p.classes s.sound p.bytes (entry_node d) m.value m.node) ∙ n.value));
      }

  -- So the entry in force for a new key has the changed value.
  abbrev Changed : EntryAt → EntryAt → Type 0
  Changed = HasChangedValue (rekeying new) p q

  pub entries_changed : (t : ℕ × ℕ) → Used p kept t → Both Changed (in_force p.entries t) (in_force q.entries (rekeyed_pair new t))
  entries_changed t u = by_force (in_force p.entries t) refl
    where
      by_found : (e : EntryAt) → in_force p.entries t ≡ Some e → Found q.entries (rekeyed_pair new t) → Both Changed (Some e) (in_force q.entries (rekeyed_pair new t))
      by_found e h x =
          let d = fellow t x.entry u x.member x.has in
          subst (Both Changed (Some e)) (sym x.is_forced) (entry_changed t e d.0 x.entry u h d.1 d.2 (together_alike p (pair_of d.0) t d.3))

      by_first : (e : EntryAt) → in_force p.entries t ≡ Some e → (d : EntryAt) × In (firsts p kept) d × (together p (pair_of d) (pair_of e) ≡ true) → Found q.entries (rekeyed_pair new t)
      by_first e h (d, i, w) = by_fellow (second (IsRekeyedEntry new p q) (firsts p kept) q.entries renamed d i)
        where
          by_fellow : (f : EntryAt) × In q.entries f × IsRekeyedEntry new p q d f → Found q.entries (rekeyed_pair new t)
          by_fellow (f, j, n) =
              let m = first_remains d i in
              let k : pair_of e ≡ t = forced_pair p.entries t e h in
              let x : together p (pair_of d) t ≡ true = subst (λ z. together p (pair_of d) z ≡ true) k w in
              let c : d.class ≡ t.0 = (together_is p).class (pair_of d) t x in
              let y : new (pair_of d) ≡ new t = (keys.groups (pair_of d) t m.used u c).1 x in
              subst (Found q.entries) (pair_is (pair_of f) (rekeyed_pair new t) (sym n.class ∙ c) (sym n.key ∙ y)) (member_forced q.entries f j)

      by_force : (o : Option EntryAt) → in_force p.entries t ≡ o → Both Changed (in_force p.entries t) (in_force q.entries (rekeyed_pair new t))
      by_force None h = subst (λ z. Both Changed z (in_force q.entries (rekeyed_pair new t))) (sym h) (subst (Both Changed None) (sym (none_there t u h)) tt)
      by_force (Some e) h = subst (λ z. Both Changed z (in_force q.entries (rekeyed_pair new t))) (sym h) (by_found e h (by_first e h (remains_first e (used_remains p s kept nodes t e u h))))
