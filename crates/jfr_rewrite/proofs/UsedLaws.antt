-- The output uses the new keys of what the kept events meet, and its entries are reached.
use Rattle.std.specs.Prelude.{◌≡◌, ◌↔◌, ℕ, ◌<◌, Bool, List, length, Option, Some, None}
use Rattle.std.specs.Option.{option_map}
use Rattle.std.proofs.Common.{ap, refl, sym, ◌∙◌, subst}
use Rattle.jfr_value.specs.Nodes.{NodeAt, Both, target}
use Rattle.jfr_pool.specs.Entries.{number_in_force}
use Rattle.jfr_worklist.specs.Members.{In}
use Rattle.jfr_worklist.proofs.Members.{contains_in, in_contains}
use Rattle.jfr_chunk.specs.Laws.{AreEvents}
use Rattle.jfr_chunk.specs.Parts.{Parts, EventAt, AreParts}
use Rattle.jfr_chunk.specs.Paths.{leads}
use Rattle.jfr_chunk.specs.Reach.{Reached, Used, marked}
use Rattle.jfr_chunk.proofs.HasNodesLaws.{has_nodes}
use Rattle.jfr_laws.proofs.Entries.{marked_force}
use Rattle.jfr_laws.proofs.Marks.{rank, ranked}
use Rattle.jfr_rewrite.specs.Changed.{Change, KeepsFit}
use Rattle.jfr_rewrite.specs.Rewrite.{Rewrite}
use Rattle.jfr_rewrite.specs.Rewritten.{OneToOne, IsChangedEntry, IsChangedEvent}
use Rattle.jfr_rewrite.specs.Paths.{Held, MarksOnlyMet, Met, MetBy, MeetsChanged, Retargets, Stops, leads_but, root, target_but, with_key}
use Rattle.jfr_rewrite.proofs.OneToOneLaws.{first, same_count, second}
use Rattle.jfr_rewrite.proofs.InForce.{changed_force}
use Rattle.jfr_rewrite.proofs.PathLaws.{Paired, target_paired}
use Rattle.jfr_rewrite.proofs.MeaningLaws.{event_leads}

-- If one is there, so is the other.
both_some : {A B : Type 0} (R : A → B → Type 0) (x : Option A) (y : Option B) (a : A) → Both R x y → x ≡ Some a → (b : B) × (y ≡ Some b) × R a b
both_some R None None a r e = cc
both_some R (Some c) (Some b) a r e = let h : c ≡ a = cc in (b, refl, subst (λ z. R z b) h r)
both_some R None (Some c) a r e = absurd r
both_some R (Some c) None a r e = absurd r

some_both : {A B : Type 0} (R : A → B → Type 0) (x : Option A) (y : Option B) (b : B) → Both R x y → y ≡ Some b → (a : A) × (x ≡ Some a) × R a b
some_both R None None b r e = cc
some_both R (Some a) (Some c) b r e = let h : c ≡ b = cc in (a, refl, subst (R a) h r)
some_both R None (Some c) b r e = absurd r
some_both R (Some a) None b r e = absurd r

mapped : {A B : Type 0} (f : A → B) (x : Option A) (b : B) → option_map f x ≡ Some b → (a : A) × (x ≡ Some a) × (f a ≡ b)
mapped f None b e = cc
mapped f (Some a) b e = (a, refl, cc)

module _ (ch : Change) (key : ℕ × ℕ → ℕ) (stops : Stops) (p q : Parts) (kept others : List EventAt) (a : AreParts p) (b : AreParts q) (are : AreEvents p kept) (are_too : AreEvents q others)
    (keeps : KeepsFit p.classes ch) (targets : Retargets p.classes ch stops key) (met : MeetsChanged ch key stops p q kept) (events : OneToOne (IsChangedEvent ch p q) kept others) where
  target_there : (n : Held) (o : NodeAt) → Paired p q ch n o → target q.classes q.bytes o ≡ option_map (with_key key) (target_but stops p n)
  target_there n o r = target_paired p q ch (has_nodes p a).sound (has_nodes q b).sound stops key targets n o r

  used_there : (t : ℕ × ℕ) → Met stops p kept t → Used q others (with_key key t)
  used_there t m =
      let i : In kept m.event = contains_in kept m.event m.is_kept in
      let c = second (IsChangedEvent ch p q) kept others events m.event i in
      let r = event_leads ch key stops p q kept others a b are are_too keeps targets met m.event c.0 i c.1 c.2 m.path in
      let x = both_some (Paired p q ch) (leads_but stops p (root m.event.node) m.path) (leads q c.0.node m.path) m.node r m.leads_there in
      record {
        event = c.0;
        is_kept = in_contains others c.0 c.1;
        path = m.path;
        node = x.0;
        leads_there = x.1;
        refers = target_there m.node x.0 x.2 ∙ ap (option_map (with_key key)) m.refers;
      }

  met_there : (u : ℕ × ℕ) → Used q others u → MetBy key stops p kept u
  met_there u m =
      let i : In others m.event = contains_in others m.event m.is_kept in
      let c = first (IsChangedEvent ch p q) kept others events m.event i in
      let r = event_leads ch key stops p q kept others a b are are_too keeps targets met c.0 m.event c.1 i c.2 m.path in
      let x = some_both (Paired p q ch) (leads_but stops p (root c.0.node) m.path) (leads q m.event.node m.path) m.node r m.leads_there in
      let t = mapped (with_key key) (target_but stops p x.0) u (sym (target_there x.0 m.node x.2) ∙ m.refers) in
      (t.0, record { event = c.0; is_kept = in_contains kept c.0 c.1; path = m.path; node = x.0; leads_there = x.1; refers = t.1 }, t.2)

  pub used_is_met : (u : ℕ × ℕ) → Used q others u ↔ MetBy key stops p kept u
  used_is_met u = (met_there u, λ (t, m, e). subst (Used q others) e (used_there t m))

module _ (w : Rewrite) (stops : Stops) (p q : Parts) (kept others : List EventAt) (marks : List Bool) (same : (t : ℕ × ℕ) → w.key t ≡ t.1) (used : (u : ℕ × ℕ) → Used q others u ↔ MetBy w.key stops p kept u)
    (entries : OneToOne (IsChangedEntry w p q) (marked marks p.entries) q.entries) (reached : MarksOnlyMet stops p kept marks) where
  pub all_reached : (i : ℕ) → i < length q.entries → Reached q others i
  all_reached i h =
      let c : length (marked marks p.entries) ≡ length q.entries = same_count (IsChangedEntry w p q) (marked marks p.entries) q.entries entries in
      let r = ranked marks p.entries i (subst (λ z. i < z) (sym c) h) in
      let t = reached r.place r.is_marked in
      let u = (used t.0).1 (t.0, t.1, ap (λ z. (t.0.0, z)) (same t.0)) in
      let f : number_in_force q.entries t.0 ≡ Some (rank marks r.place) =
      sym (changed_force w p q same (marked marks p.entries) q.entries t.0 entries) ∙ marked_force marks p.entries t.0 r.place t.2 r.is_marked in
      record {
        event = u.event;
        is_kept = u.is_kept;
        path = u.path;
        node = u.node;
        leads_there = u.leads_there;
        key = t.0;
        refers = u.refers;
        in_force = f ∙ ap (λ z. Some z) r.number_is;
      }
