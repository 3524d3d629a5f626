-- Which keys are together: an equivalence, and what the first entries of groups are.
use Rattle.std.specs.Prelude.{◌≡◌, ◌⊎◌, ℕ, Bool, true, false, not, ◌||◌, ◌==◌, List, [], ◌∷◌, Option, Some, None}
use Rattle.std.specs.Cmp.{unsigned_Decides, first_so, second_so}
use Rattle.std.specs.Cmp.Derive.{both_true}
use Rattle.std.proofs.Common.{ap, refl, sym, ◌∙◌, subst, inl, inr}
use Rattle.std.proofs.lemmas.Bool.{or_left, or_right}
use Rattle.std.proofs.lemmas.Slice.Eq.{bytes_eq-Decides}
use Rattle.jfr_value.specs.Nodes.{node_bytes}
use Rattle.jfr_pool.specs.declared.entry.EntryAt.{EntryAt}
use Rattle.jfr_pool.specs.Entries.{in_force, entry_node}
use Rattle.jfr_chunk.specs.Parts.{Parts}
use Rattle.jfr_worklist.specs.Members.{In}
use Rattle.jfr_renumber.specs.Renumber.{together, equal_values, pair_of, firsts_of}
use Rattle.jfr_renumber.specs.Keys.{Together}
use Rattle.jfr_chunk.proofs.AllLaws.{in_filter}
use Rattle.jfr_laws.proofs.Listed.{passes_in}

-- Both have an entry in force, with equal value bytes.
pub record Twins (p : Parts) (t u : ℕ × ℕ) : Type 0 where
  pub entry : EntryAt
  pub other : EntryAt
  pub here : in_force p.entries t ≡ Some entry
  pub there : in_force p.entries u ≡ Some other
  pub bytes : node_bytes p.bytes (entry_node entry) ≡ node_bytes p.bytes (entry_node other)

-- Equal, or twins.
abbrev pub Alike : Parts → ℕ × ℕ → ℕ × ℕ → Type 0
Alike p t u = (t.0 ≡ u.0) × ((t.1 ≡ u.1) ⊎ Twins p t u)

pub pair_is : (t u : ℕ × ℕ) → t.0 ≡ u.0 → t.1 ≡ u.1 → t ≡ u
pair_is t u a b = ap (λ (z : ℕ). (z, t.1)) a ∙ ap (λ (z : ℕ). (u.0, z)) b

or_cases : (a b : Bool) → (a || b) ≡ true → (a ≡ true) ⊎ (b ≡ true)
or_cases true b e = inl refl
or_cases false b e = inr e

module _ (p : Parts) where
  twins_of : (t u : ℕ × ℕ) → equal_values p.bytes (in_force p.entries t) (in_force p.entries u) ≡ true → Twins p t u
  twins_of t u e = by_entries (in_force p.entries t) (in_force p.entries u) refl refl e
    where
      by_entries : (x y : Option EntryAt) → in_force p.entries t ≡ x → in_force p.entries u ≡ y → equal_values p.bytes x y ≡ true → Twins p t u
      by_entries None y a b e = cc
      by_entries (Some f) None a b e = cc
      by_entries (Some f) (Some g) a b e = record { entry = f; other = g; here = a; there = b; bytes = (bytes_eq-Decides (node_bytes p.bytes (entry_node f)) (node_bytes p.bytes (entry_node g))).0 e }

  of_twins : (t u : ℕ × ℕ) → Twins p t u → equal_values p.bytes (in_force p.entries t) (in_force p.entries u) ≡ true
  of_twins t u w =
      ap (λ x. equal_values p.bytes x (in_force p.entries u)) w.here
      ∙ (ap (equal_values p.bytes (Some w.entry)) w.there ∙ (bytes_eq-Decides (node_bytes p.bytes (entry_node w.entry)) (node_bytes p.bytes (entry_node w.other))).1 w.bytes)

  pub together_alike : (t u : ℕ × ℕ) → together p t u ≡ true → Alike p t u
  unfolding together
  together_alike t u e =
      let a : t.0 ≡ u.0 = (unsigned_Decides t.0 u.0).0 (first_so (t.0 == u.0) ((t.1 == u.1) || equal_values p.bytes (in_force p.entries t) (in_force p.entries u)) e) in (
        a,
        by_case (or_cases (t.1 == u.1) (equal_values p.bytes (in_force p.entries t) (in_force p.entries u))
            (second_so (t.0 == u.0) ((t.1 == u.1) || equal_values p.bytes (in_force p.entries t) (in_force p.entries u)) e)),
      )
    where
      by_case : ((t.1 == u.1) ≡ true) ⊎ (equal_values p.bytes (in_force p.entries t) (in_force p.entries u) ≡ true) → (t.1 ≡ u.1) ⊎ Twins p t u
      by_case (inl e) = inl ((unsigned_Decides t.1 u.1).0 e)
      by_case (inr e) = inr (twins_of t u e)

  pub alike_together : (t u : ℕ × ℕ) → Alike p t u → together p t u ≡ true
  unfolding together
  alike_together t u (a, c) = both_true ((unsigned_Decides t.0 u.0).1 a) (by_case c)
    where
      by_case : (t.1 ≡ u.1) ⊎ Twins p t u → ((t.1 == u.1) || equal_values p.bytes (in_force p.entries t) (in_force p.entries u)) ≡ true
      by_case (inl e) = or_left (t.1 == u.1) _ ((unsigned_Decides t.1 u.1).1 e)
      by_case (inr w) = or_right (t.1 == u.1) _ (of_twins t u w)

  alike_back : (t u : ℕ × ℕ) → Alike p t u → Alike p u t
  alike_back t u (a, inl e) = (sym a, inl (sym e))
  alike_back t u (a, inr w) = (sym a, inr (record { entry = w.other; other = w.entry; here = w.there; there = w.here; bytes = sym w.bytes }))

  alike_on : (t u v : ℕ × ℕ) → Alike p t u → Alike p u v → Alike p t v
  alike_on t u v (a, inl e) (b, c) = let q : u ≡ t = sym (pair_is t u a e) in subst (λ z. Alike p z v) q (b, c)
  alike_on t u v (a, inr w) (b, inl e) = let q : u ≡ v = pair_is u v b e in subst (λ z. Alike p t z) q (a, inr w)
  alike_on t u v (a, inr w) (b, inr x) =
      let q : w.other ≡ x.entry = (let h = w.there in let i = x.here in cc) in
      (a ∙ b, inr (record { entry = w.entry; other = x.other; here = w.here; there = x.there; bytes = w.bytes ∙ (ap (λ (z : EntryAt). node_bytes p.bytes (entry_node z)) q ∙ x.bytes) }))

  pub together_is : Together (together p)
  together_is = record {
    reflexive = λ t. alike_together t t (refl, inl refl);
    symmetric = λ t u e. alike_together u t (alike_back t u (together_alike t u e));
    transitive = λ t u v e f. alike_together t v (alike_on t u v (together_alike t u e) (together_alike u v f));
    class = λ t u e. (together_alike t u e).0;
  }

  -- A first entry is one of the entries.
  pub first_among : (es : List EntryAt) (e : EntryAt) → In (firsts_of p es) e → In es e
  first_among [] e i = absurd i
  first_among (f ∷ es) e (inl q) = inl q
  first_among (f ∷ es) e (inr i) = inr (first_among es e (in_filter (λ g. not (together p (pair_of f) (pair_of g))) (firsts_of p es) e i))

  -- Each entry is together with a first one.
  pub first_with : (es : List EntryAt) (e : EntryAt) → In es e → (f : EntryAt) × In (firsts_of p es) f × (together p (pair_of f) (pair_of e) ≡ true)
  first_with [] e i = absurd i
  first_with (f ∷ es) e (inl q) = (f, inl refl, subst (λ z. together p (pair_of f) (pair_of z) ≡ true) q (together_is.reflexive (pair_of f)))
  first_with (f ∷ es) e (inr i) = by_first (first_with es e i)
    where
      by_test : (g : EntryAt) → In (firsts_of p es) g → together p (pair_of g) (pair_of e) ≡ true → (b : Bool) → together p (pair_of f) (pair_of g) ≡ b
          → (h : EntryAt) × In (firsts_of p (f ∷ es)) h × (together p (pair_of h) (pair_of e) ≡ true)
      by_test g j w true t = (f, inl refl, together_is.transitive (pair_of f) (pair_of g) (pair_of e) t w)
      by_test g j w false t = (g, inr (passes_in (λ g. not (together p (pair_of f) (pair_of g))) (firsts_of p es) g j (ap not t)), w)

      by_first : (g : EntryAt) × In (firsts_of p es) g × (together p (pair_of g) (pair_of e) ≡ true) → (h : EntryAt) × In (firsts_of p (f ∷ es)) h × (together p (pair_of h) (pair_of e) ≡ true)
      by_first (g, j, w) = by_test g j w (together p (pair_of f) (pair_of g)) refl
