-- Chains of inline steps, found for all classes at once, one step more in each round.
use Rattle.std.proofs.Common.{◌≡◌, ℕ, suc, ◌+◌, ◌<◌, ◌≤◌, List, [], ◌∷◌, ◌++◌, length, take, map, Some, None, Bool, true, false, ◌||◌, sym, ◌∙◌, ap, refl, replicate, arith}
use Rattle.std.specs.Prelude.{if◌then◌else◌}
use Rattle.std.specs.List.{slice_get, list_any}
use Rattle.std.specs.Option.{IfSome}
use Rattle.std.proofs.lemmas.List.{take_all, map-id, length-map}
use Rattle.std.proofs.lemmas.List.Folds.{list_any-append, list_any_at}
use Rattle.std.proofs.lemmas.Bool.{or_from}
use Rattle.std.proofs.lemmas.Option.{get_or_from_slice_get, slice_get_within}
use Rattle.jfr_base.specs.declared.reason.Reason.TheVariants.{InlineDeep}
use Rattle.jfr_layout.specs.declared.fault.ClassFault.TheVariants.{Flawed}
use Rattle.jfr_layout.specs.declared.kind.Kind.{Kind}
use Rattle.jfr_layout.specs.declared.kind.Kind.TheVariants.{Composite}
use Rattle.jfr_layout.specs.Classes.{Class, Classes, Field, ClassFlaw, IsFirstFlaw, flaw_if, deep, field_at, begins_chain, step_begins_chain, inline_fields, kind_of, is_composite}
use Rattle.jfr_layout.proofs.Lists.{present, take_next, map_next, mapped_at}
use Rattle.jfr_layout.proofs.Stages.{rest, stage_next, stage_tells, stage_none}
use Rattle.jfr_layout.proofs.Steps.{field_of}

-- No field before a number goes to a class with a flag.
pub record NoneGoes (k : Classes) (i : ℕ) (goes : List Bool) (n : ℕ) : Type 0 where
  pub none : (m : ℕ) → goes ≡ map (begins_chain m k) k → IfSome (slice_get k i) (λ c. list_any (step_begins_chain m k) (take n c.fields) ≡ false)

pub none_goes : (k : Classes) (i : ℕ) (c : Class) (goes : List Bool) → slice_get k i ≡ Some c → NoneGoes k i goes 0
none_goes k i c goes e = record { none = λ m g. rw e refl }

any_next : (m : ℕ) (k : Classes) (c : Class) (n : ℕ) (f : Field) → slice_get c.fields n ≡ Some f
    → list_any (step_begins_chain m k) (take (n + 1) c.fields) ≡ (list_any (step_begins_chain m k) (take n c.fields) || (step_begins_chain m k f || false))
any_next m k c n f e = ap (list_any (step_begins_chain m k)) (take_next c.fields n f e) ∙ list_any-append (step_begins_chain m k) (take n c.fields) (f ∷ [])

pub goes_next : (k : Classes) (i : ℕ) (c : Class) (goes : List Bool) (n : ℕ) (t : Bool) → slice_get k i ≡ Some c → NoneGoes k i goes n → n < length c.fields
    → ((m : ℕ) → goes ≡ map (begins_chain m k) k → IfSome (field_at k i n) (λ f. t ≡ step_begins_chain m k f)) → t ≡ false → NoneGoes k i goes (n + 1)
goes_next k i c goes n t e s l h u = record {
  none = λ m g. rw e (
      let f = present c.fields n l in
      let q : t ≡ step_begins_chain m k f.0 = rw (field_of k i n c f.0 e f.1) at (h m g) in
      any_next m k c n f.0 f.1 ∙ or_from (list_any (step_begins_chain m k) (take n c.fields)) (step_begins_chain m k f.0 || false) (rw e at (s.none m g))
      (or_from (step_begins_chain m k f.0) false (sym q ∙ u) refl));
}

-- A composite class inline has its fields.
kind_here : (k : Classes) (i : ℕ) (c : Class) (kind : Kind) → slice_get k i ≡ Some c → IfSome (slice_get k i) (λ (d : Class). kind ≡ kind_of d.name) → kind ≡ Composite → kind_of c.name ≡ Composite
kind_here k i c kind e h q = sym (rw e at h) ∙ q

inline_all : (c : Class) → kind_of c.name ≡ Composite → c.fields ≡ inline_fields c
inline_all c q = sym (ap (λ z. if is_composite z then c.fields else []) q)

pub goes_tell : (k : Classes) (i : ℕ) (c : Class) (kind : Kind) (goes : List Bool) (n : ℕ) (t : Bool) → slice_get k i ≡ Some c
    → IfSome (slice_get k i) (λ (d : Class). kind ≡ kind_of d.name) → kind ≡ Composite → n < length c.fields
    → ((m : ℕ) → goes ≡ map (begins_chain m k) k → IfSome (field_at k i n) (λ f. t ≡ step_begins_chain m k f)) → t ≡ true
    → (m : ℕ) → goes ≡ map (begins_chain m k) k → IfSome (slice_get k i) (λ d. true ≡ begins_chain (suc m) k d)
goes_tell k i c kind goes n t e h q l s u m g = rw e (
    let f = present c.fields n l in
    let r : t ≡ step_begins_chain m k f.0 = rw (field_of k i n c f.0 e f.1) at (s m g) in
    sym (list_any_at (step_begins_chain m k) c.fields n f.0 l (ap (step_begins_chain m k) (get_or_from_slice_get c.fields n f.0 f.0 f.1) ∙ (sym r ∙ u)))
    ∙ ap (list_any (step_begins_chain m k)) (inline_all c (kind_here k i c kind e h q)))

-- The flags of the classes before an index, one step more.
pub record Round (k : Classes) (goes : List Bool) (n : ℕ) (next : List Bool) : Type 0 where
  pub each : (m : ℕ) → goes ≡ map (begins_chain m k) k → next ≡ map (begins_chain (suc m) k) (take n k)

pub round_next : (k : Classes) (goes : List Bool) (n : ℕ) (next more : List Bool) (t : Bool) → Round k goes n next → n < length k
    → ((m : ℕ) → goes ≡ map (begins_chain m k) k → IfSome (slice_get k n) (λ c. t ≡ begins_chain (suc m) k c)) → more ≡ next ++ t ∷ [] → Round k goes (n + 1) more
round_next k goes n next more t s l h u = record {
  each = λ m g.
      let c = present k n l in
      let r : t ≡ begins_chain (suc m) k c.0 = rw c.1 at (h m g) in
      u ∙ (ap (λ ts. ts ++ t ∷ []) (s.each m g) ∙ (ap (λ b. map (begins_chain (suc m) k) (take n k) ++ b ∷ []) r ∙ sym (map_next (begins_chain (suc m) k) k n c.0 c.1)));
}

pub round_end : (k : Classes) (goes : List Bool) (n : ℕ) (next : List Bool) → Round k goes n next → length k ≤ n → (m : ℕ) → goes ≡ map (begins_chain m k) k → next ≡ map (begins_chain (suc m) k) k
round_end k goes n next s l m g = s.each m g ∙ ap (map (begins_chain (suc m) k)) (take_all n k l)

-- Each class begins a chain without steps.
pub all_go : (k m : Classes) → replicate (length k) true ≡ map (begins_chain 0 m) k
all_go [] m = refl
all_go (c ∷ k) m = ap (λ ts. true ∷ ts) (all_go k m)

-- What is found at a class.
abbrev pub found_deep : Classes → ℕ → Class → List ClassFlaw
found_deep k i c = flaw_if (begins_chain 33 k c) i None InlineDeep

-- The classes before an index begin no chain that is too long.
pub record Shallow (k : Classes) (n : ℕ) : Type 0 where
  pub left : deep k ≡ rest (found_deep k) k n

flag_at : (k : Classes) (goes : List Bool) (n : ℕ) (c : Class) (t : Bool) → goes ≡ map (begins_chain 33 k) k → slice_get k n ≡ Some c → slice_get goes n ≡ Some t → t ≡ begins_chain 33 k c
flag_at k goes n c t g e r = mapped_at (λ (b : Bool). b) (begins_chain 33 k) goes k n t c (map-id goes ∙ g) e (sym (get_or_from_slice_get goes n t t r))

flagged : (k : Classes) (goes : List Bool) (n : ℕ) (t : Bool) → goes ≡ map (begins_chain 33 k) k → slice_get goes n ≡ Some t → n < length k
flagged k goes n t g r = omega (arith, slice_get_within goes n t r, ap length g, length-map k (begins_chain 33 k))

pub shallow_next : (k : Classes) (goes : List Bool) (n : ℕ) (t : Bool) → goes ≡ map (begins_chain 33 k) k → Shallow k n → slice_get goes n ≡ Some t → t ≡ false → Shallow k (n + 1)
shallow_next k goes n t g s r u = let c = present k n (flagged k goes n t g r) in
    record { left = stage_next (found_deep k) k n c.0 (deep k) s.left c.1 (ap (λ b. flaw_if b n None InlineDeep) (sym (flag_at k goes n c.0 t g c.1 r) ∙ u)) }

pub shallow_tell : (k : Classes) (goes : List Bool) (n : ℕ) (t : Bool) → goes ≡ map (begins_chain 33 k) k → Shallow k n → slice_get goes n ≡ Some t → t ≡ true
    → IsFirstFlaw (deep k) (Flawed n None InlineDeep)
shallow_tell k goes n t g s r u = let c = present k n (flagged k goes n t g r) in
    stage_tells (found_deep k) k n c.0 (deep k) (Flawed n None InlineDeep) s.left c.1 (ap (λ b. slice_get (flaw_if b n None InlineDeep) 0) (sym (flag_at k goes n c.0 t g c.1 r) ∙ u))

pub shallow_end : (k : Classes) (n : ℕ) → Shallow k n → length k ≤ n → deep k ≡ []
shallow_end k n s l = stage_none (found_deep k) k n (deep k) s.left l
