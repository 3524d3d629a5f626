-- The classes and keys that a chunk has noted, and those of its kept events.
use Rattle.std.specs.Prelude.{◌≡◌, ◌⊎◌, ℕ, Bool, true, false, ◌&&◌, List, [], ◌∷◌, map, filter, slice_get, unwrap_or, Option, Some, None, Result, Ok, Err, IfOk, Contains}
use Rattle.std.specs.List.{list_all}
use Rattle.std.specs.Option.{option_map}
use Rattle.std.proofs.Common.{ap, refl, sym, ◌∙◌, subst, inl, inr}
use Rattle.std.proofs.lemmas.Option.{slice_get-map, unwrap_or-slice_get}
use Rattle.std.specs.declared.vec.Vec.{Vec}
use Rattle.std.specs.declared.alloc.Global.{Global}
use Rattle.jfr_base.specs.declared.memory.NoMemory.{NoMemory}
use Rattle.jfr_value.specs.Nodes.{NodeAt, targets}
use Rattle.jfr_worklist.specs.Members.{In}
use Rattle.jfr_worklist.proofs.Members.{contains_in, in_contains, get_in}
use Rattle.jfr_chunk.specs.declared.missing.MissingRef.{MissingRef}
use Rattle.jfr_chunk.specs.Parts.{EventAt, Parts, events_of}
use Rattle.jfr_chunk.specs.Reach.{all_targets, kept_by, nodes_of}
use Rattle.jfr_chunk.specs.Missing.{AreMissing, is_missing, missing_by_event, node_missing, pair_of}
use Rattle.jfr_chunk.proofs.AllLaws.{in_filter}
use Rattle.jfr_laws.proofs.Listed.{in_map, in_passes, map_in, passes_in}
use Rattle.jfr_renumber.specs.Missing.{HoldsMissing, are_kept}
use Rattle.jfr_renumber.proofs.UsedLaws.{event_in, in_events, in_marked, in_nodes, marked_in, node_in}

all_pass : {X : Type 0} (test : X → Bool) (xs : List X) (x : X) → list_all test xs ≡ true → In xs x → test x ≡ true
all_pass test [] x a i = absurd i
all_pass {X = X} test (y ∷ ys) x a i = by_test (test y) refl a i (λ b j. all_pass test ys x b j)
  where
    by_test : (b : Bool) → test y ≡ b → (b && list_all test ys) ≡ true → (y ≡ x) ⊎ In ys x → (list_all test ys ≡ true → In ys x → test x ≡ true) → test x ≡ true
    by_test true q a (inl e) f = ap test (sym e) ∙ q
    by_test true q a (inr j) f = f a j
    by_test false q a j f = cc

mapped : {X Y : Type 0} (f : X → Y) (o : Option X) (y : Y) → option_map f o ≡ Some y → (x : X) × (o ≡ Some x) × (f x ≡ y)
mapped f None y e = cc
mapped f (Some x) y e = (x, refl, cc)

-- If the event of each noted reference is kept, they are the classes and keys of the kept events.
pub noted_kept : (p : Parts) (flags : List Bool) (refs : List MissingRef) (keys : List (ℕ × ℕ)) → AreMissing (missing_by_event p) refs → are_kept flags refs ≡ true → keys ≡ map pair_of refs
    → HoldsMissing p.entries (all_targets p (nodes_of (kept_by p flags))) keys
noted_kept p flags refs keys a k e = record {
  all = λ t c. all_by t (contains_in (filter missing (all_targets p (nodes_of kept))) t c);
  only = λ t c. only_by t (map_in pair_of refs t (subst (λ z. In z t) e (contains_in keys t c)));
}
  where
    kept : List EventAt
    kept = kept_by p flags

    missing : ℕ × ℕ → Bool
    missing = is_missing p.entries

    of_event : EventAt → List (ℕ × ℕ)
    of_event x = node_missing p.entries p.classes p.bytes x.node

    all_of : (t : ℕ × ℕ) (x : EventAt) (n : NodeAt) → In kept x → x.node ≡ n → In (targets p.classes p.bytes n) t → missing t ≡ true → Contains keys t
    all_of t x n i q j u =
        let m = in_marked flags (events_of p) x i in
        let r : In (targets p.classes p.bytes x.node) t = subst (λ z. In (targets p.classes p.bytes z) t) (sym q) j in
        let there : In (missing_by_event p) (of_event x) = in_map of_event (events_of p) x (get_in (events_of p) m.place x m.holds) in
        let w = a.all (of_event x) (in_contains (missing_by_event p) (of_event x) there) t (in_contains (of_event x) t (passes_in missing (targets p.classes p.bytes x.node) t r u)) in
        in_contains keys t (subst (λ z. In z t) (sym e) (subst (In (map pair_of refs)) w.2 (in_map pair_of refs w.0 (contains_in refs w.0 w.1))))

    all_by : (t : ℕ × ℕ) → In (filter missing (all_targets p (nodes_of kept))) t → Contains keys t
    all_by t i =
        let n = in_nodes p (nodes_of kept) t (in_filter missing (all_targets p (nodes_of kept)) t i) in
        let x = in_events kept n.0 n.1 in
        all_of t x.0 n.0 x.1 x.2 n.2 (in_passes missing (all_targets p (nodes_of kept)) t i)

    only_by : (t : ℕ × ℕ) → (m : MissingRef) × In refs m × (pair_of m ≡ t) → Contains (filter missing (all_targets p (nodes_of kept))) t
    only_by t (m, i, q) =
        let w = a.only m (in_contains refs m i) in
        let x = mapped of_event (slice_get (events_of p) m.event) w.0 (sym (slice_get-map of_event (events_of p) m.event) ∙ w.1) in
        let f = sym (unwrap_or-slice_get flags m.event false) ∙ all_pass (λ (m : MissingRef). unwrap_or (slice_get flags m.event) false) refs m k i in
        let j : In kept x.0 = marked_in flags (events_of p) x.0 m.event f x.1 in
        let s : In (of_event x.0) t = subst (In (of_event x.0)) q (subst (λ z. In z (pair_of m)) (sym x.2) (contains_in w.0 (pair_of m) w.2)) in
        let r : In (all_targets p (nodes_of kept)) t = node_in p (nodes_of kept) x.0.node t (event_in kept x.0 j) (in_filter missing (targets p.classes p.bytes x.0.node) t s) in
        in_contains (filter missing (all_targets p (nodes_of kept))) t (passes_in missing (all_targets p (nodes_of kept)) t r (in_passes missing (targets p.classes p.bytes x.0.node) t s))

-- The keys that were made of them, if memory was enough.
pub keys_noted : (p : Parts) (flags : List Bool) (refs : List MissingRef) (r : Result (Vec (ℕ × ℕ) Global) NoMemory) → AreMissing (missing_by_event p) refs → are_kept flags refs ≡ true
    → IfOk r (λ keys. keys.items ≡ map pair_of refs) → IfOk r (λ keys. HoldsMissing p.entries (all_targets p (nodes_of (kept_by p flags))) keys.items)
keys_noted p flags refs (Ok keys) a k e = noted_kept p flags refs keys.items a k e
keys_noted p flags refs (Err fault) a k e = tt
