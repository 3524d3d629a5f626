-- The output of a scrub passes the checks with its own receipt.
use Rattle.std.specs.Prelude.{◌≡◌, ◌↔◌, ◌⊎◌, ℕ, Bool, true, false, List, [], ◌∷◌, filter, Option, Some, None, All, Contains, if◌then◌else◌}
use Rattle.std.specs.Option.{option_map_or}
use Rattle.std.proofs.Common.{ap, refl, sym, ◌∙◌, subst, inl, inr}
use Rattle.std.proofs.lemmas.List.Elements.{All-contains_itself, All-from_recursion}
use Rattle.jfr_frame.specs.Records.{record_bytes}
use Rattle.jfr_layout.specs.Classes.{Class}
use Rattle.jfr_layout.specs.Staying.{staying}
use Rattle.jfr_value.specs.Values.{Value}
use Rattle.jfr_value.specs.Nodes.{IsNode}
use Rattle.jfr_pool.specs.Entries.{IsInForce, number_in_force}
use Rattle.jfr_pool.specs.Laws.{IsLast}
use Rattle.jfr_pool.proofs.OneLaws.{last_is}
use Rattle.jfr_chunk.specs.Parts.{Parts, EventAt, events_of, AreParts}
use Rattle.jfr_worklist.specs.Marks.{IsMarked}
use Rattle.jfr_chunk.specs.Reach.{Reached, reached_marks, remain, kept_by, roots, next_entries}
use Rattle.jfr_chunk.specs.Laws.{SameRecords}
use Rattle.jfr_worklist.specs.Members.{In}
use Rattle.jfr_worklist.proofs.Members.{get_in, in_contains, all_from_get}
use Rattle.jfr_chunk.specs.Metas.{Names, new_metadata, stays_in}
use Rattle.jfr_worklist.proofs.SweepLaws.{root, more}
use Rattle.jfr_chunk.proofs.ReachedLaws.{reached_marked, path_reach, reach_path}
use Rattle.jfr_chunk.proofs.HasNodesLaws.{has_nodes}
use Rattle.jfr_laws.specs.Laws.{IsKept}
use Rattle.jfr_laws.proofs.Same.{chosen_events, event_of_chunk}
use Rattle.jfr_verify.specs.Receipts.{IsReceiptOf, receipt_of}
use Rattle.jfr_verify.specs.Checks.{HasClasses, contents, AreClosed}
use Rattle.jfr_verify.specs.Laws.{Passes, AllReached}

contents_of : (p q : Parts) (es fs : List EventAt) → SameRecords p q es fs → contents p es ≡ contents q fs
contents_of p q [] [] s = refl
contents_of p q [] (f ∷ fs) s = absurd s
contents_of p q (e ∷ es) [] s = absurd s
contents_of p q (e ∷ es) (f ∷ fs) s = pair e.record_of.type_id f.record_of.type_id (record_bytes p.bytes e.record_of) (record_bytes q.bytes f.record_of) (contents p es)
    (contents q fs) s.0.class s.0.bytes (contents_of p q es fs s.1)
  where
    one : ℕ → List ℕ → List (ℕ × List ℕ) → List (ℕ × List ℕ)
    one a xs rest = (a, xs) ∷ rest

    pair : (a b : ℕ) (xs ys : List ℕ) (r s : List (ℕ × List ℕ)) → a ≡ b → xs ≡ ys → r ≡ s → one a xs r ≡ one b ys s
    pair a b xs ys r s d e f = ap (λ z. one z xs r) d ∙ (ap (λ z. one b z r) e ∙ ap (one b ys) f)

all_of_members : {X : Type 0} (P : X → Type 0) (xs : List X) → ((x : X) → In xs x → P x) → All P xs
all_of_members {X = X} P xs f = All-from_recursion P xs (all_from_get P xs (λ i x e. f x (get_in xs i x e)))

in_filtered : {X : Type 0} (t : X → Bool) (xs : List X) (x : X) → In (filter t xs) x → In xs x
in_filtered t [] x i = absurd i
in_filtered t (y ∷ ys) x i = by_test (t y) i (in_filtered t ys x)
  where
    by_test : (b : Bool) → In (if b then y ∷ filter t ys else filter t ys) x → (In (filter t ys) x → In ys x) → (y ≡ x) ⊎ In ys x
    by_test true (inl e) f = inl e
    by_test true (inr j) f = inr (f j)
    by_test false j f = inr (f j)

-- The classes of the output are classes of the input.
has_left : (names : Names) (p : Parts) (kept : List EventAt) (o : Option (List ℕ)) → HasClasses p.classes (option_map_or (λ x. staying (stays_in names p kept) p.classes) o p.classes)
has_left names p kept None = All-contains_itself p.classes
has_left names p kept (Some x) = all_of_members (Contains p.classes) (staying (stays_in names p kept) p.classes)
    (λ c i. in_contains p.classes c (in_filtered (λ (d : Class). stays_in names p kept d.id) p.classes c i))

module _ (p : Parts) (a : AreParts p) (flags : List Bool) where
  abbrev kept : List EventAt
  kept = kept_by p flags

  abbrev marks : List Bool
  marks = reached_marks p kept

  kept_node : (e : EventAt) → In kept e → (v : Value) × IsNode p.classes p.bytes e.node v
  kept_node e i = let v = event_of_chunk p a kept (chosen_events p flags) e i in (v.value, v.node)

  marked_is : (i : ℕ) → Reached p kept i ↔ IsMarked marks i
  marked_is i = reached_marked p (has_nodes p a) kept kept_node i

  -- What is marked is in force.
  marked_in_force : (i : ℕ) → IsMarked marks i → IsInForce p.entries i
  marked_in_force i m =
      let r = (marked_is i).1 m in
      let l : IsLast p.entries r.key i = (last_is p.entries r.key i).0 r.in_force in
      record { entry = l.entry; holds = l.holds; last = ap (number_in_force p.entries) l.has ∙ r.in_force }

  -- The marks are closed.
  marks_closed : AreClosed p kept marks
  marks_closed = record {
    events = all_of_members (IsMarked marks) (roots p kept) (λ i h. (marked_is i).0 (reach_path p (has_nodes p a) kept kept_node (root h)));
    entries = λ n m. all_of_members (IsMarked marks) (next_entries p n)
        (λ i h. (marked_is i).0 (reach_path p (has_nodes p a) kept kept_node (more (path_reach p (has_nodes p a) kept kept_node n ((marked_is n).1 m)) h)));
  }

  pub kept_passes : (names : Names) (k : IsKept names p kept) → (AllReached k.parts → IsReceiptOf (receipt_of k.parts) k.parts) → Passes p k.parts kept (receipt_of k.parts)
  unfolding remain
  kept_passes names k s = record {
    classes = subst (HasClasses p.classes) (sym k.classes) (has_left names p kept (new_metadata names p kept));
    events = contents_of p k.parts kept (events_of k.parts) k.events;
    marks = marks;
    among = record { in_force = marked_in_force; copied = k.entries };
    closed = marks_closed;
    shown = s k.reached;
  }
