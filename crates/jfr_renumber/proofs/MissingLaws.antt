-- What is listed of nodes.
use Rattle.std.specs.Prelude.{◌≡◌, ℕ, zero, suc, ◌+◌, ◌<◌, ◌≤◌, Bool, true, false, List, [], ◌∷◌, ◌++◌, length, map, filter, take, slice_get, Option, Some, None, option_to_list, option_and_then, Contains, ◌⊎◌, if◌then◌else◌}
use Rattle.std.specs.Option.{option_map}
use Rattle.std.proofs.Common.{ap, arith, refl, sym, ◌∙◌, subst, append_assoc, append-nil, inl, inr}
use Rattle.std.proofs.lemmas.List.{map-append, take_all}
use Rattle.std.proofs.lemmas.Option.{slice_get-get_or}
use Rattle.std.proofs.lemmas.List.Elements.{filter-append}
use Rattle.jfr_layout.specs.Classes.{Classes}
use Rattle.jfr_value.specs.Nodes.{NodeAt, targets}
use Rattle.jfr_value.specs.Visits.{TakesAll}
use Rattle.jfr_pool.specs.declared.entry.EntryAt.{EntryAt}
use Rattle.jfr_pool.specs.Entries.{entry_node}
use Rattle.jfr_chunk.specs.Parts.{Parts, EventAt, events_of}
use Rattle.jfr_worklist.specs.Marks.{is_marked}
use Rattle.jfr_worklist.specs.Members.{In}
use Rattle.jfr_worklist.proofs.Members.{contains_in, in_contains, in_left, in_right, in_cases}
use Rattle.jfr_chunk.specs.Reach.{all_targets, kept_by, marked, nodes_of, reached_marks, remain}
use Rattle.jfr_renumber.specs.declared.missing.Missing.{Missing}
use Rattle.jfr_chunk.specs.Missing.{is_missing}
use Rattle.jfr_renumber.specs.Missing.{HoldsMissing, Lists, flagged}
use Rattle.jfr_renumber.proofs.Fewer.{marked_none}
use Rattle.jfr_renumber.specs.Renumber.{used_keys}

lists_none : (es : List EntryAt) (list : Missing) → Lists es [] list list
lists_none es list = record { memory = λ e. e; grows = λ e t c. c; added = λ e t c. absurd (contains_in [] t c); only = λ e t c. inl c }

lists_more : (es : List EntryAt) (ts us : List (ℕ × ℕ)) (a b c : Missing) → Lists es ts a b → Lists es us b c → Lists es (ts ++ us) a c
lists_more es ts us a b c x y = record {
  memory = λ e. x.memory (y.memory e);
  grows = λ e t i. y.grows e t (x.grows (y.memory e) t i);
  added = λ e t i. added_by e t (in_cases (filter (is_missing es) ts) (filter (is_missing es) us) t (subst (λ z. In z t) both (contains_in (filter (is_missing es) (ts ++ us)) t i)));
  only = λ e t i. only_by e t (y.only e t i);
}
  where
    both : filter (is_missing es) (ts ++ us) ≡ (filter (is_missing es) ts) ++ (filter (is_missing es) us)
    both = filter-append (is_missing es) ts us

    added_by : c.failed ≡ false → (t : ℕ × ℕ) → In (filter (is_missing es) ts) t ⊎ In (filter (is_missing es) us) t → Contains c.keys.items t
    added_by e t (inl i) = y.grows e t (x.added (y.memory e) t (in_contains (filter (is_missing es) ts) t i))
    added_by e t (inr i) = y.added e t (in_contains (filter (is_missing es) us) t i)

    there : (t : ℕ × ℕ) → In ((filter (is_missing es) ts) ++ (filter (is_missing es) us)) t → Contains (filter (is_missing es) (ts ++ us)) t
    there t i = subst (λ z. Contains z t) (sym both) (in_contains ((filter (is_missing es) ts) ++ (filter (is_missing es) us)) t i)

    first_by : (t : ℕ × ℕ) → Contains a.keys.items t ⊎ Contains (filter (is_missing es) ts) t → Contains a.keys.items t ⊎ Contains (filter (is_missing es) (ts ++ us)) t
    first_by t (inl i) = inl i
    first_by t (inr i) = inr (there t (in_left (filter (is_missing es) ts) (filter (is_missing es) us) t (contains_in (filter (is_missing es) ts) t i)))

    only_by : c.failed ≡ false → (t : ℕ × ℕ) → Contains b.keys.items t ⊎ Contains (filter (is_missing es) us) t → Contains a.keys.items t ⊎ Contains (filter (is_missing es) (ts ++ us)) t
    only_by e t (inl i) = first_by t (x.only (y.memory e) t i)
    only_by e t (inr i) = inr (there t (in_right (filter (is_missing es) ts) (filter (is_missing es) us) t (contains_in (filter (is_missing es) us) t i)))

-- What a visit takes is listed.
pub lists_all : (es : List EntryAt) (ts : List (ℕ × ℕ)) (a b : Missing) → TakesAll (λ t old new. Lists es (t ∷ []) old new) ts a b → Lists es ts a b
lists_all es [] a b h = subst (Lists es [] a) h (lists_none es a)
lists_all es (t ∷ ts) a b h = lists_more es (t ∷ []) ts a h.0 b h.1 (lists_all es ts h.0 b h.2)

pub flagged_is : {X : Type 0} (flags : List Bool) (xs : List X) (n : ℕ) (x : X) → slice_get flags n ≡ Some true → slice_get xs n ≡ Some x → option_to_list (flagged flags xs n) ≡ x ∷ []
flagged_is flags xs n x e f = ap (λ o. option_to_list (option_and_then (λ keep. if keep then slice_get xs n else None) o)) e ∙ ap option_to_list f

pub flagged_not : {X : Type 0} (flags : List Bool) (xs : List X) (n : ℕ) → slice_get flags n ≡ Some false → option_to_list (flagged flags xs n) ≡ []
flagged_not flags xs n e = ap (λ o. option_to_list (option_and_then (λ keep. if keep then slice_get xs n else None) o)) e

pub entry_unlisted : (p : Parts) (flags : List Bool) (n : ℕ) (list : Missing) → slice_get flags n ≡ Some false
    → Lists p.entries (all_targets p (map entry_node (option_to_list (flagged flags p.entries n)))) list list
entry_unlisted p flags n list e = subst (λ z. Lists p.entries (all_targets p (map entry_node z)) list list) (sym (flagged_not flags p.entries n e)) (lists_none p.entries list)

-- A flag that is there.
pub flag_there : (flags : List Bool) (n : ℕ) (t : Bool) → n < length flags → is_marked flags n ≡ t → slice_get flags n ≡ Some t
flag_there flags n t h e = slice_get-get_or flags n false h ∙ ap (λ z. Some z) e

pub node_listed : (p : Parts) (ns : List NodeAt) (n : NodeAt) (es : List EntryAt) (k : Classes) (c : List ℕ) (a b : Missing) → ns ≡ n ∷ [] → es ≡ p.entries → k ≡ p.classes → c ≡ p.bytes
    → TakesAll (λ t old new. Lists es (t ∷ []) old new) (targets k c n) a b → Lists p.entries (all_targets p ns) a b
node_listed p ns n es k c a b i e f g h =
    let x : Lists p.entries (targets k c n) a b = subst (λ z. Lists z (targets k c n) a b) e (lists_all es (targets k c n) a b h) in
    let y : targets k c n ≡ all_targets p ns = ap (λ z. targets z c n) f ∙ (ap (λ z. targets p.classes z n) g ∙ (sym (append-nil (targets p.classes p.bytes n)) ∙ ap (all_targets p) (sym i))) in
    subst (λ z. Lists p.entries z a b) y x

pub event_listed : (p : Parts) (flags : List Bool) (n : ℕ) (e : EventAt) (es : List EntryAt) (k : Classes) (c : List ℕ) (a b : Missing) → slice_get flags n ≡ Some true
    → slice_get (events_of p) n ≡ Some e → es ≡ p.entries → k ≡ p.classes → c ≡ p.bytes
    → TakesAll (λ t old new. Lists es (t ∷ []) old new) (targets k c e.node) a b → Lists p.entries (all_targets p (nodes_of (option_to_list (flagged flags (events_of p) n)))) a b
event_listed p flags n e es k c a b t g i j l h =
    node_listed p (nodes_of (option_to_list (flagged flags (events_of p) n))) e.node es k c a b (ap nodes_of (flagged_is flags (events_of p) n e t g)) i j l h

pub entry_listed : (p : Parts) (flags : List Bool) (n : ℕ) (e : EntryAt) (es : List EntryAt) (k : Classes) (c : List ℕ) (a b : Missing) → slice_get flags n ≡ Some true → slice_get p.entries n ≡ Some e
    → es ≡ p.entries → k ≡ p.classes → c ≡ p.bytes
    → TakesAll (λ t old new. Lists es (t ∷ []) old new) (targets k c (entry_node e)) a b → Lists p.entries (all_targets p (map entry_node (option_to_list (flagged flags p.entries n)))) a b
entry_listed p flags n e es k c a b t g i j l h =
    node_listed p (map entry_node (option_to_list (flagged flags p.entries n))) (entry_node e) es k c a b (ap (map entry_node) (flagged_is flags p.entries n e t g)) i j l h

-- Those up to a number, and the next.
flagged_none : {X : Type 0} (flags : List Bool) (n : ℕ) → flagged {X = X} flags [] n ≡ None
flagged_none [] n = refl
flagged_none (true ∷ flags) zero = refl
flagged_none (false ∷ flags) zero = refl
flagged_none (f ∷ flags) (suc n) = flagged_none flags n

pub marked_up : {X : Type 0} (flags : List Bool) (xs : List X) (n : ℕ) → n < length flags → marked (take (n + 1) flags) xs ≡ marked (take n flags) xs ++ option_to_list (flagged flags xs n)
marked_up flags [] n h = marked_none (take (n + 1) flags) ∙ sym (ap (λ z. z ++ option_to_list (flagged flags [] n)) (marked_none (take n flags)) ∙ ap option_to_list (flagged_none flags n))
marked_up [] (x ∷ xs) n h = absurd (omega (arith, h))
marked_up (true ∷ flags) (x ∷ xs) zero h = refl
marked_up (false ∷ flags) (x ∷ xs) zero h = refl
marked_up (true ∷ flags) (x ∷ xs) (suc n) h = let q : suc n + 1 ≡ suc (n + 1) =
    omega arith in ap (λ m. marked (take m (true ∷ flags)) (x ∷ xs)) q ∙ ap (λ z. x ∷ z) (marked_up flags xs n (omega (arith, h)))
marked_up (false ∷ flags) (x ∷ xs) (suc n) h = let q : suc n + 1 ≡ suc (n + 1) = omega arith in ap (λ m. marked (take m (false ∷ flags)) (x ∷ xs)) q ∙ marked_up flags xs n (omega (arith, h))

targets_append : (p : Parts) (ns ms : List NodeAt) → all_targets p (ns ++ ms) ≡ all_targets p ns ++ all_targets p ms
targets_append p [] ms = refl
targets_append p (n ∷ ns) ms = ap (λ z. targets p.classes p.bytes n ++ z) (targets_append p ns ms) ∙ sym (append_assoc (targets p.classes p.bytes n) (all_targets p ns) (all_targets p ms))

nodes_append : (es fs : List EventAt) → nodes_of (es ++ fs) ≡ nodes_of es ++ nodes_of fs
nodes_append [] fs = refl
nodes_append (e ∷ es) fs = ap (λ z. e.node ∷ z) (nodes_append es fs)

-- Unless it failed, the list holds what is missing of these, and nothing else.
abbrev pub Holds : Parts → List (ℕ × ℕ) → Missing → Type 0
Holds p ts list = list.failed ≡ false → HoldsMissing p.entries ts list.keys.items

holds_more : (p : Parts) (ts us : List (ℕ × ℕ)) (a b : Missing) → Holds p ts a → Lists p.entries us a b → Holds p (ts ++ us) b
holds_more p ts us a b h l = λ e. record {
  all = λ t c. all_by e t (in_cases (filter (is_missing p.entries) ts) (filter (is_missing p.entries) us) t (subst (λ z. In z t) both (contains_in (filter (is_missing p.entries) (ts ++ us)) t c)));
  only = λ t c. only_by e t (l.only e t c);
}
  where
    both : filter (is_missing p.entries) (ts ++ us) ≡ (filter (is_missing p.entries) ts) ++ (filter (is_missing p.entries) us)
    both = filter-append (is_missing p.entries) ts us

    all_by : b.failed ≡ false → (t : ℕ × ℕ) → In (filter (is_missing p.entries) ts) t ⊎ In (filter (is_missing p.entries) us) t → Contains b.keys.items t
    all_by e t (inl i) = l.grows e t ((h (l.memory e)).all t (in_contains (filter (is_missing p.entries) ts) t i))
    all_by e t (inr i) = l.added e t (in_contains (filter (is_missing p.entries) us) t i)

    there : (t : ℕ × ℕ) → In ((filter (is_missing p.entries) ts) ++ (filter (is_missing p.entries) us)) t → Contains (filter (is_missing p.entries) (ts ++ us)) t
    there t i = subst (λ z. Contains z t) (sym both) (in_contains ((filter (is_missing p.entries) ts) ++ (filter (is_missing p.entries) us)) t i)

    only_by : b.failed ≡ false → (t : ℕ × ℕ) → Contains a.keys.items t ⊎ Contains (filter (is_missing p.entries) us) t → Contains (filter (is_missing p.entries) (ts ++ us)) t
    only_by e t (inl i) = there t (in_left (filter (is_missing p.entries) ts) (filter (is_missing p.entries) us) t (contains_in (filter (is_missing p.entries) ts) t ((h (l.memory e)).only t i)))
    only_by e t (inr i) = there t (in_right (filter (is_missing p.entries) ts) (filter (is_missing p.entries) us) t (contains_in (filter (is_missing p.entries) us) t i))

pub event_next : (p : Parts) (flags : List Bool) (n : ℕ) (a b : Missing) → n < length flags → Holds p (all_targets p (nodes_of (marked (take n flags) (events_of p)))) a
    → Lists p.entries (all_targets p (nodes_of (option_to_list (flagged flags (events_of p) n)))) a b → Holds p (all_targets p (nodes_of (marked (take (n + 1) flags) (events_of p)))) b
event_next p flags n a b w h l =
    let these : List EventAt = marked (take n flags) (events_of p) in
    let next : List EventAt = option_to_list (flagged flags (events_of p) n) in
    let e : all_targets p (nodes_of (marked (take (n + 1) flags) (events_of p))) ≡ all_targets p (nodes_of these) ++ all_targets p (nodes_of next) =
    ap (λ z. all_targets p (nodes_of z)) (marked_up flags (events_of p) n w) ∙ (ap (all_targets p) (nodes_append these next) ∙ targets_append p (nodes_of these) (nodes_of next)) in
    subst (λ z. Holds p z b) (sym e) (holds_more p (all_targets p (nodes_of these)) (all_targets p (nodes_of next)) a b h l)

-- When all events were seen.
pub events_listed : (p : Parts) (flags : List Bool) (n : ℕ) (list : Missing) → length flags ≤ n → Holds p (all_targets p (nodes_of (marked (take n flags) (events_of p)))) list
    → Holds p (all_targets p (nodes_of (kept_by p flags))) list
events_listed p flags n list w h = subst (λ z. Holds p (all_targets p (nodes_of (marked z (events_of p)))) list) (take_all n flags w) h

-- Before the entries are seen.
pub entries_begun : (p : Parts) (ns : List NodeAt) (keys : List (ℕ × ℕ)) → HoldsMissing p.entries (all_targets p ns) keys → HoldsMissing p.entries (all_targets p (ns ++ [])) keys
entries_begun p ns keys h = subst (λ z. HoldsMissing p.entries (all_targets p z) keys) (sym (append-nil ns)) h

pub entry_next : (p : Parts) (ns : List NodeAt) (flags : List Bool) (n : ℕ) (a b : Missing) → n < length flags → Holds p (all_targets p (ns ++ map entry_node (marked (take n flags) p.entries))) a
    → Lists p.entries (all_targets p (map entry_node (option_to_list (flagged flags p.entries n)))) a b → Holds p (all_targets p (ns ++ map entry_node (marked (take (n + 1) flags) p.entries))) b
entry_next p ns flags n a b w h l =
    let these : List EntryAt = marked (take n flags) p.entries in
    let next : List EntryAt = option_to_list (flagged flags p.entries n) in
    let e : all_targets p (ns ++ map entry_node (marked (take (n + 1) flags) p.entries)) ≡ all_targets p (ns ++ map entry_node these) ++ all_targets p (map entry_node next) =
    ap (λ z. all_targets p (ns ++ map entry_node z)) (marked_up flags p.entries n w)
    ∙ (ap (λ z. all_targets p (ns ++ z)) (map-append entry_node these next)
    ∙ (ap (all_targets p) (sym (append_assoc ns (map entry_node these) (map entry_node next)))
    ∙ targets_append p (ns ++ map entry_node these) (map entry_node next))) in
    subst (λ z. Holds p z b) (sym e) (holds_more p (all_targets p (ns ++ map entry_node these)) (all_targets p (map entry_node next)) a b h l)

-- When all events and entries were seen.
pub all_listed : (p : Parts) (flags marks : List Bool) (n : ℕ) (list : Missing) → marks ≡ reached_marks p (kept_by p flags) → length marks ≤ n
    → Holds p (all_targets p (nodes_of (kept_by p flags) ++ map entry_node (marked (take n marks) p.entries))) list
    → Holds p (used_keys p (kept_by p flags)) list
unfolding used_keys remain
all_listed p flags marks n list e w h =
    subst (λ z. Holds p (all_targets p (nodes_of (kept_by p flags) ++ map entry_node (marked z p.entries))) list) (take_all n marks w ∙ e) h

entry_there : (o : Option EntryAt) (n : NodeAt) → Some n ≡ option_map entry_node o → (e : EntryAt) × (o ≡ Some e) × (n ≡ entry_node e)
entry_there None n h = cc
entry_there (Some e) n h = (e, refl, cc)

pub entry_listed_at : (p : Parts) (flags : List Bool) (i : ℕ) (n : NodeAt) (es : List EntryAt) (k : Classes) (c : List ℕ) (a b : Missing) → slice_get flags i ≡ Some true
    → Some n ≡ option_map entry_node (slice_get p.entries i) → es ≡ p.entries → k ≡ p.classes → c ≡ p.bytes
    → TakesAll (λ t old new. Lists es (t ∷ []) old new) (targets k c n) a b → Lists p.entries (all_targets p (map entry_node (option_to_list (flagged flags p.entries i)))) a b
entry_listed_at p flags i n es k c a b t g e f j h =
    let r = entry_there (slice_get p.entries i) n g in
    entry_listed p flags i r.0 es k c a b t r.1 e f j (subst (λ z. TakesAll (λ t old new. Lists es (t ∷ []) old new) (targets k c z) a b) r.2 h)
