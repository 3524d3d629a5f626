-- Where the keys of a value are spelled.
use Rattle.std.specs.Prelude.{◌≡◌, ℕ, zero, suc, ◌+◌, ◌-◌, ◌≤◌, ◌<◌, Bool, true, false, List, [], ◌∷◌, ◌++◌, length, map, Option, Some, None, Result, Ok, Err, IfOk, option_to_list, if◌then◌else◌}
use Rattle.std.specs.List.{AllByRecursion, cons_option, filter_map}
use Rattle.std.specs.Option.{option_map}
use Rattle.std.proofs.Common.{ap, arith, refl, sym, ◌∙◌, subst}
use Rattle.std.proofs.lemmas.List.{length-append}
use Rattle.std.proofs.lemmas.List.Elements.{filter_map-append}
use Rattle.jfr_base.specs.declared.flaw.Flaw.{Flaw}
use Rattle.jfr_base.specs.Integer.{worth_within}
use Rattle.jfr_base.proofs.Ranges.{range_length}
use Rattle.jfr_layout.specs.Classes.{Classes, Sound}
use Rattle.jfr_layout.specs.declared.shape.Shape.{Shape}
use Rattle.jfr_value.specs.declared.leaf.Holder.{Holder}
use Rattle.jfr_value.specs.declared.leaf.KeyAt.{KeyAt}
use Rattle.jfr_value.specs.declared.leaf.LeafKind.TheVariants as leaf_kinds
use Rattle.jfr_value.specs.Values.{Value, Values, Single, Group, Nil, Cons, bytes_of, bytes_of_all, Fits, AllFit}
use Rattle.jfr_value.specs.Nodes.{EndsAt, IsNode, NodeAt, node_at, targets}
use Rattle.jfr_value.specs.Leaves.{KeyIsSpelled, LeafAt, key_of_leaf, key_start, keys_at, keys_from, keys_in, leaf_key, leaf_target, leaves, leaves_at, leaves_from, part_holder}
use Rattle.jfr_value.specs.Visits.{TakesAll}
use Rattle.jfr_value.proofs.LeafKeys.{all_append, keys_spelled}
use Rattle.jfr_value.proofs.LeafLaws.{single_key}
use Rattle.jfr_value.proofs.TargetLaws.{leaves_are, refers_parts}
use Rattle.jfr_value.proofs.VisitLaws.{takes_filtered}

-- A leaf ends by this offset.
abbrev EndsBy : ℕ → LeafAt → Type 0
EndsBy limit l = l.at + length l.spelled ≤ limit

head_ends : (limit : ℕ) (h : Option Holder) (at : ℕ) (s : Shape) (head : List ℕ) → at + length head ≤ limit
    → AllByRecursion (EndsBy limit) (if s.array then record { kind = leaf_kinds.Count (worth_within 8 head); class = s.class; holder = h; at = at; spelled = head } ∷ [] else [])
head_ends limit h at s head l = by_mark s.array
  where
    by_mark : (t : Bool) → AllByRecursion (EndsBy limit) (if t then record { kind = leaf_kinds.Count (worth_within 8 head); class = s.class; holder = h; at = at; spelled = head } ∷ [] else [])
    by_mark true = (l, tt)
    by_mark false = tt

mutual
  value_ends : (limit : ℕ) (h : Option Holder) (at : ℕ) (v : Value) → at + length (bytes_of v) ≤ limit → AllByRecursion (EndsBy limit) (leaves_at h at v)
  value_ends limit h at (Single s kind b key) l = (l, tt)
  value_ends limit h at (Group s head vs) l =
      let e = length-append head (bytes_of_all vs) in
      all_append (EndsBy limit) (if s.array then record { kind = leaf_kinds.Count (worth_within 8 head); class = s.class; holder = h; at = at; spelled = head } ∷ [] else [])
      (leaves_from (part_holder s h) (at + length head) vs) (head_ends limit h at s head (omega (arith, l)))
      (values_end limit (part_holder s h) (at + length head) vs (omega (arith, l)))

  values_end : (limit : ℕ) (g : ℕ → Option Holder) (at : ℕ) (vs : Values) → at + length (bytes_of_all vs) ≤ limit → AllByRecursion (EndsBy limit) (leaves_from g at vs)
  values_end limit g at Nil l = tt
  values_end limit g at (Cons v vs) l =
      let e = length-append (bytes_of v) (bytes_of_all vs) in
      all_append (EndsBy limit) (leaves_at (g zero) at v) (leaves_from (λ n. g (suc n)) (at + length (bytes_of v)) vs)
      (value_ends limit (g zero) at v (omega (arith, l))) (values_end limit (λ n. g (suc n)) (at + length (bytes_of v)) vs (omega (arith, l)))

all_both : {X : Type 0} (P Q R : X → Type 0) (xs : List X) → ((x : X) → P x → Q x → R x) → AllByRecursion P xs → AllByRecursion Q xs → AllByRecursion R xs
all_both P Q R [] f a b = tt
all_both P Q R (x ∷ xs) f a b = (f x a.0 b.0, all_both P Q R xs f a.1 b.1)

-- Each leaf can be taken for its key.
pub keys_told : (k : Classes) (c : List ℕ) (n : NodeAt) (v : Value) (limit : ℕ) → Sound k → IsNode k c n v → length c < limit → AllByRecursion (λ l. KeyIsSpelled l × (l.at + length l.spelled < limit)) (leaves k c n)
keys_told k c n v limit sound i w =
    let b : length (bytes_of v) ≡ n.end - n.at = ap length (sym i.bytes) ∙ range_length c n.at n.end i.within in
    all_both KeyIsSpelled (EndsBy (length c)) (λ l. KeyIsSpelled l × (l.at + length l.spelled < limit)) (leaves k c n) (λ l s e. (s, omega (arith, e, w)))
    (keys_spelled k c n v sound i)
    (subst (AllByRecursion (EndsBy (length c))) (sym (leaves_are k sound c n v i)) (value_ends (length c) None n.at v (let o = i.order in let q = i.within in omega arith)))

-- The keys in a value are those of its leaves.
head_keyless : (g : Option Holder) (at : ℕ) (s : Shape) (h : List ℕ)
    → filter_map key_of_leaf (if s.array then record { kind = leaf_kinds.Count (worth_within 8 h); class = s.class; holder = g; at = at; spelled = h } ∷ [] else []) ≡ []
head_keyless g at s h = by_mark s.array
  where
    by_mark : (b : Bool) → filter_map key_of_leaf (if b then record { kind = leaf_kinds.Count (worth_within 8 h); class = s.class; holder = g; at = at; spelled = h } ∷ [] else []) ≡ []
    by_mark true = refl
    by_mark false = refl

alone : {X : Type 0} (o : Option X) → cons_option o [] ≡ option_to_list o
alone None = refl
alone (Some x) = refl

mutual
  leaf_keys : (k : Classes) (g : Option Holder) (at : ℕ) (v : Value) → Fits k v → filter_map key_of_leaf (leaves_at g at v) ≡ keys_at at v
  leaf_keys k g at (Single s kind b key) i =
      let told : ℕ → KeyAt = λ key. record { class = s.class; key = key; at = key_start kind at; end = at + length b } in
      ap (λ o. cons_option (option_map told o) []) (single_key k s kind b key i) ∙ alone (option_map told key)
  leaf_keys k g at (Group s h vs) i =
      filter_map-append key_of_leaf (if s.array then record { kind = leaf_kinds.Count (worth_within 8 h); class = s.class; holder = g; at = at; spelled = h } ∷ [] else [])
      (leaves_from (part_holder s g) (at + length h) vs)
      ∙ (ap (λ z. z ++ filter_map key_of_leaf (leaves_from (part_holder s g) (at + length h) vs)) (head_keyless g at s h) ∙ leaf_keys_from k (part_holder s g) (at + length h) vs i.1)

  leaf_keys_from : (k : Classes) (f : ℕ → Option Holder) (at : ℕ) (vs : Values) → AllFit k vs → filter_map key_of_leaf (leaves_from f at vs) ≡ keys_from at vs
  leaf_keys_from k f at Nil i = refl
  leaf_keys_from k f at (Cons v vs) i =
      filter_map-append key_of_leaf (leaves_at (f zero) at v) (leaves_from (λ n. f (suc n)) (at + length (bytes_of v)) vs)
      ∙ (ap (λ z. z ++ filter_map key_of_leaf (leaves_from (λ n. f (suc n)) (at + length (bytes_of v)) vs)) (leaf_keys k (f zero) at v i.0)
      ∙ ap (λ z. keys_at at v ++ z) (leaf_keys_from k (λ n. f (suc n)) (at + length (bytes_of v)) vs i.1))

pub keys_in_are : (k : Classes) (c : List ℕ) (n : NodeAt) (v : Value) → Sound k → IsNode k c n v → keys_in k c n ≡ keys_at n.at v
keys_in_are k c n v sound i = ap (filter_map key_of_leaf) (leaves_are k sound c n v i) ∙ leaf_keys k None n.at v i.fits

-- A key's class and value.
abbrev pub pair_of : KeyAt → ℕ × ℕ
pair_of key = (key.class, key.key)

pairs_told : (xs : List LeafAt) → map pair_of (filter_map key_of_leaf xs) ≡ filter_map leaf_target xs
pairs_told [] = refl
pairs_told (l ∷ ls) = by_key (leaf_key l.kind l.spelled) ∙ ap (cons_option (leaf_target l)) (pairs_told ls)
  where
    by_key : (o : Option ℕ) → map pair_of (cons_option (option_map (λ key. record { class = l.class; key = key; at = key_start l.kind l.at; end = l.at + length l.spelled }) o) (filter_map key_of_leaf ls))
        ≡ cons_option (option_map (λ key. (l.class, key)) o) (map pair_of (filter_map key_of_leaf ls))
    by_key None = refl
    by_key (Some key) = refl

takes_mapped : {A X Y : Type 0} (takes : Y → A → A → Type 0) (f : X → Y) (xs : List X) (old new : A) → TakesAll (λ x. takes (f x)) xs old new → TakesAll takes (map f xs) old new
takes_mapped takes f [] old new h = h
takes_mapped takes f (x ∷ xs) old new h = (h.0, h.1, takes_mapped takes f xs h.0 new h.2)

-- What is taken for the keys in a node is taken for its targets.
pub takes_targets : {A : Type 0} (takes : ℕ × ℕ → A → A → Type 0) (k : Classes) (c : List ℕ) (n : NodeAt) (v : Value) (old new : A) → Sound k → IsNode k c n v
    → TakesAll (λ key. takes (pair_of key)) (keys_in k c n) old new → TakesAll takes (targets k c n) old new
takes_targets takes k c n v old new sound i h =
    subst (λ z. TakesAll takes z old new) (pairs_told (leaves k c n) ∙ (refers_parts k sound c n v i).leaves_too) (takes_mapped takes pair_of (keys_in k c n) old new h)

pub answer_targets : {A : Type 0} (takes : ℕ × ℕ → A → A → Type 0) (k : Classes) (c : List ℕ) (s : Shape) (at end : ℕ) (old new : A) → Sound k → (r : Result ℕ Flaw)
    → IfOk r (λ to. EndsAt k c s at to × (to ≤ end)) → IfOk r (λ to. TakesAll (λ key. takes (pair_of key)) (keys_in k c (node_at s at to)) old new)
    → IfOk r (λ to. TakesAll takes (targets k c (node_at s at to)) old new)
answer_targets takes k c s at end old new sound (Ok to) there h = takes_targets takes k c (node_at s at to) there.0.0 old new sound there.0.1 h
answer_targets takes k c s at end old new sound (Err w) there h = tt

-- What is taken for the keys of leaves is taken for what the leaves refer to.
pub takes_pairs : {A : Type 0} (takes : ℕ × ℕ → A → A → Type 0) (ls : List LeafAt) (old new : A) → TakesAll (λ l. TakesAll (λ key. takes (pair_of key)) (option_to_list (key_of_leaf l))) ls old new
    → TakesAll takes (filter_map leaf_target ls) old new
takes_pairs takes ls old new h =
    subst (λ z. TakesAll takes z old new) (pairs_told ls)
    (takes_mapped takes pair_of (filter_map key_of_leaf ls) old new (takes_filtered (λ key. takes (pair_of key)) key_of_leaf ls old new h))
