-- The text of a value in a role is that of each reference to the same entry, and is made from its fields.
use Rattle.std.specs.Prelude.{◌≡◌, ◌<◌, ◌-◌, ◌+◌, ℕ, zero, suc, Bool, false, true, List, [], ◌∷◌, ◌++◌, codes, flat_map, length, Option, None, Some, Result, Ok, Err, OnErr, option_and_then, replicate, slice_get, slice_set, String, string_bytes, if◌then◌else◌}
use Rattle.std.specs.declared.alloc.Global.{Global}
use Rattle.std.specs.Option.{option_map, option_map_or}
use Rattle.std.proofs.Common.{ap, arith, refl, subst, sym, ◌∙◌}
use Rattle.std.proofs.lemmas.List.{length-append, length-map, length-replicate, map-append, map-set}
use Rattle.jfr_value.specs.Nodes.{NodeAt}
use Rattle.jfr_pool.specs.Entries.{entry_node}
use Rattle.jfr_chunk.specs.Parts.{Parts}
use Rattle.jfr_chunk.specs.Paths.{is_reference, named_field, named_node, text_of}
use Rattle.jfr_path.proofs.FollowLaws.{followed}
use Rattle.jfr_stacks.specs.Frames.{after_references, entry_number}
use Rattle.jfr_stacks.specs.Cached.{AreIndices, sized, text_at, texts_at}
use Rattle.jfr_stacks.specs.declared.role.Role.{Role}
use Rattle.jfr_stacks.specs.declared.role.Role.TheVariants.{Frame, Method, Class, Name}
use Rattle.jfr_stacks.specs.declared.texts.RoleTexts.{RoleTexts}
use Rattle.jfr_stacks.specs.Roles.{AreEntryTexts, AreRoleTexts, IsEntryText, of_role, own_name, referred, role_text, type_name}
use Rattle.jfr_stacks.specs.Texts.{escaped, frame_text, name_text}
use Rattle.jfr_stacks.proofs.TextLaws.{entry_followed, leads_to, there}

-- How many roles may follow.
abbrev pub rank : Role → ℕ
rank Frame = 3
rank Method = 2
rank Class = 1
rank Name = 0

-- A value that refers to an entry is a reference to it.
record Reference (p : Parts) (n : NodeAt) (number : ℕ) : Type 0 where
  reference : is_reference n ≡ true
  entry : entry_number p n ≡ Some number

reference_in : (p : Parts) (n : NodeAt) (number : ℕ) → referred p n ≡ Some number → Reference p n number
reference_in p n number e = by_test (is_reference n) refl e
  where
    by_test : (b : Bool) → is_reference n ≡ b → (if b then entry_number p n else None) ≡ Some number → Reference p n number
    by_test true t e = record { reference = t; entry = e }
    by_test false t e = cc

module _ (p : Parts) where
  -- The text to which names lead depends on the value after following references.
  text_from : NodeAt → List ℕ → List (List ℕ) → List ℕ
  text_from holder name names = option_map_or (flat_map escaped)
      (option_and_then (text_of p) (option_map (after_references 16 p) (option_and_then (λ m. named_node p m names) (named_field p name holder)))) (codes "?")

  -- References to the same entry lead to the same value.
  same_value : (m n : NodeAt) (number : ℕ) → referred p m ≡ Some number → referred p n ≡ Some number → after_references 16 p m ≡ after_references 16 p n
  same_value m n number e h =
      let r = reference_in p m number e in
      let s = reference_in p n number h in
      let x = there p.entries number (leads_to p m number r.reference r.entry).within in
      followed is_reference p 15 m (entry_node x.0) r.reference (entry_followed p m number x.0 r.entry x.1)
      ∙ sym (followed is_reference p 15 n (entry_node x.0) s.reference (entry_followed p n number x.0 s.entry x.1))

  same_name : (m n : NodeAt) (name : List ℕ) (names : List (List ℕ)) → after_references 16 p m ≡ after_references 16 p n → name_text p m (name ∷ names) ≡ name_text p n (name ∷ names)
  unfolding name_text
  same_name m n name names e = ap (λ h. option_map_or (flat_map escaped)
      (option_and_then (text_of p) (option_map (after_references 16 p) (option_and_then (λ m. named_node p m names) (named_field p name h)))) (codes "?")) e

  same_text : (role : Role) (m n : NodeAt) → after_references 16 p m ≡ after_references 16 p n → role_text p role m ≡ role_text p role n
  same_text Frame m n e =
      ap (λ z. z ++ codes "." ++ name_text p m (codes "method" ∷ codes "name" ∷ codes "string" ∷ [])) (same_name m n (codes "method") (codes "type" ∷ codes "name" ∷ codes "string" ∷ []) e)
      ∙ ap (λ z. name_text p n (codes "method" ∷ codes "type" ∷ codes "name" ∷ codes "string" ∷ []) ++ codes "." ++ z) (same_name m n (codes "method") (codes "name" ∷ codes "string" ∷ []) e)
  same_text Method m n e =
      ap (λ z. z ++ codes "." ++ own_name p m) (same_name m n (codes "type") (codes "name" ∷ codes "string" ∷ []) e)
      ∙ ap (λ z. type_name p n ++ codes "." ++ z) (same_name m n (codes "name") (codes "string" ∷ []) e)
  same_text Class m n e = same_name m n (codes "name") (codes "string" ∷ []) e
  same_text Name m n e = same_name m n (codes "string") [] e

  -- The text of one reference is that of each reference to the same entry.
  pub text_of_entry : (role : Role) (n : NodeAt) (number : ℕ) (text : List ℕ) → referred p n ≡ Some number → text ≡ role_text p role n → IsEntryText p role number text
  text_of_entry role n number text e t = record { each = λ m h. same_text role m n (same_value m n number h e) ∙ sym t }

  -- The entry to which a value refers exists.
  pub entry_within : (n : NodeAt) (number : ℕ) → referred p n ≡ Some number → number < length p.entries
  entry_within n number e = let r = reference_in p n number e in (leads_to p n number r.reference r.entry).within

  -- The text to which names lead is that of the first name's field.
  pub name_found : (n m : NodeAt) (name : List ℕ) (names : List (List ℕ)) → Some m ≡ named_field p name (after_references 16 p n) → name_text p n (name ∷ names) ≡ name_text p m names
  unfolding name_text
  name_found n m name names e = ap (λ o. option_map_or (flat_map escaped) (option_and_then (text_of p) (option_map (after_references 16 p) (option_and_then (λ m. named_node p m names) o)))
      (codes "?")) (sym e)

  pub name_missing : (n : NodeAt) (name : List ℕ) (names : List (List ℕ)) → None ≡ named_field p name (after_references 16 p n) → name_text p n (name ∷ names) ≡ codes "?"
  unfolding name_text
  name_missing n name names e = ap (λ o. option_map_or (flat_map escaped) (option_and_then (text_of p) (option_map (after_references 16 p) (option_and_then (λ m. named_node p m names) o)))
      (codes "?")) (sym e)

  -- The text of a frame is that of its method.
  pub method_found : (n m : NodeAt) → Some m ≡ named_field p (codes "method") (after_references 16 p n) → frame_text p n ≡ role_text p Method m
  method_found n m e =
      ap (λ z. z ++ codes "." ++ name_text p n (codes "method" ∷ codes "name" ∷ codes "string" ∷ [])) (name_found n m (codes "method") (codes "type" ∷ codes "name" ∷ codes "string" ∷ []) e)
      ∙ ap (λ z. type_name p m ++ codes "." ++ z) (name_found n m (codes "method") (codes "name" ∷ codes "string" ∷ []) e)

  pub method_missing : (n : NodeAt) → None ≡ named_field p (codes "method") (after_references 16 p n) → frame_text p n ≡ codes "?.?"
  method_missing n e =
      ap (λ z. z ++ codes "." ++ name_text p n (codes "method" ∷ codes "name" ∷ codes "string" ∷ [])) (name_missing n (codes "method") (codes "type" ∷ codes "name" ∷ codes "string" ∷ []) e)
      ∙ ap (λ z. codes "?" ++ codes "." ++ z) (name_missing n (codes "method") (codes "name" ∷ codes "string" ∷ []) e)

-- A list with one more text.
get_front : {X : Type 0} (xs ys : List X) (i : ℕ) → i < length xs → slice_get (xs ++ ys) i ≡ slice_get xs i
get_front [] ys i h = absurd (omega arith)
get_front (x ∷ xs) ys zero h = refl
get_front (x ∷ xs) ys (suc i) h = get_front xs ys i (omega arith)

get_end : {X : Type 0} (xs : List X) (x : X) → slice_get (xs ++ x ∷ []) (length xs) ≡ Some x
get_end [] x = refl
get_end (y ∷ xs) x = get_end xs x

get_set : {X : Type 0} (xs : List X) (i : ℕ) (x : X) → i < length xs → slice_get (slice_set xs i x) i ≡ Some x
get_set [] i x h = absurd (omega arith)
get_set (y ∷ xs) zero x h = refl
get_set (y ∷ xs) (suc i) x h = get_set xs i x (omega arith)

-- If P holds of each position and its value, and of a new value, then it holds of all of them after the value
-- is set.
set_each : {X : Type 0} (P : ℕ → X → Type 0) (xs : List (Option X)) (j : ℕ) (x : X) → P j x → ((n : ℕ) (y : X) → slice_get xs n ≡ Some (Some y) → P n y) → (n : ℕ) (y : X)
    → slice_get (slice_set xs j (Some x)) n ≡ Some (Some y) → P n y
set_each P [] j x h a n y e = cc
set_each P (o ∷ xs) zero x h a zero y e = let q : x ≡ y = cc in subst (P zero) q h
set_each P (o ∷ xs) zero x h a (suc n) y e = a (suc n) y e
set_each P (o ∷ xs) (suc j) x h a zero y e = a zero y e
set_each P (o ∷ xs) (suc j) x h a (suc n) y e = set_each (λ n. P (suc n)) xs j x h (λ n. a (suc n)) n y e

-- What is filled up has no value.
no_value : {X : Type 0} (n i : ℕ) (x : X) → slice_get {X = Option X} (replicate n None) i ≡ Some (Some x) → ⊥
no_value zero i x e = cc
no_value (suc n) zero x e = cc
no_value (suc n) (suc i) x e = no_value n i x e

filled : {X : Type 0} (xs : List (Option X)) (n i : ℕ) (x : X) → slice_get (xs ++ replicate n None) i ≡ Some (Some x) → slice_get xs i ≡ Some (Some x)
filled [] n i x e = absurd (no_value n i x e)
filled (o ∷ xs) n zero x e = e
filled (o ∷ xs) n (suc i) x e = filled xs n i x e

length_sized : {X : Type 0} (xs : List (Option X)) (n : ℕ) → length (xs ++ replicate n None) ≡ length xs + n
length_sized xs n = length-append xs (replicate n None) ∙ ap (λ z. length xs + z) (length-replicate n None)

module _ (texts : List (String Global)) (t : String Global) where
  -- A text at the end changes none of the indices' texts.
  pub same_texts : (indices : List (Option ℕ)) → ((n i : ℕ) → slice_get indices n ≡ Some (Some i) → i < length texts) → texts_at (texts ++ t ∷ []) indices ≡ texts_at texts indices
  same_texts [] h = refl
  same_texts (None ∷ indices) h = ap (λ (z : List (Option (List ℕ))). None ∷ z) (same_texts indices (λ n. h (suc n)))
  same_texts (Some i ∷ indices) h =
      ap (λ (z : List (Option (List ℕ))). text_at (texts ++ t ∷ []) (Some i) ∷ z) (same_texts indices (λ n. h (suc n)))
      ∙ ap (λ o. option_map string_bytes o ∷ texts_at texts indices) (get_front texts (t ∷ []) i (h 0 i refl))

texts_at-replicate : (texts : List (String Global)) (n : ℕ) → texts_at texts (replicate n None) ≡ replicate n None
texts_at-replicate texts zero = refl
texts_at-replicate texts (suc n) = ap (λ (z : List (Option (List ℕ))). None ∷ z) (texts_at-replicate texts n)

-- With more indices.
sized_texts : (texts : List (String Global)) (indices : List (Option ℕ)) (n : ℕ) → texts_at texts (indices ++ replicate (n - length indices) None) ≡ sized n (texts_at texts indices)
sized_texts texts indices n =
    map-append (text_at texts) indices (replicate (n - length indices) None)
    ∙ (ap (λ z. texts_at texts indices ++ z) (texts_at-replicate texts (n - length indices))
    ∙ ap (λ z. texts_at texts indices ++ replicate (n - z) None) (sym (length-map indices (text_at texts))))

-- A text is kept.
pub texts_kept : (texts : List (String Global)) (t : String Global) (indices : List (Option ℕ)) (entries number : ℕ) → AreIndices texts indices
    → texts_at (texts ++ t ∷ []) (slice_set (indices ++ replicate (entries - length indices) None) number (Some (length texts))) ≡ slice_set (sized entries (texts_at texts indices)) number (Some (string_bytes t))
texts_kept texts t indices entries number a =
    let all : List (Option ℕ) = indices ++ replicate (entries - length indices) None in
    map-set (text_at (texts ++ t ∷ [])) all number (Some (length texts))
    ∙ (ap (λ o. slice_set (texts_at (texts ++ t ∷ []) all) number (option_map string_bytes o)) (get_end texts t)
    ∙ ap (λ z. slice_set z number (Some (string_bytes t))) (sized_texts (texts ++ t ∷ []) indices entries ∙ ap (sized entries) (same_texts texts t indices a.each)))

-- The indices are those of texts, also with one more.
pub indices_kept : (texts : List (String Global)) (t : String Global) (indices : List (Option ℕ)) (n number : ℕ) → AreIndices texts indices
    → AreIndices (texts ++ t ∷ []) (slice_set (indices ++ replicate n None) number (Some (length texts)))
indices_kept texts t indices n number a =
    let l : length (texts ++ t ∷ []) ≡ length texts + 1 = length-append texts (t ∷ []) in
    record {
      each = set_each (λ n i. i < length (texts ++ t ∷ [])) (indices ++ replicate n None) number (length texts) (omega arith)
          (λ k i e. let h = a.each k i (filled indices n k i e) in omega arith);
    }

-- The text that was kept.
pub text_kept : (texts : List (Option (List ℕ))) (entries number : ℕ) (text : List ℕ) → number < entries → slice_get (slice_set (sized entries texts) number (Some text)) number ≡ Some (Some text)
text_kept texts entries number text h = let l = length_sized texts (entries - length texts) in get_set (sized entries texts) number (Some text) (omega arith)

module _ (p : Parts) (role : Role) where
  -- A cache without texts.
  pub no_texts : AreEntryTexts p role []
  no_texts = record { each = λ number text is. cc }

  -- A cache with one more text.
  pub text_added : (texts : List (Option (List ℕ))) (entries number : ℕ) (text : List ℕ) → IsEntryText p role number text → AreEntryTexts p role texts
      → AreEntryTexts p role (slice_set (sized entries texts) number (Some text))
  text_added texts entries number text t a = record { each = set_each (IsEntryText p role) (sized entries texts) number text t (λ n y e. a.each n y (filled texts (entries - length texts) n y e)) }

  -- The text that a cache has for an entry.
  pub text_there : (texts : List (Option (List ℕ))) (number : ℕ) (text : List ℕ) → AreEntryTexts p role texts → Some text ≡ option_and_then (λ x. x) (slice_get texts number)
      → IsEntryText p role number text
  text_there texts number text a e = a.each number text (by_slot (slice_get texts number) e)
    where
      by_slot : (o : Option (Option (List ℕ))) → Some text ≡ option_and_then (λ x. x) o → o ≡ Some (Some text)
      by_slot None e = cc
      by_slot (Some o) e = ap Some (sym e)

-- The texts in each role.
pub in_role : (p : Parts) (texts : RoleTexts) (role : Role) → AreRoleTexts p texts → AreEntryTexts p role (of_role texts role)
in_role p texts Frame a = a.frames
in_role p texts Method a = a.methods
in_role p texts Class a = a.classes
in_role p texts Name a = a.names

pub on_err : {T E : Type 0} (r : Result T E) (P : Type 0) → P → OnErr r P
on_err (Ok x) P h = tt
on_err (Err e) P h = h
