-- Marks of the entries that are copied, one after another.
use Rattle.std.specs.Prelude.{◌≡◌, ◌⊎◌, ◌<◌, ◌≤◌, ◌+◌, ◌==◌, ◌&&◌, nat_lt, ℕ, zero, suc, Bool, true, false, List, [], ◌∷◌, ◌++◌, take, length, replicate, slice_get, slice_set, Option, Some, None, option_and_then, if◌then◌else◌}
use Rattle.std.specs.Str.{bytes_eq}
use Rattle.std.proofs.Common.{ap, arith, refl, sym, ◌∙◌, subst, inl, inr}
use Rattle.std.proofs.lemmas.Bool.{cases_lt}
use Rattle.std.proofs.lemmas.Option.{slice_get_within}
use Rattle.std.proofs.lemmas.List.{length-set, length-replicate}
use Rattle.std.proofs.lemmas.Slice.Eq.{bytes_eq-Decides}
use Rattle.jfr_value.specs.Nodes.{node_bytes, Both}
use Rattle.jfr_pool.specs.declared.entry.EntryAt.{EntryAt}
use Rattle.jfr_pool.specs.Entries.{number_in_force, entry_node, IsInForce}
use Rattle.jfr_pool.specs.Laws.{IsLast}
use Rattle.jfr_pool.proofs.OneLaws.{last_is}
use Rattle.jfr_chunk.specs.Parts.{Parts}
use Rattle.jfr_worklist.specs.Marks.{IsMarked}
use Rattle.jfr_chunk.specs.Reach.{marked}
use Rattle.jfr_laws.specs.Laws.{AreCopied, IsCopied}
use Rattle.jfr_laws.proofs.Marks.{rank, rank_get, rank_order, Ranked, ranked}
use Rattle.jfr_laws.proofs.Entries.{copied_get}
use Rattle.jfr_verify.specs.Checks.{AreAmong, MarksOfCopies, is_copy, copy_if, next_copy}
use Rattle.jfr_worklist.proofs.MarkLaws.{set_only, none_marked}
use Rattle.jfr_layout.proofs.Lists.{present, take_next}

-- If the second option has a value, so does the first.
pub beside_right : {A B : Type 0} (R : A → B → Type 0) (x : Option A) (y : Option B) (b : B) → Both R x y → y ≡ Some b → (a : A) × (x ≡ Some a) × R a b
beside_right R None None b r e = cc
beside_right R (Some a) (Some c) b r e = let h : c ≡ b = cc in (a, refl, subst (λ z. R a z) h r)
beside_right R None (Some c) b r e = absurd r
beside_right R (Some a) None b r e = absurd r

-- A mark after all others adds the entry at the end.
set_last : (marks : List Bool) (xs : List EntryAt) (n : ℕ) (x : EntryAt) → ((i : ℕ) → IsMarked marks i → i < n) → n < length marks → slice_get xs n ≡ Some x
    → marked (slice_set marks n true) xs ≡ marked marks xs ++ x ∷ []
set_last [] xs n x f h e = absurd (omega arith)
set_last (m ∷ ms) [] n x f h e = cc
set_last (m ∷ ms) (y ∷ ys) zero x f h e =
    let q : y ≡ x = cc in
    by_mark m (λ t. (let z : 0 < 0 = f 0 t in omega arith)) (none_after ms ys (λ i t. (let z : suc i < 0 = f (suc i) t in omega arith)))
  where
    none_after : (ms : List Bool) (ys : List EntryAt) → ((i : ℕ) → IsMarked ms i → ⊥) → marked ms ys ≡ []
    none_after [] ys f = refl
    none_after (m ∷ ms) [] f = refl
    none_after (true ∷ ms) (y ∷ ys) f = absurd (f 0 refl)
    none_after (false ∷ ms) (y ∷ ys) f = none_after ms ys (λ i t. f (suc i) t)

    by_mark : (m : Bool) → (m ≡ true → ⊥) → marked ms ys ≡ [] → y ∷ marked ms ys ≡ marked (m ∷ ms) (y ∷ ys) ++ x ∷ []
    by_mark true g z = absurd (g refl)
    by_mark false g z = let q : y ≡ x = cc in ap (λ v. v ∷ marked ms ys) q ∙ (ap (λ v. x ∷ v) z ∙ ap (λ v. v ++ x ∷ []) (sym z))
set_last (true ∷ ms) (y ∷ ys) (suc n) x f h e = ap (λ v. y ∷ v) (set_last ms ys n x (λ i t. (let z : suc i < suc n = f (suc i) t in omega arith)) (omega arith) e)
set_last (false ∷ ms) (y ∷ ys) (suc n) x f h e = set_last ms ys n x (λ i t. (let z : suc i < suc n = f (suc i) t in omega arith)) (omega arith) e

copied_one : (p q : Parts) (es fs : List EntryAt) (e f : EntryAt) → AreCopied p q es fs → IsCopied p q e f → AreCopied p q (es ++ e ∷ []) (fs ++ f ∷ [])
copied_one p q [] [] e f a c = (c, tt)
copied_one p q [] (y ∷ fs) e f a c = absurd a
copied_one p q (x ∷ es) [] e f a c = absurd a
copied_one p q (x ∷ es) (y ∷ fs) e f a c = (a.0, copied_one p q es fs e f a.1 c)

pub copied_length : (p q : Parts) (es fs : List EntryAt) → AreCopied p q es fs → length es ≡ length fs
copied_length p q [] [] a = refl
copied_length p q [] (f ∷ fs) a = absurd a
copied_length p q (e ∷ es) [] a = absurd a
copied_length p q (e ∷ es) (f ∷ fs) a = omega (arith, copied_length p q es fs a.1)

module _ (p q : Parts) where
  -- What a number that is found satisfies.
  pub record Next (number from place : ℕ) : Type 0 where
    pub copy : EntryAt
    pub holds : slice_get q.entries number ≡ Some copy
    pub entry : EntryAt
    pub here : slice_get p.entries place ≡ Some entry
    pub force : number_in_force p.entries (copy.class, copy.key) ≡ Some place
    pub order : from ≤ place
    pub same : is_copy p q entry copy ≡ true

  next_is : (number from place : ℕ) → next_copy p q number from ≡ Some place → Next number from place
  next_is number from place e = by_copy (slice_get q.entries number) refl e
    where
      by_same : (f : EntryAt) (n : ℕ) (x : EntryAt) (b : Bool) → slice_get q.entries number ≡ Some f → number_in_force p.entries (f.class, f.key) ≡ Some n → nat_lt n from ≡ false
          → slice_get p.entries n ≡ Some x → is_copy p q x f ≡ b → (if b then Some n else None) ≡ Some place → Next number from place
      by_same f n x true g h l i c e =
          let k : n ≡ place = cc in
          record {
            copy = f;
            holds = g;
            entry = x;
            here = subst (λ z. slice_get p.entries z ≡ Some x) k i;
            force = h
                ∙ ap (λ z. Some z) k;
            order = (let o : from ≤ n = grind (arith, l) in omega arith);
            same = c;
          }
      by_same f n x false g h l i c e = cc

      by_entry : (f : EntryAt) (n : ℕ) (o : Option EntryAt) → slice_get q.entries number ≡ Some f → number_in_force p.entries (f.class, f.key) ≡ Some n → nat_lt n from ≡ false
          → slice_get p.entries n ≡ o → option_and_then (λ e. if is_copy p q e f then Some n else None) o ≡ Some place → Next number from place
      by_entry f n None g h l i e = cc
      by_entry f n (Some x) g h l i e = by_same f n x (is_copy p q x f) g h l i refl e

      by_order : (f : EntryAt) (n : ℕ) (b : Bool) → slice_get q.entries number ≡ Some f → number_in_force p.entries (f.class, f.key) ≡ Some n → nat_lt n from ≡ b
          → (if b then None else option_and_then (λ e. if is_copy p q e f then Some n else None) (slice_get p.entries n)) ≡ Some place → Next number from place
      by_order f n true g h l e = cc
      by_order f n false g h l e = by_entry f n (slice_get p.entries n) g h l refl e

      by_force : (f : EntryAt) (o : Option ℕ) → slice_get q.entries number ≡ Some f → number_in_force p.entries (f.class, f.key) ≡ o → option_and_then (copy_if p q from f) o ≡ Some place
          → Next number from place
      by_force f None g h e = cc
      by_force f (Some n) g h e = by_order f n (nat_lt n from) g h refl e

      by_copy : (o : Option EntryAt) → slice_get q.entries number ≡ o → option_and_then (λ f. option_and_then (copy_if p q from f) (number_in_force p.entries (f.class, f.key))) o ≡ Some place
          → Next number from place
      by_copy None g e = cc
      by_copy (Some f) g e = by_force f (number_in_force p.entries (f.class, f.key)) g refl e

  is_next : (number from place : ℕ) → Next number from place → next_copy p q number from ≡ Some place
  is_next number from place n =
      let l : nat_lt place from ≡ false = (let o : from ≤ place = n.order in grind (arith, o)) in
      ap (option_and_then (λ f. option_and_then (copy_if p q from f) (number_in_force p.entries (f.class, f.key)))) n.holds
      ∙ (ap (option_and_then (copy_if p q from n.copy)) n.force
      ∙ (ap (λ z. if z then None else option_and_then (λ e. if is_copy p q e n.copy then Some place else None) (slice_get p.entries place)) l
      ∙ (ap (option_and_then (λ e. if is_copy p q e n.copy then Some place else None)) n.here ∙ ap (λ z. if z then Some place else None) n.same)))

  copy_of : (e f : EntryAt) → e.class ≡ f.class → e.key ≡ f.key → is_copy p q e f ≡ true → IsCopied p q e f
  copy_of e f a b c = by_parts (e.checkpoint == f.checkpoint) refl (bytes_eq (node_bytes p.bytes (entry_node e)) (node_bytes q.bytes (entry_node f))) refl c
    where
      by_parts : (s : Bool) → (e.checkpoint == f.checkpoint) ≡ s → (t : Bool) → bytes_eq (node_bytes p.bytes (entry_node e)) (node_bytes q.bytes (entry_node f)) ≡ t → (s && t) ≡ true
          → IsCopied p q e f
      by_parts true s true t h = record { class = a; key = b; checkpoint = grind (arith, s); value = (bytes_eq-Decides (node_bytes p.bytes (entry_node e)) (node_bytes q.bytes (entry_node f))).0 t }
      by_parts true s false t h = cc
      by_parts false s t u h = cc

  of_copy : (e f : EntryAt) → IsCopied p q e f → is_copy p q e f ≡ true
  of_copy e f c =
      let s : (e.checkpoint == f.checkpoint) ≡ true = (let z : e.checkpoint ≡ f.checkpoint = c.checkpoint in grind (arith, z)) in
      ap (λ z. z && bytes_eq (node_bytes p.bytes (entry_node e)) (node_bytes q.bytes (entry_node f))) s
      ∙ (bytes_eq-Decides (node_bytes p.bytes (entry_node e)) (node_bytes q.bytes (entry_node f))).1 c.value

  -- The number after the last entry that is marked.
  abbrev IsFrom : ℕ → ℕ → Type 0
  IsFrom zero from = from ≡ 0
  IsFrom (suc k) from = (f : EntryAt) × (place : ℕ) × (slice_get q.entries k ≡ Some f) × (number_in_force p.entries (f.class, f.key) ≡ Some place) × (from ≡ place + 1)

  abbrev target_of : EntryAt → ℕ × ℕ
  target_of e = (e.class, e.key)

  -- What holds after the first entries.
  pub record InCopies (k from : ℕ) (marks : List Bool) : Type 0 where
    pub size : length marks ≡ length p.entries
    pub below : (i : ℕ) → IsMarked marks i → i < from
    pub in_force : (i : ℕ) → IsMarked marks i → IsInForce p.entries i
    pub copied : AreCopied p q (marked marks p.entries) (take k q.entries)
    pub from_is : IsFrom k from

  none_left : (n : ℕ) (xs : List EntryAt) → marked (replicate n false) xs ≡ []
  none_left zero xs = refl
  none_left (suc n) [] = refl
  none_left (suc n) (x ∷ xs) = none_left n xs

  pub copies_start : (marks : List Bool) → marks ≡ replicate (length p.entries) false → InCopies 0 0 marks
  copies_start marks e = record {
    size = ap length e ∙ length-replicate (length p.entries) false;
    below = λ i m. absurd (none_marked (length p.entries) i (subst (λ z. IsMarked z i) e m));
    in_force = λ i m. absurd (none_marked (length p.entries) i (subst (λ z. IsMarked z i) e m));
    copied = subst (λ z. AreCopied p q z []) (sym (ap (λ z. marked z p.entries) e ∙ none_left (length p.entries) p.entries)) tt;
    from_is = refl;
  }

  next_within : (number from place : ℕ) → Next number from place → place < length p.entries
  next_within number from place n = slice_get_within p.entries place n.entry n.here

  pub copies_next : (k from place : ℕ) (marks : List Bool) → InCopies k from marks → next_copy p q k from ≡ Some place → InCopies (k + 1) (place + 1) (slice_set marks place true)
  copies_next k from place marks h e =
      let n : Next k from place = next_is k from place e in
      let w = next_within k from place n in
      let i : IsLast p.entries (n.copy.class, n.copy.key) place = (last_is p.entries (n.copy.class, n.copy.key) place).0 n.force in
      let x : i.entry ≡ n.entry = (let a : slice_get p.entries place ≡ Some i.entry = i.holds in let b = n.here in cc) in
      let t : target_of n.entry ≡ target_of n.copy = subst (λ (z : EntryAt). target_of z ≡ target_of n.copy) x i.has in
      let c : IsCopied p q n.entry n.copy = copy_of n.entry n.copy (ap (λ (z : ℕ × ℕ). z.0) t) (ap (λ (z : ℕ × ℕ). z.1) t) n.same in
      let o : from ≤ place = n.order in
      let here : place < length marks = omega (arith, h.size, w) in
      let l = set_last marks p.entries place n.entry (λ i m. (let b : i < from = h.below i m in omega arith)) here n.here in
      let force : IsInForce p.entries place = record { entry = n.entry; holds = n.here; last = ap (number_in_force p.entries) t ∙ n.force } in
      record {
        size = length-set marks place true ∙ h.size;
        below = λ i m. by_below i (set_only marks place i m);
        in_force = λ i m. by_force force i (set_only marks place i m);
        copied = subst (λ z. AreCopied p q z (take (k + 1) q.entries)) (sym l)
            (subst (AreCopied p q (marked marks p.entries ++ n.entry ∷ [])) (sym (take_next q.entries k n.copy n.holds))
            (copied_one p q (marked marks p.entries) (take k q.entries) n.entry n.copy h.copied c));
        from_is = subst (λ z. IsFrom z (place + 1)) (let z : suc k ≡ k + 1 = omega arith in z) (n.copy, place, n.holds, n.force, refl);
      }
    where
      by_below : (i : ℕ) → IsMarked marks i ⊎ (place ≡ i) → i < place + 1
      by_below i (inl m) = let b : i < from = h.below i m in let o : from ≤ place = (next_is k from place e).order in omega arith
      by_below i (inr s) = omega arith

      by_force : IsInForce p.entries place → (i : ℕ) → IsMarked marks i ⊎ (place ≡ i) → IsInForce p.entries i
      by_force f i (inl m) = h.in_force i m
      by_force f i (inr s) = subst (IsInForce p.entries) s f

  -- If the entries are copies, the original of each is found.
  pub record Placed (marks : List Bool) (number : ℕ) (f : EntryAt) : Type 0 where
    pub place : ℕ
    pub entry : EntryAt
    pub here : slice_get p.entries place ≡ Some entry
    pub is_marked : IsMarked marks place
    pub number_is : rank marks place ≡ number
    pub copied : IsCopied p q entry f
    pub force : number_in_force p.entries (f.class, f.key) ≡ Some place

  pub placed : (marks : List Bool) → AreAmong p q marks → (number : ℕ) (f : EntryAt) → slice_get q.entries number ≡ Some f → Placed marks number f
  placed marks a number f e =
      let c = beside_right (IsCopied p q) (slice_get (marked marks p.entries) number) (slice_get q.entries number) f (copied_get p q (marked marks p.entries) q.entries number a.copied) e in
      let k : Ranked marks p.entries number = ranked marks p.entries number (slice_get_within (marked marks p.entries) number c.0 c.1) in
      let g : slice_get p.entries k.place ≡ Some c.0 = sym (rank_get marks p.entries k.place k.is_marked) ∙ (ap (slice_get (marked marks p.entries)) k.number_is ∙ c.1) in
      let i : IsInForce p.entries k.place = a.in_force k.place k.is_marked in
      let w : i.entry ≡ c.0 = (let x : slice_get p.entries k.place ≡ Some i.entry = i.holds in cc) in
      let l : number_in_force p.entries (c.0.class, c.0.key) ≡ Some k.place = subst (λ (z : EntryAt). number_in_force p.entries (z.class, z.key) ≡ Some k.place) w i.last in
      let l' : number_in_force p.entries (f.class, f.key) ≡ Some k.place =
      subst (λ z. number_in_force p.entries (z, f.key) ≡ Some k.place) c.2.class (subst (λ z. number_in_force p.entries (c.0.class, z) ≡ Some k.place) c.2.key l) in
      record { place = k.place; entry = c.0; here = g; is_marked = k.is_marked; number_is = k.number_is; copied = c.2; force = l' }

  in_order : (marks : List Bool) (number from : ℕ) (f : EntryAt) → AreAmong p q marks → (x : Placed marks number f) → IsFrom number from → from ≤ x.place
  in_order marks zero from f a x h = omega arith
  in_order marks (suc k) from f a x h =
      let y = placed marks a k h.0 h.2 in
      let s : y.place ≡ h.1 = (let u : number_in_force p.entries (h.0.class, h.0.key) ≡ Some y.place = y.force in let v = h.3 in cc) in
      by_order y s (cases_lt y.place x.place)
    where
      by_order : (y : Placed marks k h.0) → y.place ≡ h.1 → (y.place < x.place) ⊎ (x.place ≤ y.place) → from ≤ x.place
      by_order y s (inl l) = omega (arith, h.4)
      by_order y s (inr l) = let o = rank_order marks x.place y.place l in let u : rank marks x.place ≡ suc k = x.number_is in let v : rank marks y.place ≡ k = y.number_is in absurd (omega arith)

  pub found_within : (k from place : ℕ) (marks : List Bool) → InCopies k from marks → next_copy p q k from ≡ Some place → place < length marks
  found_within k from place marks h e = let n = next_is k from place e in omega (arith, h.size, next_within k from place n)

  pub none_copied : (k from : ℕ) (marks : List Bool) → k < length q.entries → InCopies k from marks → next_copy p q k from ≡ None → MarksOfCopies p q None
  none_copied k from marks h i e other a =
      let f = present q.entries k h in
      let x = placed other a k f.0 f.1 in
      let n = is_next k from x.place (record {
        copy = f.0;
        holds = f.1;
        entry = x.entry;
        here = x.here;
        force = x.force;
        order = in_order other k from f.0 a x i.from_is;
        same = of_copy x.entry f.0
            x.copied;
      }) in
      (let z : None ≡ Some x.place = sym e ∙ n in cc)

  all_of : {X : Type 0} (xs : List X) (n : ℕ) → length xs ≤ n → take n xs ≡ xs
  all_of [] zero h = refl
  all_of [] (suc n) h = refl
  all_of (x ∷ xs) zero h = absurd (omega arith)
  all_of (x ∷ xs) (suc n) h = ap (λ z. x ∷ z) (all_of xs n (omega arith))

  pub copies_end : (k from : ℕ) (marks : List Bool) → length q.entries ≤ k → InCopies k from marks → AreAmong p q marks × (length marks ≡ length p.entries)
  copies_end k from marks h i = (record { in_force = i.in_force; copied = subst (AreCopied p q (marked marks p.entries)) (all_of q.entries k h) i.copied }, i.size)
