-- The metadata record of what is written becomes, with all its events kept, what it is.
use Rattle.std.specs.Prelude.{◌≡◌, ℕ, ◌^◌, ◌<◌, Bool, true, false, ◌&&◌, ◌||◌, ◌==◌, nat_lt, nat_le, List, [], ◌∷◌, length, Option, Some, None, if◌then◌else◌}
use lib.Utf8.{scalars}
use Rattle.std.specs.List.{list_all}
use Rattle.std.specs.Option.{option_map_or}
use Rattle.std.proofs.Common.{ap, arith, refl, sym, ◌∙◌, subst}
use Rattle.std.proofs.lemmas.Bool.{eqb-true}
use Rattle.std.proofs.lemmas.Bool.Decides.{nat_tests}
use Rattle.jfr_layout.specs.Classes.{Classes}
use Rattle.jfr_meta.specs.Trees.{Tree}
use Rattle.jfr_meta.specs.Body.{Body}
use Rattle.jfr_meta.specs.Described.{class_elements}
use Rattle.jfr_chunk.specs.Parts.{Parts, EventAt, AreParts, events_of}
use Rattle.jfr_chunk.specs.Laws.{AreEvents, SameRecords}
use Rattle.jfr_layout.specs.Staying.{staying}
use Rattle.jfr_meta.specs.Stays.{IsStay, stay_of}
use Rattle.jfr_meta.specs.Held.{stays_of}
use Rattle.jfr_meta.specs.Slimmed.{slim_body, bytes_of_body, table_len, slim_in}
use Rattle.jfr_chunk.specs.Metas.{Names, used_by, is_described, is_used, stays_in, slim_of, rebuilt, metadata_size, new_metadata}
use Rattle.jfr_laws.proofs.AnewLaws as laws
use Rattle.jfr_laws.proofs.AnewLaws.{IsAnew, is_anew}
use Rattle.jfr_laws.proofs.Anews.{Anew, shown_body}
use Rattle.jfr_laws.proofs.Metadata.{SameBody}
use Rattle.jfr_laws.proofs.Reslim.{SameBytes, same_slim, stay_root}
use Rattle.jfr_laws.proofs.SlimAgain as slim_again

-- Events of the same records use the same classes.
used_same : (p q : Parts) (es fs : List EventAt) → SameRecords p q es fs → (id : ℕ) → used_by es id ≡ used_by fs id
used_same p q [] [] s id = refl
used_same p q [] (f ∷ fs) s id = absurd s
used_same p q (e ∷ es) [] s id = absurd s
used_same p q (e ∷ es) (f ∷ fs) s id = λ i. (s.0.class i == id) || used_same p q es fs s.1 id i

-- A class that stays has its name in the set as before; one that doesn't stay, nowhere.
described_left : (names : Names) (stays : ℕ → Bool) (k : Classes) (id : ℕ) → stays id ≡ true → is_described names (staying stays k) id ≡ is_described names k id
described_left names stays [] id s = refl
described_left names stays (c ∷ k) id s = by_tests (stays c.id) refl (c.id == id) refl (described_left names stays k id s)
  where
    by_tests : (u : Bool) → stays c.id ≡ u → (t : Bool) → (c.id == id) ≡ t → is_described names (staying stays k) id ≡ is_described names k id
        → is_described names (if u then c ∷ staying stays k else staying stays k) id ≡ (((c.id == id) && names c.name) || is_described names k id)
    by_tests true e t f h = ap (λ z. ((c.id == id) && names c.name) || z) h
    by_tests false e false f h = h ∙ ap (λ z. (z && names c.name) || is_described names k id) (sym f)
    by_tests false e true f h = let z : false ≡ true = sym e ∙ (ap stays (eqb-true c.id id f) ∙ s) in cc

described_gone : (names : Names) (stays : ℕ → Bool) (k : Classes) (id : ℕ) → stays id ≡ false → is_described names (staying stays k) id ≡ false
described_gone names stays [] id s = refl
described_gone names stays (c ∷ k) id s = by_tests (stays c.id) refl (c.id == id) refl (described_gone names stays k id s)
  where
    by_tests : (u : Bool) → stays c.id ≡ u → (t : Bool) → (c.id == id) ≡ t → is_described names (staying stays k) id ≡ false
        → is_described names (if u then c ∷ staying stays k else staying stays k) id ≡ false
    by_tests true e true f h = let z : true ≡ false = sym e ∙ (ap stays (eqb-true c.id id f) ∙ s) in cc
    by_tests true e false f h = λ i. (f i && names c.name) || h i
    by_tests false e t f h = h

stays_same : (b d : Body) (k m : Classes) (used other : ℕ → Bool) (id : ℕ) → SameBody b d → k ≡ m → used ≡ other → stays_of b k used id ≡ stays_of d m other id
stays_same b d k m used other id e f g =
    sym (stay_root b.strings b.root k used id)
    ∙ ((λ i. option_map_or (λ ts. stay_of (e.strings i) ts (f i) (g i) id) (class_elements (e.strings i) (e.root i)) false) ∙ stay_root d.strings d.root m other id)

stays_are : (names : Names) (p : Parts) (kept : List EventAt) (id : ℕ) → stays_in names p kept id ≡ stays_of p.body p.classes (is_used names p kept) id
unfolding stays_in
stays_are names p kept id = refl

-- What is built anew, by its bytes.
rebuilt_same : (names : Names) (p q : Parts) (es fs : List EventAt) (room : ℕ) → SameBytes (slim_of names p es) (slim_of names q fs) → rebuilt names p es room ≡ rebuilt names q fs room
unfolding rebuilt slim_in
rebuilt_same names p q es fs room e = λ i. if list_all scalars (e.strings i) then (if nat_lt (e.len i) (2 ^ 29) && nat_le (length (e.bytes i)) room then Some (e.bytes i) else None) else None

-- The metadata record is built anew if it fits.
rebuilt_some : (names : Names) (p : Parts) (kept : List EventAt) (x : List ℕ) → list_all scalars (slim_of names p kept).strings ≡ true → bytes_of_body (slim_of names p kept) ≡ x
    → table_len (slim_of names p kept) < 536870912 → rebuilt names p kept (length x) ≡ Some x
unfolding rebuilt slim_in
rebuilt_some names p kept x s e l =
    let t : nat_lt (table_len (slim_of names p kept)) (2 ^ 29) ≡ true = grind (arith, nat_tests) in
    let n : length (bytes_of_body (slim_of names p kept)) ≡ length x = ap length e in
    let u : nat_le (length (bytes_of_body (slim_of names p kept))) (length x) ≡ true = grind (arith, nat_tests) in
    (λ i. if s i then (if t i && u i then Some (e i) else None) else None)

-- The size of what is written of the metadata record.
abbrev pub new_size : Parts → Option (List ℕ) → ℕ
new_size p None = metadata_size p
new_size p (Some x) = length x

module _ (names : Names) (p : Parts) (a : AreParts p) (kept : List EventAt) (are : AreEvents p kept) (n : Anew names p a kept) (q : Parts) (c : AreParts q)
    (classes : q.classes ≡ n.classes) (events : SameRecords p q kept (events_of q)) (body : SameBody (shown_body names p kept (new_metadata names p kept)) q.body) where
  es : List EventAt
  es = events_of q

  classes_are : (w : Option (List ℕ)) → new_metadata names p kept ≡ w → q.classes ≡ option_map_or (λ x. staying (stays_in names p kept) p.classes) w p.classes
  classes_are w e =
      classes ∙ (n.remaining ∙ ap (λ o. option_map_or (λ x. staying (stays_in names p kept) p.classes) o p.classes) e)

  -- The classes that have names in the set are those that had.
  described_is : (w : Option (List ℕ)) → q.classes ≡ option_map_or (λ x. staying (stays_in names p kept) p.classes) w p.classes → (id : ℕ)
      → is_described names p.classes id ≡ is_described names q.classes id
  described_is None e id = ap (λ k. is_described names k id) (sym e)
  described_is (Some x) e id = by_test (stays_in names p kept id) refl ∙ ap (λ k. is_described names k id) (sym e)
    where
      none : (t : Bool) → is_described names p.classes id ≡ t → stays_in names p kept id ≡ false → is_described names p.classes id ≡ false
      none true t s = let z : true ≡ false = sym (laws.described_stays names p a kept id t) ∙ s in cc
      none false t s = t

      by_test : (t : Bool) → stays_in names p kept id ≡ t → is_described names p.classes id ≡ is_described names (staying (stays_in names p kept) p.classes) id
      by_test true s = sym (described_left names (stays_in names p kept) p.classes id s)
      by_test false s = none (is_described names p.classes id) refl s ∙ sym (described_gone names (stays_in names p kept) p.classes id s)

  used_is : (w : Option (List ℕ)) → new_metadata names p kept ≡ w → is_used names p kept ≡ is_used names q (events_of q)
  used_is w e = λ i id. used_same p q kept (events_of q) events id i || described_is w (classes_are w e) id i

  -- It is copied again.
  copied_again : new_metadata names p kept ≡ None → SameBody p.body q.body → rebuilt names q (events_of q) (metadata_size p) ≡ None
  copied_again e b =
      let s : stays_in names p kept ≡ stays_in names q (events_of q) =
      λ i id. (stays_are names p kept id ∙ (stays_same p.body q.body p.classes q.classes (is_used names p kept) (is_used names q (events_of q)) id b (sym (classes_are None e)) (used_is None e)
      ∙ sym (stays_are names q (events_of q) id))) i in
      sym (rebuilt_same names p q kept (events_of q) (metadata_size p) (same_slim p.body q.body (stays_in names p kept) (stays_in names q (events_of q)) b s)) ∙ e

  is : (ts : List Tree) → class_elements p.body.strings p.body.root ≡ Some ts → IsStay p.body.strings ts p.classes (is_used names p kept) (stays_in names p kept)
  is ts e =
      let d = laws.d names p a kept in
      let h : d.elements ≡ ts = (let z : Some d.elements ≡ Some ts = sym d.there ∙ e in cc) in
      subst (λ z. IsStay p.body.strings z p.classes (is_used names p kept) (stays_in names p kept)) h (laws.stay names p a kept)

  -- It is built anew, the same.
  anew_again : (x : List ℕ) → new_metadata names p kept ≡ Some x → SameBody (slim_of names p kept) q.body → rebuilt names q (events_of q) (length x) ≡ Some x
  anew_again x e b =
      let y = is_anew names p kept (metadata_size p) x e in
      let k = classes_are (Some x) e in
      let again = slim_again.again p.body p.classes (is_used names p kept) (stays_in names p kept) a.metadata.classes is in
      let s : again ≡ stays_in names q (events_of q) =
      λ i id. (sym (slim_again.again_is p.body p.classes (is_used names p kept) (stays_in names p kept) a.metadata.classes is id)
      ∙ (stays_same (slim_of names p kept) q.body (staying (stays_in names p kept) p.classes) q.classes (is_used names p kept) (is_used names q (events_of q)) id b (sym k) (used_is (Some x) e)
      ∙ sym (stays_are names q (events_of q) id))) i in
      let z = same_slim (slim_of names p kept) q.body again (stays_in names q (events_of q)) b s in
      let same : slim_body (slim_of names p kept) again ≡ slim_of names p kept = slim_again.body_again p.body p.classes (is_used names p kept) (stays_in names p kept) a.metadata.classes is in
      let bytes : bytes_of_body (slim_of names q (events_of q)) ≡ x = sym z.bytes ∙ (ap bytes_of_body same ∙ sym y.bytes) in
      let len : table_len (slim_of names q (events_of q)) ≡ table_len (slim_of names p kept) = sym z.len ∙ ap table_len same in
      rebuilt_some names q (events_of q) x (ap (list_all scalars) (sym z.strings ∙ ap (λ (v : Body). v.strings) same) ∙ y.all) bytes (subst (λ v. v < 536870912) (sym len) y.small)

  pub settles_again : metadata_size q ≡ new_size p (new_metadata names p kept) → new_metadata names q (events_of q) ≡ new_metadata names p kept
  settles_again size = ap (rebuilt names q (events_of q)) size ∙ by_new (new_metadata names p kept) refl body
    where
      by_new : (w : Option (List ℕ)) → new_metadata names p kept ≡ w → SameBody (shown_body names p kept w) q.body → rebuilt names q (events_of q) (new_size p w) ≡ w
      by_new None e b = copied_again e b
      by_new (Some x) e b = anew_again x e b
