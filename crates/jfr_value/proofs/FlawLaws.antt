-- A value of a known class of sound classes is refused only as Short or StringKind.
use Rattle.std.specs.Prelude.{◌≡◌, ℕ, zero, suc, ◌+◌, Bool, true, false, List, [], ◌∷◌, ◌++◌, ◌⊎◌, Option, Some, None, if◌then◌else◌, ◌==◌, nat_lt, ⊤, slice_range, slice_index}
use Rattle.std.specs.Option.{option_map_or}
use Rattle.std.specs.List.{AllByRecursion}
use Rattle.std.proofs.Common.{ap, refl, sym, ◌∙◌, subst, inl, inr}
use Rattle.jfr_base.specs.declared.reason.Reason.{Reason}
use Rattle.jfr_base.specs.declared.reason.Reason.TheVariants.{Short, StringKind, Trailing}
use Rattle.jfr_base.specs.Formats.{Format, Done, Stop, Int, Byte, Run, Here, Refuse, ◌>>=◌, with_bytes, times, for_each, unchecked, integer, Fails}
use Rattle.jfr_layout.specs.Classes.{Classes, Field, kind_of, item_of, is_composite, inline_fields, step_class, begins_chain, Sound}
use Rattle.jfr_layout.specs.declared.kind.Kind.{Kind}
use Rattle.jfr_layout.specs.declared.kind.Kind.TheVariants as kinds
use Rattle.jfr_layout.specs.declared.shape.Shape.{Shape}
use Rattle.jfr_text.specs.Strings.{Key, Utf8, Units, Latin, kind_fault, string_format}
use Rattle.jfr_value.specs.declared.leaf.LeafKind.TheVariants as leaf_kinds
use Rattle.jfr_value.specs.Values.{Value, Single, Group, values_of, key_of}
use Rattle.jfr_value.specs.Walks.{DepthBound}
use Rattle.jfr_value.specs.Reading.{base_format, item_format, array_format, shape_format, fields_format, kind_format, inline_format, class_format, value_format}
use Rattle.jfr_value.specs.Nodes.{IsValueReason}
use Rattle.jfr_value.proofs.DepthLaws.{IsKnown, sound_inline, sound_known, any_none, steps_to}

-- Whatever the format refuses, it refuses for such a reason.
abbrev RefusesOnly : {A : Type 0} → (Reason → Type 0) → Format A → Type 0
RefusesOnly P (Done a) = ⊤
RefusesOnly P (Stop next) = P Trailing × RefusesOnly P next
RefusesOnly P (Int check next) = P Short × ((v : ℕ) (why : Reason) → check v ≡ Some why → P why) × ((v : ℕ) (s : List ℕ) → RefusesOnly P (next v s))
RefusesOnly P (Byte check next) = P Short × ((c : ℕ) (why : Reason) → check c ≡ Some why → P why) × ((c : ℕ) → RefusesOnly P (next c))
RefusesOnly P (Run n next) = P Short × ((s : List ℕ) → RefusesOnly P (next s))
RefusesOnly P (Here next) = (at : ℕ) → RefusesOnly P (next at)
RefusesOnly P (Refuse why) = P why

module _ (P : Reason → Type 0) where
  fails_so : {A : Type 0} (f : Format A) (x : List ℕ) (end at o : ℕ) (why : Reason) → RefusesOnly P f → Fails f x end at o why → P why
  fails_so (Done a) x end at o why r e = absurd e
  fails_so (Stop next) x end at o why r (inl e) = subst P (sym e.2) r.0
  fails_so (Stop next) x end at o why r (inr e) = fails_so next x end at o why r.1 e.1
  fails_so (Int check next) x end at o why r (inl e) = subst P (sym e.2) r.0
  fails_so (Int check next) x end at o why r (inr e) = by_check e.4 (λ w f. fails_so (next e.1 (slice_range x at e.0)) x end e.0 o w (r.2 e.1 (slice_range x at e.0)) f)
    where
      by_check : ((check e.1 ≡ Some why) × (o ≡ at)) ⊎ ((check e.1 ≡ None) × Fails (next e.1 (slice_range x at e.0)) x end e.0 o why)
          → ((w : Reason) → Fails (next e.1 (slice_range x at e.0)) x end e.0 o w → P w) → P why
      by_check (inl c) g = r.1 e.1 why c.0
      by_check (inr c) g = g why c.1
  fails_so (Byte check next) x end at o why r (inl e) = subst P (sym e.2) r.0
  fails_so (Byte check next) x end at o why r (inr e) = by_check e.1 (λ w f. fails_so (next (slice_index x at)) x end (at + 1) o w (r.2 (slice_index x at)) f)
    where
      by_check : ((check (slice_index x at) ≡ Some why) × (o ≡ at)) ⊎ ((check (slice_index x at) ≡ None) × Fails (next (slice_index x at)) x end (at + 1) o why)
          → ((w : Reason) → Fails (next (slice_index x at)) x end (at + 1) o w → P w) → P why
      by_check (inl c) g = r.1 (slice_index x at) why c.0
      by_check (inr c) g = g why c.1
  fails_so (Run n next) x end at o why r (inl e) = subst P (sym e.2) r.0
  fails_so (Run n next) x end at o why r (inr e) = fails_so (next (slice_range x at (at + n))) x end (at + n) o why (r.1 (slice_range x at (at + n))) e.1
  fails_so (Here next) x end at o why r e = fails_so (next at) x end at o why (r at) e
  fails_so (Refuse w) x end at o why r e = subst P (sym e.1) r

  bind_only : {A B : Type 0} (f : Format A) (g : A → Format B) → RefusesOnly P f → ((a : A) → RefusesOnly P (g a)) → RefusesOnly P (f >>= g)
  bind_only (Done a) g r q = q a
  bind_only (Stop next) g r q = (r.0, bind_only next g r.1 q)
  bind_only (Int check next) g r q = (r.0, r.1, λ v s. bind_only (next v s) g (r.2 v s) q)
  bind_only (Byte check next) g r q = (r.0, r.1, λ c. bind_only (next c) g (r.2 c) q)
  bind_only (Run n next) g r q = (r.0, λ s. bind_only (next s) g (r.1 s) q)
  bind_only (Here next) g r q = λ at. bind_only (next at) g (r at) q
  bind_only (Refuse why) g r q = r

  with_only : {A B : Type 0} (b : List ℕ) (f : Format A) (g : A → List ℕ → Format B) → RefusesOnly P f → ((a : A) (s : List ℕ) → RefusesOnly P (g a s)) → RefusesOnly P (with_bytes b f g)
  with_only b (Done a) g r q = q a b
  with_only b (Stop next) g r q = (r.0, with_only b next g r.1 q)
  with_only b (Int check next) g r q = (r.0, r.1, λ v s. with_only (b ++ s) (next v s) g (r.2 v s) q)
  with_only b (Byte check next) g r q = (r.0, r.1, λ c. with_only (b ++ (c ∷ [])) (next c) g (r.2 c) q)
  with_only b (Run n next) g r q = (r.0, λ s. with_only (b ++ s) (next s) g (r.1 s) q)
  with_only b (Here next) g r q = λ at. with_only b (next at) g (r at) q
  with_only b (Refuse why) g r q = r

  times_only : {A : Type 0} (n : ℕ) (f : Format A) → RefusesOnly P f → RefusesOnly P (times n f)
  times_only zero f r = tt
  times_only (suc n) f r = bind_only f (λ a. times n f >>= λ rest. Done (a ∷ rest)) r (λ a. bind_only (times n f) (λ rest. Done (a ∷ rest)) (times_only n f r) (λ rest. tt))

  each_only : {X A : Type 0} (xs : List X) (f : X → Format A) → AllByRecursion (λ x. RefusesOnly P (f x)) xs → RefusesOnly P (for_each xs f)
  each_only [] f r = tt
  each_only (x ∷ xs) f r = bind_only (f x) (λ a. for_each xs f >>= λ rest. Done (a ∷ rest)) r.0 (λ a. bind_only (for_each xs f) (λ rest. Done (a ∷ rest)) (each_only xs f r.1) (λ rest. tt))

  if_only : {A : Type 0} (t : Bool) (f g : Format A) → RefusesOnly P f → RefusesOnly P g → RefusesOnly P (if t then f else g)
  if_only true f g r q = r
  if_only false f g r q = q

none_checked : (v : ℕ) (why : Reason) → unchecked v ≡ Some why → IsValueReason why
none_checked v why e = cc

kind_checked : (kind : ℕ) (why : Reason) → kind_fault true kind ≡ Some why → IsValueReason why
kind_checked kind why e = by_test (nat_lt 5 kind) e
  where
    by_test : (t : Bool) → (if t then Some StringKind else None) ≡ Some why → IsValueReason why
    by_test true e = inr (cc)
    by_test false e = cc

abbrev Plain : {A : Type 0} → Format A → Type 0
Plain f = RefusesOnly IsValueReason f

short : IsValueReason Short
short = inl refl

plain_int : {A : Type 0} (next : ℕ → List ℕ → Format A) → ((v : ℕ) (s : List ℕ) → Plain (next v s)) → Plain (Int unchecked next)
plain_int next r = (short, none_checked, r)

string_plain : Plain (string_format true)
unfolding string_format
string_plain = (
  short,
  kind_checked,
  λ kind.
      if_only IsValueReason (kind == 0) _ _ tt (if_only IsValueReason (kind == 1) _ _ tt
      (if_only IsValueReason (kind == 2) _ _ (plain_int (λ key spelled. Done (Key key)) (λ v s. tt))
      (if_only IsValueReason (kind == 3) _ _ (plain_int (λ n spelled. Run n (λ bytes. Done (Utf8 bytes))) (λ v s. (short, λ b. tt)))
      (if_only IsValueReason (kind == 4) _ _ (plain_int (λ n spelled. times n integer >>= λ units. Done (Units units))
      (λ n s. bind_only IsValueReason (times n integer) (λ units. Done (Units units)) (times_only IsValueReason n integer (plain_int (λ v s. Done v) (λ v s. tt))) (λ us. tt)))
      (plain_int (λ n spelled. Run n (λ bytes. Done (Latin bytes))) (λ v s. (short, λ b. tt))))))),
)

base_plain : (kd : Kind) → Plain (base_format kd)
base_plain kinds.Boolean = (short, λ s. tt)
base_plain kinds.Byte = (short, λ s. tt)
base_plain kinds.Char = plain_int {A = Option ℕ} (λ v s. Done None) (λ v s. tt)
base_plain kinds.Short = plain_int {A = Option ℕ} (λ v s. Done None) (λ v s. tt)
base_plain kinds.Int = plain_int {A = Option ℕ} (λ v s. Done None) (λ v s. tt)
base_plain kinds.Long = plain_int {A = Option ℕ} (λ v s. Done None) (λ v s. tt)
base_plain kinds.Float = (short, λ s. tt)
base_plain kinds.Double = (short, λ s. tt)
base_plain kinds.Text = bind_only IsValueReason (string_format true) (λ s. Done (key_of s)) string_plain (λ s. tt)
base_plain kinds.Composite = tt

kind_plain : (kd : Kind) (s : Shape) (x : Format (List Value)) → (is_composite kd ≡ true → Plain x) → Plain (kind_format kd s x)
kind_plain kinds.Composite s x r = bind_only IsValueReason x (λ vs. Done (Group s [] (values_of vs))) (r refl) (λ vs. tt)
kind_plain kd s x r = with_only IsValueReason [] (base_format kd) (λ key b. Done (Single s (leaf_kinds.Base kd) b key)) (base_plain kd) (λ a b. tt)

shape_plain : (f : Shape → Format Value) (s : Shape) → (s.constant ≡ false → Plain (f (item_of s))) → (s.constant ≡ false → Plain (f s)) → Plain (shape_format f s)
shape_plain f s r q = if_only IsValueReason s.array (array_format (item_format f (item_of s)) s) (item_format f s)
    (plain_int (λ n b. times n (item_format f (item_of s)) >>= λ vs. Done (Group s b (values_of vs)))
    (λ n b. bind_only IsValueReason (times n (item_format f (item_of s))) (λ vs. Done (Group s b (values_of vs))) (times_only IsValueReason n (item_format f (item_of s)) (item (item_of s) r))
    (λ vs. tt)))
    (item s q)
  where
    item : (s : Shape) → (s.constant ≡ false → Plain (f s)) → Plain (item_format f s)
    item s r = by_mark s.constant r
      where
        by_mark : (t : Bool) → (t ≡ false → Plain (f s)) → Plain (if t then Int unchecked (λ key b. Done (Single s (leaf_kinds.Key key) b (Some key))) else f s)
        by_mark true r = plain_int (λ key b. Done (Single s (leaf_kinds.Key key) b (Some key))) (λ v b. tt)
        by_mark false r = r refl

module _ (k : Classes) (sound : Sound k) where
  fields_plain : (m : ℕ) (fs : List Field) → AllByRecursion (λ f. IsKnown k f.shape) fs → AllByRecursion (λ f. option_map_or (λ d. begins_chain m k d) (step_class k f) false ≡ false) fs
      → ((s : Shape) → s.constant ≡ false → DepthBound k m s → IsKnown k s → Plain (class_format (suc m) k s)) → AllByRecursion (λ f. Plain (shape_format (class_format (suc m) k) f.shape)) fs
  fields_plain m [] known a g = tt
  fields_plain m (f ∷ fs) known a g =
      let depth : DepthBound k m f.shape = λ o d q c. ap (λ z. option_map_or (λ d. begins_chain m k d) z false) (sym (steps_to k f d o q c)) ∙ a.0 in
      (shape_plain (class_format (suc m) k) f.shape (λ o. g (item_of f.shape) o depth known.0) (λ o. g f.shape o depth known.0), fields_plain m fs known.1 a.1 g)

  class_plain : (n : ℕ) (s : Shape) → s.constant ≡ false → DepthBound k n s → IsKnown k s → Plain (class_format (suc n) k s)
  unfolding class_format
  class_plain zero s o r c =
      subst (λ z. Plain (inline_format (class_format zero k) s z)) (sym c.1)
      (kind_plain (kind_of c.0.name) s (fields_format (class_format zero k) c.0.fields) (λ q. absurd (cc (r o c.0 c.1 q))))
  class_plain (suc m) s o r c =
      subst (λ z. Plain (inline_format (class_format (suc m) k) s z)) (sym c.1)
      (kind_plain (kind_of c.0.name) s (fields_format (class_format (suc m) k) c.0.fields)
      (λ q. (let i : inline_fields c.0 ≡ c.0.fields = ap (λ t. if t then c.0.fields else []) q in
      each_only IsValueReason c.0.fields (λ f. shape_format (class_format (suc m) k) f.shape)
      (fields_plain m c.0.fields (sound_known k s.class c.0 sound c.1)
      (subst (AllByRecursion (λ f. option_map_or (λ d. begins_chain m k d) (step_class k f) false ≡ false)) i
      (any_none (λ f. option_map_or (λ d. begins_chain m k d) (step_class k f) false) (inline_fields c.0) (r o c.0 c.1 q)))
      (class_plain m)))))

-- So no other flaw comes.
pub value_plain : (k : Classes) (s : Shape) (x : List ℕ) (end at o : ℕ) (why : Reason) → Sound k → IsKnown k s → Fails (value_format k s) x end at o why → IsValueReason why
unfolding value_format
value_plain k s x end at o why sound known e =
    let depth : DepthBound k 33 s = λ c d q i. sound_inline k s.class d sound q in
    fails_so IsValueReason (shape_format (class_format 34 k) s) x end at o why
    (shape_plain (class_format 34 k) s (λ c. class_plain k sound 33 (item_of s) c depth known) (λ c. class_plain k sound 33 s c depth known)) e
