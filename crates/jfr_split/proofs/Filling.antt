-- What the parts hold once all chunks are appended.
use Rattle.std.proofs.Common.{◌≡◌, ℕ, zero, suc, ◌+◌, ◌<◌, ◌≤◌, refl, sym, ◌∙◌, ap, subst, Bool, true, false, cond, ◌&&◌, List, [], ◌∷◌, ◌++◌, length, Option, Some, unwrap_or, nat_le, ◌==◌, if◌then◌else◌, append_assoc, append-nil, arith}
use Rattle.std.proofs.lemmas.Grind.{common_steps}
use Rattle.std.proofs.lemmas.Bool.{leb-false, lt-leb}
use Rattle.std.specs.Prelude.{is_some}
use Rattle.std.specs.FinMap as fin
use Rattle.jfr_outside.specs.World.{Files, grown}
use Rattle.jfr_header.specs.Cuts.{joined}
use Rattle.jfr_plan.specs.Effects.{Effect, Create, Append, Finish, Snapshot, apply, done}
use Rattle.jfr_plan.specs.Rules.{Stops, Goes, asked, IsGoing, gone, AllGo}
use Rattle.jfr_plan.specs.Ends.{TooMany}
use Rattle.jfr_split.specs.Parts.{SplitRule, Part, no_part, begins, part_by, part_with, part_of}
use Rattle.jfr_split.specs.Splits.{closing, asks_new, asks_part, splitting_as}
use Rattle.jfr_split.proofs.Fold.{of_snoc, Groups, grouped, groups_after, groups}
use Rattle.jfr_split.proofs.Rejoin.{AllFull}
use Rattle.jfr_split.proofs.Over.{is, over, numbered, Rises, over_numbered, hides, same_name, is_self, look}

-- After these effects the open part, which held b, and the later parts hold their chunks.
abbrev pub Fills : (ℕ → List ℕ) → ℕ → Groups → List Effect → Type 0
Fills name n g es = (s : Snapshot) (b : List ℕ) → s.output ≡ Some (name n) → fin.get s.files (name n) ≡ Some b → (q : List ℕ)
    → fin.get (done es s).files q ≡ over ((name n, b ++ joined g.here) ∷ numbered name (n + 1) g.later) q (fin.get s.files q)

same_by : (b : Bool) (q k x : List ℕ) (o : Option (List ℕ)) → is q k ≡ b → (q ≡ k → o ≡ Some x) → o ≡ cond b (Some x) o
same_by true q k x o e f = f (same_name q k e)
same_by false q k x o e f = refl

pub fills_none : (name : ℕ → List ℕ) (n : ℕ) → Fills name n (record { here = []; later = [] }) []
fills_none name n s b o h q =
    same_by (is q (name n)) q (name n) (b ++ []) (fin.get s.files q) refl (λ e. ap (fin.get s.files) e ∙ h ∙ ap (λ (x : List ℕ). Some x) (sym (append-nil b)))

abbrev pub holds : Files → Option (List ℕ) → Option (List ℕ) → Bool → Snapshot
holds files output text sound = record { files = files; output = output; text = text; sound = sound }

-- The output grows.
pub grown_at : (s : Snapshot) (n b c : List ℕ) → s.output ≡ Some n → fin.get s.files n ≡ Some b
    → apply (Append c) s ≡ holds (fin.insert s.files n (b ++ c)) (Some n) s.text (s.sound && is_some s.output)
grown_at s n b c o h = ap (λ (y : Option (List ℕ)). holds (grown y c s.files) y s.text (s.sound && is_some s.output)) o
    ∙ ap (λ (z : Option (List ℕ)). holds (fin.insert s.files n (unwrap_or z [] ++ c)) (Some n) s.text (s.sound && is_some s.output)) h

pub fills_more : (name : ℕ → List ℕ) (n : ℕ) (c : List ℕ) (g : Groups) (es : List Effect) → Fills name n g es → Fills name n (grouped false c g) (Append c ∷ es)
fills_more name n c g es f s b o h q =
    let k = name n in
    let t : Snapshot = holds (fin.insert s.files k (b ++ c)) (Some k) s.text (s.sound && is_some s.output) in
    let at : fin.get t.files k ≡ Some (b ++ c) = look s.files k (b ++ c) k ∙ ap (λ (x : Bool). cond x (Some (b ++ c)) (fin.get s.files k)) (is_self k) in
    ap (λ (x : Snapshot). fin.get (done es x).files q) (grown_at s k b c o h)
    ∙ f t (b ++ c) refl at q
    ∙ ap (λ (x : Option (List ℕ)). over ((k, (b ++ c) ++ joined g.here) ∷ numbered name (n + 1) g.later) q x) (look s.files k (b ++ c) q)
    ∙ hides (numbered name (n + 1) g.later) k ((b ++ c) ++ joined g.here) q (Some (b ++ c)) (fin.get s.files q)
    ∙ ap (λ (x : List ℕ). over ((k, x) ∷ numbered name (n + 1) g.later) q (fin.get s.files q)) (append_assoc b c (joined g.here))

-- A part is created, and its first chunk appended.
pub fills_first : (name : ℕ → List ℕ) (n : ℕ) (c : List ℕ) (g : Groups) (es : List Effect) → Fills name n g es → (s : Snapshot) (q : List ℕ)
    → fin.get (done (Create (name n) ∷ Append c ∷ es) s).files q ≡ over ((name n, c ++ joined g.here) ∷ numbered name (n + 1) g.later) q (fin.get s.files q)
fills_first name n c g es f s q =
    let k = name n in
    let t = apply (Create k) s in
    let at : fin.get t.files k ≡ Some [] = look s.files k [] k ∙ ap (λ (x : Bool). cond x (Some []) (fin.get s.files k)) (is_self k) in
    fills_more name n c g es f t [] refl at q
    ∙ ap (λ (x : Option (List ℕ)). over ((k, c ++ joined g.here) ∷ numbered name (n + 1) g.later) q x) (look s.files k [] q)
    ∙ hides (numbered name (n + 1) g.later) k (c ++ joined g.here) q (Some []) (fin.get s.files q)

-- The part before is finished.
pub fills_next : (name : ℕ → List ℕ) (top n : ℕ) (c : List ℕ) (g : Groups) (es : List Effect) → Rises name top → n + 1 + length g.later ≤ top → Fills name (n + 1) g es
    → Fills name n (grouped true c g) (Finish ∷ Create (name (n + 1)) ∷ Append c ∷ es)
fills_next name top n c g es r l f s b o h q =
    let later = numbered name (n + 1) ((c ∷ g.here) ∷ g.later) in
    fills_first name (n + 1) c g es f (apply Finish s) q
    ∙ same_by (is q (name n)) q (name n) (b ++ []) (over later q (fin.get s.files q)) refl
    (λ e. ap (λ (x : List ℕ). over later x (fin.get s.files x)) e ∙ over_numbered name top n (n + 1) ((c ∷ g.here) ∷ g.later) (fin.get s.files (name n)) r (omega arith) (omega (arith, l)) ∙ h
    ∙ ap (λ (x : List ℕ). Some x) (sym (append-nil b)))

-- The effects of chunks that come after a part, and that none of them is the end.
abbrev pub filling : SplitRule → (ℕ → List ℕ) → Part → List (List ℕ) → List Effect
filling rule name p [] = []
filling rule name p (c ∷ cs) = asked (asks_part rule name (begins rule p c) p c) ++ filling rule name (part_with rule p c) cs

abbrev pub AllFit : SplitRule → (ℕ → List ℕ) → Part → List (List ℕ) → Type 0
AllFit rule name p [] = Unit {0}
AllFit rule name p (c ∷ cs) = IsGoing (asks_part rule name (begins rule p c) p c) × AllFit rule name (part_with rule p c) cs

pub gone_filling : (rule : SplitRule) (name : ℕ → List ℕ) (before cs : List (List ℕ)) → gone (splitting_as rule name) before cs ≡ filling rule name (part_of rule before) cs
gone_filling rule name before [] = refl
gone_filling rule name before (c ∷ cs) =
    let es = asked (asks_part rule name (begins rule (part_of rule before) c) (part_of rule before) c) in
    ap (λ (x : List Effect). es ++ x) (gone_filling rule name (before ++ c ∷ []) cs ∙ ap (λ (p : Part). filling rule name p cs) (of_snoc rule before c))

pub all_fit : (rule : SplitRule) (name : ℕ → List ℕ) (before cs : List (List ℕ)) → AllGo (splitting_as rule name) before cs → AllFit rule name (part_of rule before) cs
all_fit rule name before [] g = tt
all_fit rule name before (c ∷ cs) g = (g.0, subst (λ (p : Part). AllFit rule name p cs) (of_snoc rule before c) (all_fit rule name (before ++ c ∷ []) cs g.1))

-- A new part may be had.
new_by : (rule : SplitRule) (name : ℕ → List ℕ) (p : Part) (c : List ℕ) (m : ℕ) (b : Bool) → nat_le m p.number ≡ b → (es : List Effect) → IsGoing (if b then Stops TooMany else Goes es) → p.number < m
new_by rule name p c m true e es g = cc
new_by rule name p c m false e es g = leb-false m p.number e

pub may_begin : (rule : SplitRule) (name : ℕ → List ℕ) (p : Part) (c : List ℕ) → IsGoing (asks_new rule name p c) → p.number < rule.max_parts
may_begin rule name p c g = new_by rule name p c rule.max_parts (nat_le rule.max_parts p.number) refl (closing p ++ Create (name (p.number + 1)) ∷ Append c ∷ []) g

-- There may be one part more.
pub asks_some : (rule : SplitRule) (name : ℕ → List ℕ) (p : Part) (c : List ℕ) → p.number < rule.max_parts
    → asks_new rule name p c ≡ Goes ((closing p ++ Create (name (p.number + 1)) ∷ []) ++ Append c ∷ [])
asks_some rule name p c h =
    let es = closing p ++ Create (name (p.number + 1)) ∷ Append c ∷ [] in
    ap (λ (b : Bool). if b then Stops TooMany else Goes es) (lt-leb rule.max_parts p.number h)
    ∙ ap (λ (x : List Effect). Goes x) (sym (append_assoc (closing p) (Create (name (p.number + 1)) ∷ []) (Append c ∷ [])))

pub new_asks : (rule : SplitRule) (name : ℕ → List ℕ) (p : Part) (c : List ℕ) → IsGoing (asks_new rule name p c)
    → asked (asks_new rule name p c) ≡ closing p ++ Create (name (p.number + 1)) ∷ Append c ∷ []
new_asks rule name p c g = by (nat_le rule.max_parts p.number) (closing p ++ Create (name (p.number + 1)) ∷ Append c ∷ []) g
  where
    by : (b : Bool) (es : List Effect) → IsGoing (if b then Stops TooMany else Goes es) → asked (if b then Stops TooMany else Goes es) ≡ es
    by true es h = cc
    by false es h = refl

pub closed : (n : ℕ) → 1 ≤ n → (if n == 0 then [] else Finish ∷ []) ≡ Finish ∷ []
closed zero h = absurd (omega (arith, h))
closed (suc n) h = grind (arith, common_steps)

-- There are no more parts than may be.
within_by : (b : Bool) (rule : SplitRule) (name : ℕ → List ℕ) (p : Part) (c : List ℕ) (g : Groups) → IsGoing (asks_part rule name b p c) → p.number ≤ rule.max_parts
    → ((part_by b p c).number ≤ rule.max_parts → (part_by b p c).number + length g.later ≤ rule.max_parts) → p.number + length (grouped b c g).later ≤ rule.max_parts
within_by true rule name p c g f h i = let k = may_begin rule name p c f in let m = i (omega (arith, k)) in omega (arith, m)
within_by false rule name p c g f h i = i h

pub all_within : (rule : SplitRule) (name : ℕ → List ℕ) (p : Part) (cs : List (List ℕ)) → AllFit rule name p cs → p.number ≤ rule.max_parts
    → p.number + length (groups_after rule p cs).later ≤ rule.max_parts
all_within rule name p [] f h = omega (arith, h)
all_within rule name p (c ∷ cs) f h = within_by (begins rule p c) rule name p c (groups_after rule (part_with rule p c) cs) f.0 h (all_within rule name (part_with rule p c) cs f.1)

fill_by : (b : Bool) (rule : SplitRule) (name : ℕ → List ℕ) (top : ℕ) (p : Part) (c : List ℕ) (g : Groups) (es : List Effect) → Rises name top → IsGoing (asks_part rule name b p c) → 1 ≤ p.number
    → (part_by b p c).number + length g.later ≤ top → Fills name (part_by b p c).number g es → Fills name p.number (grouped b c g) (asked (asks_part rule name b p c) ++ es)
fill_by true rule name top p c g es r f h k i =
    let e : asked (asks_new rule name p c) ≡ Finish ∷ Create (name (p.number + 1)) ∷ Append c ∷ [] =
    new_asks rule name p c f ∙ ap (λ (x : List Effect). x ++ Create (name (p.number + 1)) ∷ Append c ∷ []) (closed p.number h) in
    subst (λ (x : List Effect). Fills name p.number (grouped true c g) (x ++ es)) (sym e) (fills_next name top p.number c g es r k i)
fill_by false rule name top p c g es r f h k i = fills_more name p.number c g es i

pub some_number : (b : Bool) (p : Part) (c : List ℕ) → 1 ≤ p.number → 1 ≤ (part_by b p c).number
some_number true p c h = omega arith
some_number false p c h = h

number_by : (b : Bool) (rule : SplitRule) (name : ℕ → List ℕ) (p : Part) (c : List ℕ) → IsGoing (asks_part rule name b p c) → p.number ≤ rule.max_parts → (part_by b p c).number ≤ rule.max_parts
number_by true rule name p c f h = let k = may_begin rule name p c f in omega (arith, k)
number_by false rule name p c f h = h

fills : (rule : SplitRule) (name : ℕ → List ℕ) (p : Part) (cs : List (List ℕ)) → Rises name rule.max_parts → AllFit rule name p cs → 1 ≤ p.number → p.number ≤ rule.max_parts
    → Fills name p.number (groups_after rule p cs) (filling rule name p cs)
fills rule name p [] r f h m = fills_none name p.number
fills rule name p (c ∷ cs) r f h m =
    let b = begins rule p c in
    let n = number_by b rule name p c f.0 m in
    fill_by b rule name rule.max_parts p c (groups_after rule (part_with rule p c) cs) (filling rule name (part_with rule p c) cs) r f.0 h (all_within rule name (part_with rule p c) cs f.1 n)
    (fills rule name (part_with rule p c) cs r f.1 (some_number b p c h) n)

-- The files of the parts, in place of those there before.
pub filled : (rule : SplitRule) (name : ℕ → List ℕ) (cs : List (List ℕ)) → Rises name rule.max_parts → AllFit rule name no_part cs → (s : Snapshot) (q : List ℕ)
    → fin.get (done (filling rule name no_part cs) s).files q ≡ over (numbered name 1 (groups rule cs)) q (fin.get s.files q)
filled rule name [] r f s q = refl
filled rule name (c ∷ cs) r f s q =
    let k = may_begin rule name no_part c f.0 in
    let es = filling rule name (part_with rule no_part c) cs in
    ap (λ (x : List Effect). fin.get (done (x ++ es) s).files q) (new_asks rule name no_part c f.0)
    ∙ fills_first name 1 c (groups_after rule (part_with rule no_part c) cs) es (fills rule name (part_with rule no_part c) cs r f.1 (omega arith) (omega (arith, k))) s q

-- No part is empty.
full_by : (b : Bool) (c : List ℕ) (g : Groups) → AllFull g.later → AllFull (grouped b c g).later
full_by true c g h = h
full_by false c g h = h

pub all_full : (rule : SplitRule) (p : Part) (cs : List (List ℕ)) → AllFull (groups_after rule p cs).later
all_full rule p [] = tt
all_full rule p (c ∷ cs) = full_by (begins rule p c) c (groups_after rule (part_with rule p c) cs) (all_full rule (part_with rule p c) cs)
