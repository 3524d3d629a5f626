-- Each effect of cutting a recording can be done, where the names of its parts are new.
use Rattle.std.proofs.Common.{◌≡◌, ◌≢◌, ℕ, ◌+◌, ◌<◌, ◌≤◌, refl, sym, ◌∙◌, ap, subst, Bool, true, false, cond, ◌==◌, ◌||◌, nat_le, List, [], ◌∷◌, ◌++◌, length, Option, None, Some, unwrap_or, Less, Equal, Ordering, if◌then◌else◌, arith}
use Rattle.std.proofs.lemmas.Grind.{common_steps}
use Rattle.std.proofs.lemmas.Bool.{leb-false}
use Rattle.std.specs.FinMap as fin
use Rattle.std.specs.List.{AllByRecursion}
use Rattle.jfr_base.specs.declared.flaw.Flaw.{Flaw}
use Rattle.jfr_outside.specs.World.{World, Files, grown, file as file_of}
use Rattle.jfr_header.specs.declared.ending.Ending.{Ending}
use Rattle.jfr_header.specs.declared.ending.Ending.TheVariants.{WriteFault}
use Rattle.jfr_plan.specs.Ends.{TooMany, NotWritten, command_end}
use Rattle.jfr_plan.specs.Effects.{Effect, Create, Append, Finish, Snapshot, Outside, AtEnd, Chunks, needing, apply, effects, snapshot}
use Rattle.jfr_plan.specs.Rules.{Asked, Stops, Goes, Walk, Parts, walk, walk_on, cut_after, plan_after, plan_in}
use Rattle.jfr_plan.specs.Outcomes.{After, Breaks, Tallied}
use Rattle.jfr_plan.proofs.Clauses.{writes_clause, Cans, none_breaks}
use Rattle.jfr_plan.proofs.Walking.{effects_needing, effects_append}
use Rattle.jfr_split.specs.Parts.{SplitRule, IsUsable, Part, folder_of, no_part, begins, is_full, part_by, part_with, part_of}
use Rattle.jfr_split.specs.Names.{part_name}
use Rattle.jfr_split.specs.Splits.{closing, asks_part, splitting_as, splitting}
use Rattle.jfr_split.specs.Clauses.{created_names, CanCreateAll}
use Rattle.jfr_split.proofs.Basics.{for_each, for_both, some_none, none_is, told_before, told_at}
use Rattle.jfr_split.proofs.Fold.{of_snoc, of_none}
use Rattle.jfr_split.proofs.Naming.{names_rise}
use Rattle.jfr_split.proofs.Ordered.{order, order_same}
use Rattle.jfr_split.proofs.Over.{is, Rises, same_name, look}

-- What is asked for, before later effects.
abbrev on : Asked → List Effect → List Effect
on (Stops e) later = []
on (Goes es) later = es ++ later

-- The effects of chunks that come after a part.
abbrev parted : SplitRule → (ℕ → List ℕ) → Part → List (List ℕ) → Option Flaw → List Effect
parted rule name p [] None = closing p
parted rule name p [] (Some f) = []
parted rule name p (c ∷ cs) flaw = on (asks_part rule name (begins rule p c) p c) (parted rule name (part_with rule p c) cs flaw)

walked_on : (a : Asked) (n : ℕ) (later : Walk) → effects (walk_on a n later).steps ≡ on a (effects later.steps)
walked_on (Stops e) n later = refl
walked_on (Goes es) n later = effects_append (needing (Chunks n) es) later.steps ∙ ap (λ (x : List Effect). x ++ effects later.steps) (effects_needing (Chunks n) es)

walked : (rule : SplitRule) (name : ℕ → List ℕ) (before cs : List (List ℕ)) (flaw : Option Flaw)
    → effects (walk (splitting_as rule name) before cs flaw).steps ≡ parted rule name (part_of rule before) cs flaw
walked rule name before [] None = effects_needing AtEnd (closing (part_of rule before))
walked rule name before [] (Some f) = refl
walked rule name before (c ∷ cs) flaw =
    let p = part_of rule before in
    let a = asks_part rule name (begins rule p c) p c in
    walked_on a (length before + 1) (walk (splitting_as rule name) (before ++ c ∷ []) cs flaw)
    ∙ ap (on a) (walked rule name (before ++ c ∷ []) cs flaw ∙ ap (λ (q : Part). parted rule name q cs flaw) (of_snoc rule before c))

-- The name of a part after number n, up to the top.
abbrev IsLater : (ℕ → List ℕ) → ℕ → ℕ → List ℕ → Type 0
IsLater name n top q = (m : ℕ) × (n < m) × (m ≤ top) × (q ≡ name m)

abbrev AllLater : (ℕ → List ℕ) → ℕ → ℕ → List Effect → Type 0
AllLater name n top es = AllByRecursion (IsLater name n top) (created_names es)

-- Later effects still create later parts.
still_later : (name : ℕ → List ℕ) (n m top : ℕ) (es : List Effect) → n ≤ m → AllLater name m top es → AllLater name n top es
still_later name n m top es l h = for_each (IsLater name m top) (IsLater name n top) (created_names es) (λ q k. (k.0, omega (arith, l, k.1), k.2, k.3)) h

-- The effects of a new part, by whether there is none before.
abbrev new_by : Bool → List ℕ → List ℕ → List Effect → List Effect
new_by z name c later = ((if z then [] else Finish ∷ []) ++ Create name ∷ Append c ∷ []) ++ later

creates_new : (z : Bool) (name c : List ℕ) (later : List Effect) → created_names (new_by z name c later) ≡ name ∷ created_names later
creates_new true name c later = refl
creates_new false name c later = refl

abbrev new_on : Bool → List Effect → List Effect → List Effect
new_on t es later = on (if t then Stops TooMany else Goes es) later

later_new : (t : Bool) (rule : SplitRule) (name : ℕ → List ℕ) (p : Part) (c : List ℕ) (later : List Effect) → nat_le rule.max_parts p.number ≡ t → AllLater name (p.number + 1) rule.max_parts later
    → AllLater name p.number rule.max_parts (new_on t (closing p ++ Create (name (p.number + 1)) ∷ Append c ∷ []) later)
later_new true rule name p c later e h = tt
later_new false rule name p c later e h =
    let n = p.number in
    let room : n < rule.max_parts = leb-false rule.max_parts n e in
    let next : IsLater name n rule.max_parts (name (n + 1)) = (n + 1, omega arith, omega (arith, room), refl) in
    subst (λ (x : List (List ℕ)). AllByRecursion (IsLater name n rule.max_parts) x) (sym (creates_new (n == 0) (name (n + 1)) c later))
    (next, still_later name n (n + 1) rule.max_parts later (omega arith) h)

later_by : (b : Bool) (rule : SplitRule) (name : ℕ → List ℕ) (p : Part) (c : List ℕ) (later : List Effect) → AllLater name (part_by b p c).number rule.max_parts later
    → AllLater name p.number rule.max_parts (on (asks_part rule name b p c) later)
later_by true rule name p c later h = later_new (nat_le rule.max_parts p.number) rule name p c later refl h
later_by false rule name p c later h = h

later_end : (z : Bool) (name : ℕ → List ℕ) (n top : ℕ) → AllLater name n top (if z then [] else Finish ∷ [])
later_end true name n top = tt
later_end false name n top = tt

all_later : (rule : SplitRule) (name : ℕ → List ℕ) (p : Part) (cs : List (List ℕ)) (flaw : Option Flaw) → AllLater name p.number rule.max_parts (parted rule name p cs flaw)
all_later rule name p [] None = later_end (p.number == 0) name p.number rule.max_parts
all_later rule name p [] (Some f) = tt
all_later rule name p (c ∷ cs) flaw = later_by (begins rule p c) rule name p c (parted rule name (part_with rule p c) cs flaw) (all_later rule name (part_with rule p c) cs flaw)

-- No file has a name that these effects create.
abbrev AllNew : Files → List Effect → Type 0
AllNew files es = AllByRecursion (λ q. fin.get files q ≡ None) (created_names es)

no_tie : (b : Bool) (name : ℕ → List ℕ) (top n m : ℕ) → Rises name top → n < m → m ≤ top → is (name m) (name n) ≡ b → b ≡ false
no_tie false name top n m r l k e = refl
no_tie true name top n m r l k e =
    let same : name m ≡ name n = same_name (name m) (name n) e in
    let less : order (name n) (name m) ≡ Less = r n m l k in
    let equal : order (name n) (name m) ≡ Equal = ap (order (name n)) same ∙ order_same (name n) in
    absurd (less_equal (sym less ∙ equal))
  where
    less_equal : ◌≡◌ {A = Ordering} Less Equal → ⊥
    less_equal e = cc

-- An entry of this part leaves the names of later parts new.
new_after : (name : ℕ → List ℕ) (n top : ℕ) (files : Files) (v : List ℕ) (es : List Effect) → Rises name top → AllLater name n top es → AllNew files es → AllNew (fin.insert files (name n) v) es
new_after name n top files v es r later new =
    for_both (IsLater name n top) (λ q. fin.get files q ≡ None) (λ q. fin.get (fin.insert files (name n) v) q ≡ None) (created_names es)
    (λ q k h.
    let apart : is q (name n) ≡ false = ap (λ (x : List ℕ). is x (name n)) k.3 ∙ no_tie (is (name k.0) (name n)) name top n k.0 r k.1 k.2 refl in
    look files (name n) v q ∙ ap (λ (b : Bool). cond b (Some v) (fin.get files q)) apart ∙ h)
    later new

-- The name of the open output while a part is filled.
abbrev open_name : (ℕ → List ℕ) → ℕ → Option (List ℕ)
open_name name n = if n == 0 then None else Some (name n)

open_next : (name : ℕ → List ℕ) (n : ℕ) → Some (name (n + 1)) ≡ open_name name (n + 1)
open_next name n = open_by (n + 1 == 0) refl
  where
    open_by : (b : Bool) → (n + 1 == 0) ≡ b → Some (name (n + 1)) ≡ (if b then None else Some (name (n + 1)))
    open_by true e = absurd (grind (arith, common_steps, e))
    open_by false e = refl

-- What follows a part: it can be done wherever this part is open and the names of the later ones are new.
abbrev CanFollow : (ℕ → List ℕ) → ℕ → List Effect → Type 0
CanFollow name n es = (s : Snapshot) → s.output ≡ open_name name n → AllNew s.files es → Cans es s

grown_new : (name : ℕ → List ℕ) (n top : ℕ) (files : Files) (o : Option (List ℕ)) (c : List ℕ) (es : List Effect) → o ≡ Some (name n) → Rises name top → AllLater name n top es → AllNew files es
    → AllNew (grown o c files) es
grown_new name n top files o c es e r later new =
    subst (λ (y : Option (List ℕ)). AllNew (grown y c files) es) (sym e) (new_after name n top files (unwrap_or (fin.get files (name n)) [] ++ c) es r later new)

-- The chunk goes to the open part.
more_can : (name : ℕ → List ℕ) (n top : ℕ) (c : List ℕ) (later : List Effect) (s : Snapshot) → Rises name top → AllLater name n top later → CanFollow name n later → s.output ≡ Some (name n)
    → open_name name n ≡ Some (name n) → AllNew s.files later → Cans (Append c ∷ later) s
more_can name n top c later s r l f o here new = (some_none s.output (name n) o, f (apply (Append c) s) (o ∙ sym here) (grown_new name n top s.files s.output c later o r l new))

-- A part is created, with no part open.
create_can : (name : ℕ → List ℕ) (n top : ℕ) (c : List ℕ) (later : List Effect) (s : Snapshot) → Rises name top → AllLater name n top later → CanFollow name n later → s.output ≡ None
    → open_name name n ≡ Some (name n) → fin.get s.files (name n) ≡ None → AllNew s.files later → Cans (Create (name n) ∷ Append c ∷ later) s
create_can name n top c later s r l f o here free new =
    (λ can. none_is s.output o (can free), more_can name n top c later (apply (Create (name n)) s) r l f refl here (new_after name n top s.files [] later r l new))

next_can : (z : Bool) (name : ℕ → List ℕ) (n top : ℕ) (c : List ℕ) (later : List Effect) (s : Snapshot) → Rises name top → AllLater name (n + 1) top later → CanFollow name (n + 1) later
    → s.output ≡ (if z then None else Some (name n)) → AllNew s.files (new_by z (name (n + 1)) c later) → Cans (new_by z (name (n + 1)) c later) s
next_can true name n top c later s r l f o new = create_can name (n + 1) top c later s r l f o (sym (open_next name n)) new.0 new.1
next_can false name n top c later s r l f o new = (some_none s.output (name n) o, create_can name (n + 1) top c later (apply Finish s) r l f refl (sym (open_next name n)) new.0 new.1)

new_can : (t : Bool) (rule : SplitRule) (name : ℕ → List ℕ) (p : Part) (c : List ℕ) (later : List Effect) → Rises name rule.max_parts → AllLater name (p.number + 1) rule.max_parts later
    → CanFollow name (p.number + 1) later
    → CanFollow name p.number (new_on t (closing p ++ Create (name (p.number + 1)) ∷ Append c ∷ []) later)
new_can true rule name p c later r l f s o new = tt
new_can false rule name p c later r l f s o new = next_can (p.number == 0) name p.number rule.max_parts c later s r l f o new

part_can : (b : Bool) (rule : SplitRule) (name : ℕ → List ℕ) (p : Part) (c : List ℕ) (later : List Effect) → begins rule p c ≡ b → Rises name rule.max_parts
    → AllLater name (part_by b p c).number rule.max_parts later → CanFollow name (part_by b p c).number later
    → CanFollow name p.number (on (asks_part rule name b p c) later)
part_can true rule name p c later e r l f s o new = new_can (nat_le rule.max_parts p.number) rule name p c later r l f s o new
part_can false rule name p c later e r l f s o new =
    let here : open_name name p.number ≡ Some (name p.number) = open_by (p.number == 0) (is_full rule p c) e in
    more_can name p.number rule.max_parts c later s r l f (o ∙ here) here new
  where
    open_by : (z y : Bool) → (z || y) ≡ false → (if z then None else Some (name p.number)) ≡ Some (name p.number)
    open_by true y e = cc
    open_by false y e = refl

end_can : (z : Bool) (n : List ℕ) (s : Snapshot) → s.output ≡ (if z then None else Some n) → Cans (if z then [] else Finish ∷ []) s
end_can true n s o = tt
end_can false n s o = (some_none s.output n o, tt)

follow : (rule : SplitRule) (name : ℕ → List ℕ) (p : Part) (cs : List (List ℕ)) (flaw : Option Flaw) → Rises name rule.max_parts → CanFollow name p.number (parted rule name p cs flaw)
follow rule name p [] None r s o new = end_can (p.number == 0) (name p.number) s o
follow rule name p [] (Some f) r s o new = tt
follow rule name p (c ∷ cs) flaw r s o new =
    part_can (begins rule p c) rule name p c (parted rule name (part_with rule p c) cs flaw) refl r (all_later rule name (part_with rule p c) cs flaw)
    (follow rule name (part_with rule p c) cs flaw r) s o new

-- The names of the parts rise.
pub rises : (rule : SplitRule) (folder : Option (List ℕ)) (file : List ℕ) → IsUsable rule → Rises (part_name folder file) rule.max_parts
rises rule folder file u a b h k = names_rise folder file a b h (omega (arith, k, u.numbered))

plan_can : (rule : SplitRule) (file : List ℕ) (x : Option (List ℕ)) (s : Snapshot) → IsUsable rule → s.output ≡ None → AllNew s.files (effects (plan_after (splitting rule file) [] x).steps)
    → Cans (effects (plan_after (splitting rule file) [] x).steps) s
plan_can rule file None s u o new = tt
plan_can rule file (Some x) s u o new =
    let name = part_name (folder_of rule) file in
    let cs = (cut_after [] x).chunks in
    let flaw = (cut_after [] x).flaw in
    let e : effects (walk (splitting_as rule name) [] cs flaw).steps ≡ parted rule name no_part cs flaw = walked rule name [] cs flaw ∙ ap (λ (p : Part). parted rule name p cs flaw) (of_none rule) in
    subst (λ (es : List Effect). Cans es s) (sym e) (follow rule name no_part cs flaw (rises rule (folder_of rule) file u) s o (subst (λ (es : List Effect). AllNew s.files es) e new))

no_write_fault : (rule : SplitRule) (file : List ℕ) (e : Ending) (a b : Outside) → IsUsable rule → CanCreateAll (splitting rule file) file a.place
    → After (splitting rule file) [] file (command_end e) a b → e ≡ WriteFault → ⊥
no_write_fault rule file e a b u c t is =
    let r = splitting rule file in
    let h : After r [] file NotWritten a b = subst (λ (y : Ending). After r [] file (command_end y) a b) is t in
    let F : World → Type 0 = λ w. AllNew w.files (effects (plan_in r file w).steps) → w.output ≡ None → ⊥ in
    told_at a.place.contents c.world F c.contents
    (told_before a.place.contents b.place.contents (λ w v. Breaks a.place.steady (effects (plan_in r file w).steps) (snapshot w a.sink.written) (snapshot v b.sink.written)) F h
    (λ w v z new closed. none_breaks (effects (plan_in r file w).steps) z.first z.rest z.failed (snapshot w a.sink.written)
    (plan_can rule file (file_of w file) (snapshot w a.sink.written) u closed new) z.parts (z.cause c.steady)))
    c.new c.closed

-- A steady place without an open output gives no write fault where the names of the parts are new.
pub can_create : (rule : SplitRule) (file : List ℕ) (e : Ending) (a b : Outside) → IsUsable rule → After (splitting rule file) [] file (command_end e) a b → Tallied Parts (command_end e) a b
    → CanCreateAll (splitting rule file) file a.place → (e ≢ WriteFault) × (b.place.write_faults ≡ a.place.write_faults)
can_create rule file e a b u t c can =
    let no = no_write_fault rule file e a b u can t in
    (no, writes_clause Parts e a b c no)
