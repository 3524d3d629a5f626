-- The groups that the last part is counted by are parts, and are written.
use Rattle.std.proofs.Common.{◌≡◌, ℕ, ◌+◌, ◌≤◌, refl, sym, ◌∙◌, ap, subst, Bool, true, false, ◌||◌, ◌==◌, nat_le, nat_lt, List, [], ◌∷◌, ◌++◌, length, None, Some, append_assoc, append-nil, length-append, arith}
use Rattle.std.proofs.lemmas.Grind.{common_steps}
use Rattle.jfr_header.specs.Cuts.{joined}
use Rattle.jfr_plan.specs.Ends.{Fine}
use Rattle.jfr_plan.specs.Effects.{Effect, Create, Append, Finish, AtEnd}
use Rattle.jfr_plan.specs.Rules.{IsGoing, asked, gone, cut_after}
use Rattle.jfr_plan.proofs.EndsWell.{plan_ends_well}
use Rattle.jfr_plan.proofs.Walking.{from_here, effects_needing}
use Rattle.jfr_split.specs.Parts.{SplitRule, Part, folder_of, no_part, is_full, begins, part_by, part_with, part_after, part_of}
use Rattle.jfr_split.specs.Names.{part_name}
use Rattle.jfr_split.specs.Splits.{closing, asks_part, splitting_as}
use Rattle.jfr_split.specs.Laws.{split_plan}
use Rattle.jfr_split.specs.Groups.{is_full_for, Fit, WasFull, AreParts, written, AreWritten}
use Rattle.jfr_split.proofs.Fold.{Groups, grouped, groups_after, groups, groups_flat, of_none, of_all}
use Rattle.jfr_split.proofs.Filling.{filling, AllFit, gone_filling, all_fit, all_within, new_asks, closed, some_number}
use Rattle.jfr_split.proofs.Rejoin.{appends, joined_append}
use Rattle.jfr_split.proofs.Round.{never}

-- A part that is open has counted this group.
record Counts (p : Part) (group : List (List ℕ)) : Type 0 where
  pub some : 1 ≤ p.number
  pub chunks : p.chunks ≡ length group
  pub bytes : p.bytes ≡ length (joined group)

full_for : (rule : SplitRule) (p : Part) (group : List (List ℕ)) (c : List ℕ) → Counts p group → begins rule p c ≡ is_full_for rule group c
full_for rule p group c h =
    number_by (p.number == 0) (is_full rule p c) (grind (arith, common_steps, h.some))
    ∙ ap (λ (n : ℕ). nat_le rule.max_chunks n || nat_lt rule.max_size (p.bytes + length c)) h.chunks
    ∙ ap (λ (n : ℕ). nat_le rule.max_chunks (length group) || nat_lt rule.max_size (n + length c)) h.bytes
  where
    number_by : (z y : Bool) → z ≡ false → (z || y) ≡ y
    number_by z y e = ap (λ (b : Bool). b || y) e

counts_first : (p : Part) (c : List ℕ) → Counts (part_by true p c) (c ∷ [])
counts_first p c = record { some = omega arith; chunks = refl; bytes = ap length (sym (append-nil c)) }

counts_more : (p : Part) (group : List (List ℕ)) (c : List ℕ) → Counts p group → Counts (part_by false p c) (group ++ c ∷ [])
counts_more p group c h = record {
  some = h.some;
  chunks = ap (λ (n : ℕ). n + 1) h.chunks ∙ sym (length-append group (c ∷ []));
  bytes = ap (λ (n : ℕ). n + length c) h.bytes ∙ sym (length-append (joined group) c) ∙ ap (λ (x : List ℕ). length (joined group ++ x)) (sym (append-nil c))
      ∙ ap length (sym (joined_append group (c ∷ [])));
}

-- The groups that follow a part, which has this group so far.
record Follow (rule : SplitRule) (group : List (List ℕ)) (g : Groups) : Type 0 where
  pub fit : Fit rule group g.here
  pub full : WasFull rule (group ++ g.here) g.later
  pub are : AreParts rule g.later

follow_by : (b : Bool) (rule : SplitRule) (p : Part) (group : List (List ℕ)) (c : List ℕ) (g : Groups) → is_full_for rule group c ≡ b → Counts p group
    → ((group' : List (List ℕ)) → Counts (part_by b p c) group' → Follow rule group' g) → Follow rule group (grouped b c g)
follow_by true rule p group c g e h f =
    let k = f (c ∷ []) (counts_first p c) in
    record { fit = tt; full = ap (λ (x : List (List ℕ)). is_full_for rule x c) (append-nil group) ∙ e; are = (k.fit, k.full, k.are) }
follow_by false rule p group c g e h f =
    let k = f (group ++ c ∷ []) (counts_more p group c h) in
    record { fit = (e, k.fit); full = subst (λ (x : List (List ℕ)). WasFull rule x g.later) (append_assoc group (c ∷ []) g.here) k.full; are = k.are }

follow : (rule : SplitRule) (p : Part) (group cs : List (List ℕ)) → Counts p group → Follow rule group (groups_after rule p cs)
follow rule p group [] h = record { fit = tt; full = tt; are = tt }
follow rule p group (c ∷ cs) h = follow_by (begins rule p c) rule p group c (groups_after rule (part_with rule p c) cs) (sym (full_for rule p group c h)) h
    (λ group' k. follow rule (part_with rule p c) group' cs k)

-- The groups are parts.
are_parts : (rule : SplitRule) (cs : List (List ℕ)) → AreParts rule (groups rule cs)
are_parts rule [] = tt
are_parts rule (c ∷ cs) = let k = follow rule (part_with rule no_part c) (c ∷ []) cs (counts_first no_part c) in (k.fit, k.full, k.are)

-- What is done for chunks that come after a part, to its end.
abbrev parted : SplitRule → (ℕ → List ℕ) → Part → List (List ℕ) → List Effect
parted rule name p cs = filling rule name p cs ++ closing (part_after rule p cs)

abbrev Writes : (ℕ → List ℕ) → ℕ → Groups → List Effect → Type 0
Writes name n g es = es ≡ appends g.here ++ Finish ∷ written name (n + 1) g.later

writes_by : (b : Bool) (rule : SplitRule) (name : ℕ → List ℕ) (p : Part) (c : List ℕ) (g : Groups) (es : List Effect) → 1 ≤ p.number → IsGoing (asks_part rule name b p c)
    → Writes name (part_by b p c).number g es → Writes name p.number (grouped b c g) (asked (asks_part rule name b p c) ++ es)
writes_by true rule name p c g es h go w =
    let n = p.number in
    ap (λ (x : List Effect). x ++ es) (new_asks rule name p c go)
    ∙ ap (λ (x : List Effect). (x ++ Create (name (n + 1)) ∷ Append c ∷ []) ++ es) (closed n h)
    ∙ ap (λ (x : List Effect). Finish ∷ Create (name (n + 1)) ∷ Append c ∷ x) w
writes_by false rule name p c g es h go w = ap (λ (x : List Effect). Append c ∷ x) w

writes : (rule : SplitRule) (name : ℕ → List ℕ) (p : Part) (cs : List (List ℕ)) → 1 ≤ p.number → AllFit rule name p cs → Writes name p.number (groups_after rule p cs) (parted rule name p cs)
writes rule name p [] h f = closed p.number h
writes rule name p (c ∷ cs) h f =
    let b = begins rule p c in
    append_assoc (asked (asks_part rule name b p c)) (filling rule name (part_with rule p c) cs) (closing (part_after rule p (c ∷ cs)))
    ∙ writes_by b rule name p c (groups_after rule (part_with rule p c) cs) (parted rule name (part_with rule p c) cs) h f.0 (writes rule name (part_with rule p c) cs (some_number b p c h) f.1)

all_written : (rule : SplitRule) (name : ℕ → List ℕ) (cs : List (List ℕ)) → AllFit rule name no_part cs → parted rule name no_part cs ≡ written name 1 (groups rule cs)
all_written rule name [] f = refl
all_written rule name (c ∷ cs) f =
    let p = part_with rule no_part c in
    append_assoc (asked (asks_part rule name true no_part c)) (filling rule name p cs) (closing (part_after rule p cs))
    ∙ ap (λ (x : List Effect). x ++ parted rule name p cs) (new_asks rule name no_part c f.0)
    ∙ ap (λ (x : List Effect). Create (name 1) ∷ Append c ∷ x) (writes rule name p cs (omega arith) f.1)

few_parts : (n m : ℕ) → 0 + n ≤ m → n ≤ m
few_parts n m h = omega (arith, h)

-- A recording that was cut to its end is written as parts.
pub parts_written : (rule : SplitRule) (file x : List ℕ) → (split_plan rule file x).end ≡ Some Fine → AreWritten rule file x
parts_written rule file x e =
    let name = part_name (folder_of rule) file in
    let r = splitting_as rule name in
    let all = cut_after [] x in
    let g = (plan_ends_well r [] x (never rule name)).0 e in
    let f = from_here r [] x all.chunks [] None (sym (append-nil all.chunks)) g.0 g.1 in
    let fit : AllFit rule name no_part all.chunks = subst (λ (p : Part). AllFit rule name p all.chunks) (of_none rule) (all_fit rule name [] all.chunks g.1) in
    record {
      parts = groups rule all.chunks;
      are = are_parts rule all.chunks;
      chunks = groups_flat rule all.chunks;
      few = few_parts (length (groups rule all.chunks)) rule.max_parts (all_within rule name no_part all.chunks fit (omega arith));
      effects = f.steps ∙ ap (λ (es : List Effect). gone r [] all.chunks ++ es) (effects_needing AtEnd (closing (part_of rule all.chunks)))
          ∙ ap (λ (es : List Effect). es ++ closing (part_of rule all.chunks)) (gone_filling rule name [] all.chunks)
          ∙ ap (λ (p : Part). filling rule name p all.chunks ++ closing (part_of rule all.chunks)) (of_none rule)
          ∙ ap (λ (p : Part). filling rule name no_part all.chunks ++ closing p) (of_all rule all.chunks)
          ∙ all_written rule name all.chunks fit;
    }
