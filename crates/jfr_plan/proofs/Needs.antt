-- After a read fault exactly the effects whose need was met were done.
use Rattle.std.proofs.Common.{◌≡◌, ℕ, suc, ◌+◌, ◌-◌, ◌<◌, ◌≤◌, nat_le, if◌then◌else◌, refl, sym, ◌∙◌, ap, subst, Bool, true, false, List, [], ◌∷◌, ◌++◌, take, drop, length, Option, None, Some, IfSome, arith, append_assoc, length-append}
use Rattle.std.proofs.lemmas.Grind.{common_steps}
use Rattle.jfr_base.specs.declared.flaw.Flaw.{Flaw}
use Rattle.jfr_header.specs.Fronts.{Front, Bad, End, Chunk, front, headed, sized, header_flaw, size_of, reach, reach_by}
use Rattle.jfr_header.specs.Nexts.{is_header}
use Rattle.jfr_header.specs.Cuts.{Cuts, cut, cut_by, cut_within, joined, whole_in}
use Rattle.jfr_plan.specs.Effects.{Effect, Step, Snapshot, Need, Opened, Chunks, AtEnd, needing, effects, done, is_met, keep_met}
use Rattle.jfr_plan.specs.Rules.{Rule, Walk, Asked, Stops, Goes, walk, walk_on, walk_end, gone, asked, AllGo, cut_after, plan_after}
use Rattle.jfr_plan.specs.Outcomes.{NeedsMet, IsBelowHeader, held, held_count}
use Rattle.jfr_header.proofs.Cutting.{cut_open}
use Rattle.jfr_plan.proofs.Walking.{effects_needing, effects_append}

-- If a chunk is first, the reach is its length; for a flaw of the header it is 68.
abbrev pub Reaches : ℕ → Front → Type 0
Reaches n (Bad f) = is_header f.reason ≡ true → n ≡ 68
Reaches n End = Unit {0}
Reaches n (Chunk c) = length c ≡ n

reaches_sized : (x : List ℕ) (n : ℕ) → Reaches n (sized x n)
reaches_sized x n = grind (arith, common_steps)

reaches_headed : (x : List ℕ) (o : Option Flaw) → Reaches (reach_by (size_of (take 68 x)) o) (headed x o)
reaches_headed x (Some f) = λ h. refl
reaches_headed x None = reaches_sized x (size_of (take 68 x))

pub reaches : (x : List ℕ) (s : ℕ) (f : Bool) → Reaches (reach x) (front x s f)
unfolding front reach
reaches x s f = let h = reaches_headed x (header_flaw (take 68 x)) in grind (arith, common_steps, h)

none_whole_by : (n m : ℕ) (f : Front) (next : List ℕ → Cuts) → Reaches m f → n < m → whole_in n (cut_by f next).chunks ≡ 0
none_whole_by n m (Bad b) next h k = refl
none_whole_by n m End next h k = refl
none_whole_by n m (Chunk c) next h k = grind (arith, common_steps)

-- Fewer bytes than the reach hold no chunk whole.
pub none_whole : (n : ℕ) (x : List ℕ) (s : ℕ) (f : Bool) → n < reach x → whole_in n (cut x s f).chunks ≡ 0
none_whole n x s f k = ap (λ (y : Cuts). whole_in n y.chunks) (cut_open x s f) ∙ none_whole_by n (reach x) (front x s f) (λ c. cut_within (length x) (drop (length c) x) (s + length c) false)
    (reaches x s f) k

-- If a header is flawed, this number of bytes ends before the 68 bytes of that header.
abbrev pub BelowHeader : ℕ → Cuts → Type 0
BelowHeader n y = IfSome y.flaw (IsBelowHeader y n)

below_by : (n : ℕ) (o : Option Flaw) (cs : List ℕ) → n < length cs → IfSome o (λ f. is_header f.reason ≡ true → n < length cs + 68)
below_by n None cs h = tt
below_by n (Some f) cs h = λ y. omega (arith, h)

below_header_by : (n m : ℕ) (f : Front) (next : List ℕ → Cuts) → Reaches m f → n < m → BelowHeader n (cut_by f next)
below_header_by n m (Bad b) next h k = λ y. let e : m ≡ 68 = h y in omega (arith, k, e)
below_header_by n m End next h k = tt
below_header_by n m (Chunk c) next h k =
    let l : length (c ++ joined (next c).chunks) ≡ length c + length (joined (next c).chunks) = length-append c (joined (next c).chunks) in
    below_by n (next c).flaw (c ++ joined (next c).chunks) (omega (arith, l, h, k))

-- Fewer bytes than the reach.
below_header : (n : ℕ) (x : List ℕ) (s : ℕ) (f : Bool) → n < reach x → BelowHeader n (cut x s f)
below_header n x s f k = subst (BelowHeader n) (sym (cut_open x s f))
    (below_header_by n (reach x) (front x s f) (λ c. cut_within (length x) (drop (length c) x) (s + length c) false) (reaches x s f) k)

whole_one : (n m : ℕ) (a : ℕ) → m ≤ n → (if nat_le m n then a + 1 else 0) ≡ a + 1
whole_one n m a h = grind (arith, common_steps)

swap : (a b : ℕ) → (a + b) + 1 ≡ suc a + b
swap a b = omega arith

plus_zero : (a : ℕ) → a + 0 ≡ a
plus_zero a = omega arith

pub whole_past : (n : ℕ) (p q : List (List ℕ)) → length (joined p) ≤ n → whole_in n (p ++ q) ≡ length p + whole_in (n - length (joined p)) q
whole_past n [] q h = grind (arith)
whole_past n (c ∷ p) q h =
    let l : length (c ++ joined p) ≡ length c + length (joined p) = length-append c (joined p) in
    let first : length c ≤ n = omega (arith, l, h) in
    let later : length (joined p) ≤ n - length c = omega (arith, l, h) in
    let e : (n - length c) - length (joined p) ≡ n - length (c ++ joined p) = omega (arith, l, h) in
    let ih = whole_past (n - length c) p q later in
    let w : whole_in (n - length c) (p ++ q) ≡ length p + whole_in (n - length (c ++ joined p)) q = ih ∙ ap (λ (k : ℕ). length p + whole_in k q) e in
    let one : whole_in n (c ∷ (p ++ q)) ≡ whole_in (n - length c) (p ++ q) + 1 = whole_one n (length c) (whole_in (n - length c) (p ++ q)) first in
    one ∙ ap (λ (k : ℕ). k + 1) w ∙ swap (length p) (whole_in (n - length (c ++ joined p)) q)

keep_cons : (b : Bool) (o : Option ℕ) (s : Step) (ss : List Step) → is_met o s.need ≡ b → keep_met o (s ∷ ss) ≡ (if b then s ∷ keep_met o ss else keep_met o ss)
keep_cons true o s ss e = rw e refl
keep_cons false o s ss e = rw e refl

keep_all : (o : Option ℕ) (n : Need) (es : List Effect) → is_met o n ≡ true → keep_met o (needing n es) ≡ needing n es
keep_all o n [] h = refl
keep_all o n (e ∷ es) h = keep_cons true o (record { need = n; effect = e }) (needing n es) h ∙ ap (λ (l : List Step). record { need = n; effect = e } ∷ l) (keep_all o n es h)

keep_none : (o : Option ℕ) (n : Need) (es : List Effect) → is_met o n ≡ false → keep_met o (needing n es) ≡ []
keep_none o n [] h = refl
keep_none o n (e ∷ es) h = keep_cons false o (record { need = n; effect = e }) (needing n es) h ∙ keep_none o n es h

keep_head : (b : Bool) (s : Step) (x y : List Step) → (if b then s ∷ (x ++ y) else x ++ y) ≡ (if b then s ∷ x else x) ++ y
keep_head true s x y = refl
keep_head false s x y = refl

keep_append : (o : Option ℕ) (a b : List Step) → keep_met o (a ++ b) ≡ keep_met o a ++ keep_met o b
keep_append o [] b = refl
keep_append o (s ∷ a) b =
    keep_cons (is_met o s.need) o s (a ++ b) refl
    ∙ ap (λ (l : List Step). if is_met o s.need then s ∷ l else l) (keep_append o a b)
    ∙ keep_head (is_met o s.need) s (keep_met o a) (keep_met o b)
    ∙ ap (λ (l : List Step). l ++ keep_met o b) (sym (keep_cons (is_met o s.need) o s a refl))

met : (k n : ℕ) → k ≤ n → is_met (Some n) (Chunks k) ≡ true
met k n h = grind (arith, common_steps)

unmet : (k n : ℕ) → n < k → is_met (Some n) (Chunks k) ≡ false
unmet k n h = grind (arith, common_steps)

end_none : (r : Rule) (n : ℕ) (p : List (List ℕ)) (flaw : Option Flaw) → keep_met (Some n) (walk_end r p flaw).steps ≡ []
end_none r n p None = keep_none (Some n) AtEnd (r.ends p) refl
end_none r n p (Some f) = refl

on_none : (a : Asked) (n k : ℕ) (later : Walk) → n < k → keep_met (Some n) later.steps ≡ [] → keep_met (Some n) (walk_on a k later).steps ≡ []
on_none (Stops e) n k later h e' = refl
on_none (Goes es) n k later h e' = keep_append (Some n) (needing (Chunks k) es) later.steps
    ∙ ap (λ (l : List Step). l ++ keep_met (Some n) later.steps) (keep_none (Some n) (Chunks k) es (unmet k n h)) ∙ e'

-- The needs of the steps from chunk n on aren't met by n chunks.
pub kept_none : (r : Rule) (n : ℕ) (p q : List (List ℕ)) (flaw : Option Flaw) → n ≤ length p → keep_met (Some n) (walk r p q flaw).steps ≡ []
kept_none r n p [] flaw h = end_none r n p flaw
kept_none r n p (c ∷ q) flaw h =
    let l : length (p ++ c ∷ []) ≡ length p + 1 = length-append p (c ∷ []) in
    on_none (r.asks p c) n (length p + 1) (walk r (p ++ c ∷ []) q flaw) (omega (arith, h)) (kept_none r n (p ++ c ∷ []) q flaw (omega (arith, l, h)))

pub kept_past : (r : Rule) (n : ℕ) (p q later : List (List ℕ)) (flaw : Option Flaw) → AllGo r p q → n ≡ length p + length q
    → effects (keep_met (Some n) (walk r p (q ++ later) flaw).steps) ≡ gone r p q
kept_past r n p [] later flaw g h = ap effects (kept_none r n p later flaw (omega (arith, h)))
kept_past r n p (c ∷ q) later flaw g h =
    let inner = walk r (p ++ c ∷ []) (q ++ later) flaw in
    let es = asked (r.asks p c) in
    let k = length p + 1 in
    let l : length (p ++ c ∷ []) ≡ length p + 1 = length-append p (c ∷ []) in
    ap (λ (a : Asked). effects (keep_met (Some n) (walk_on a k inner).steps)) g.0
    ∙ ap effects (keep_append (Some n) (needing (Chunks k) es) inner.steps ∙ ap (λ (x : List Step). x ++ keep_met (Some n) inner.steps) (keep_all (Some n) (Chunks k) es (met k n (omega (arith, h)))))
    ∙ effects_append (needing (Chunks k) es) (keep_met (Some n) inner.steps)
    ∙ ap (λ (x : List Effect). x ++ effects (keep_met (Some n) inner.steps)) (effects_needing (Chunks k) es)
    ∙ ap (λ (x : List Effect). es ++ x) (kept_past r n (p ++ c ∷ []) q later flaw g.1 (omega (arith, l, h)))

joined_append : (p q : List (List ℕ)) → joined (p ++ q) ≡ joined p ++ joined q
joined_append [] q = refl
joined_append (c ∷ p) q = ap (λ (l : List ℕ). c ++ l) (joined_append p q) ∙ sym (append_assoc c (joined p) (joined q))

take_first : (p q : List (List ℕ)) → take (length p) (p ++ q) ≡ p
take_first p q = grind (arith, common_steps)

drop_front : (x y : List ℕ) → drop (length x) (x ++ y) ≡ y
drop_front x y = grind (arith, common_steps)

below_after : (n : ℕ) (p : List ℕ) (cs : List ℕ) (o : Option Flaw) → IfSome o (λ f. is_header f.reason ≡ true → n < length cs + 68)
    → IfSome o (λ f. is_header f.reason ≡ true → length p + n < length (p ++ cs) + 68)
below_after n p cs None h = tt
below_after n p cs (Some f) h = λ y. let k : n < length cs + 68 = h y in let l : length (p ++ cs) ≡ length p + length cs = length-append p cs in omega (arith, l, k)

-- What is known if a read failed after these chunks.
pub record Stuck (r : Rule) (earlier : List (List ℕ)) (x left : List ℕ) (before : List (List ℕ)) (bytes : List ℕ) : Type 0 where
  pub rest : List ℕ
  pub start : ℕ
  pub first : Bool
  pub parts : x ≡ joined before ++ rest
  pub taken : rest ≡ bytes ++ left
  pub chunks : (cut_after earlier x).chunks ≡ before ++ (cut rest start first).chunks
  pub flaw : (cut_after earlier x).flaw ≡ (cut rest start first).flaw
  pub go : AllGo r earlier before
  pub less : length bytes < reach rest

-- The bytes taken hold these chunks whole and no more.
stuck_count : (r : Rule) (earlier : List (List ℕ)) (x left : List ℕ) (before : List (List ℕ)) (bytes : List ℕ) → Stuck r earlier x left before bytes
    → held_count earlier x (joined before ++ bytes) ≡ length before
stuck_count r earlier x left before bytes h =
    let later = (cut h.rest h.start h.first).chunks in
    let n : length (joined before ++ bytes) ≡ length (joined before) + length bytes = length-append (joined before) bytes in
    let whole : length (joined before) ≤ length (joined before ++ bytes) = omega (arith, n) in
    let count : length (joined before ++ bytes) - length (joined before) ≡ length bytes = omega (arith, n) in
    ap (whole_in (length (joined before ++ bytes))) h.chunks
    ∙ whole_past (length (joined before ++ bytes)) before later whole
    ∙ ap (λ (k : ℕ). length before + whole_in k later) count
    ∙ ap (λ (k : ℕ). length before + k) (none_whole (length bytes) h.rest h.start h.first h.less)
    ∙ plus_zero (length before)

stuck_chunks : (r : Rule) (earlier : List (List ℕ)) (x left : List ℕ) (before : List (List ℕ)) (bytes : List ℕ) → Stuck r earlier x left before bytes → held earlier x (joined before ++ bytes) ≡ before
stuck_chunks r earlier x left before bytes h =
    ap (λ (n : ℕ). take n (cut_after earlier x).chunks) (stuck_count r earlier x left before bytes h)
    ∙ ap (take (length before)) h.chunks ∙ take_first before (cut h.rest h.start h.first).chunks

-- The effects whose needs are met by the chunks at which the command doesn't end are those for these chunks.
kept_is : (r : Rule) (earlier : List (List ℕ)) (x : List ℕ) (before later : List (List ℕ)) → (cut_after earlier x).chunks ≡ before ++ later → AllGo r earlier before
    → effects (keep_met (Some (length earlier + length before)) (plan_after r earlier (Some x)).steps) ≡ r.opens ++ gone r earlier before
kept_is r earlier x before later cs go =
    let n = length earlier + length before in
    let w = walk r earlier (before ++ later) (cut_after earlier x).flaw in
    ap (λ (l : List (List ℕ)). effects (keep_met (Some n) (needing Opened r.opens ++ (walk r earlier l (cut_after earlier x).flaw).steps))) cs
    ∙ ap effects (keep_append (Some n) (needing Opened r.opens) w.steps)
    ∙ effects_append (keep_met (Some n) (needing Opened r.opens)) (keep_met (Some n) w.steps)
    ∙ ap (λ (l : List Effect). l ++ effects (keep_met (Some n) w.steps)) (ap effects (keep_all (Some n) Opened r.opens refl) ∙ effects_needing Opened r.opens)
    ∙ ap (λ (l : List Effect). r.opens ++ l) (kept_past r n earlier before later (cut_after earlier x).flaw go refl)

-- Exactly the effects whose need is met are done.
pub needs_met : (r : Rule) (earlier : List (List ℕ)) (x left : List ℕ) (before : List (List ℕ)) (bytes : List ℕ) (s t : Snapshot) → Stuck r earlier x left before bytes
    → t ≡ done (r.opens ++ gone r earlier before) s → NeedsMet r earlier x left s t
needs_met r earlier x left before bytes s t h d =
    let taken = joined before ++ bytes in
    let n : length taken ≡ length (joined before) + length bytes = length-append (joined before) bytes in
    let is = stuck_chunks r earlier x left before bytes h in
    let rest : drop (length (joined before)) x ≡ h.rest = ap (drop (length (joined before))) h.parts ∙ drop_front (joined before) h.rest in
    let less : length bytes < reach (drop (length (joined before)) x) = subst (λ (l : List ℕ). length bytes < reach l) (sym rest) h.less in
    let short : length taken < length (joined before) + reach (drop (length (joined before)) x) = omega (arith, n, less) in
    let later = (cut h.rest h.start h.first).chunks in
    let all : joined (cut_after earlier x).chunks ≡ joined before ++ joined later = ap joined h.chunks ∙ joined_append before later in
    let below = below_after (length bytes) (joined before) (joined later) (cut h.rest h.start h.first).flaw (below_header (length bytes) h.rest h.start h.first h.less) in
    record {
      taken = taken;
      parts = h.parts ∙ ap (λ (l : List ℕ). joined before ++ l) h.taken ∙ sym (append_assoc (joined before) bytes left);
      holds = d ∙ ap (λ (l : List Effect). done l s) (sym (kept_is r earlier x before later h.chunks h.go))
          ∙ ap (λ (k : ℕ). done (effects (keep_met (Some (length earlier + k)) (plan_after r earlier (Some x)).steps)) s) (sym (stuck_count r earlier x left before bytes h));
      go = subst (AllGo r earlier) (sym is) h.go;
      short = subst (λ (cs : List (List ℕ)). length taken < length (joined cs) + reach (drop (length (joined cs)) x)) (sym is) short;
      header =
          subst (λ (o : Option Flaw). IfSome o (λ f. is_header f.reason ≡ true → length taken < length (joined (cut_after earlier x).chunks) + 68)) (sym h.flaw)
          (subst (λ (l : List ℕ). IfSome (cut h.rest h.start h.first).flaw (λ f. is_header f.reason ≡ true → length taken < length l + 68)) (sym all)
          (subst (λ (k : ℕ). IfSome (cut h.rest h.start h.first).flaw (λ f. is_header f.reason ≡ true → k < length (joined before ++ joined later) + 68)) (sym n) below));
    }
