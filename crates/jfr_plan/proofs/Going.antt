-- The state of a command between two chunks, and after each exit of the loop.
use Rattle.std.proofs.Common.{IsTrue, ◌≡◌, ℕ, ◌+◌, ◌<◌, refl, sym, ◌∙◌, ap, subst, Bool, true, false, not, List, [], ◌∷◌, ◌++◌, length, Option, None, Some, option_map, IfSome, arith, append_assoc, append-nil, length-append}
use Rattle.jfr_base.specs.declared.flaw.Flaw.{Flaw}
use Rattle.jfr_base.specs.declared.flaw.Refusal.{Refusal}
use Rattle.jfr_outside.specs.World.{World, file}
use Rattle.jfr_header.specs.Cutters.{Cutter}
use Rattle.jfr_header.specs.Fronts.{Front, Bad, End, Chunk, front, reach}
use Rattle.jfr_header.specs.Taking.{Took}
use Rattle.jfr_header.specs.Nexts.{Found, Refuses, flaw_of}
use Rattle.jfr_header.specs.Cuts.{Cuts, cut, more, joined}
use Rattle.jfr_header.proofs.Steps.{same_some}
use Rattle.jfr_plan.specs.Ends as ends
use Rattle.jfr_plan.specs.Ends.{CommandEnd, Ends, NotRead, NotWritten, RanOut, Fine, refused}
use Rattle.jfr_plan.specs.Effects.{Effect, Snapshot, Chunks, AtEnd, needing, effects, done, snapshot}
use Rattle.jfr_plan.specs.Rules.{Rule, Asked, Stops, Goes, walk, walk_on, walk_end, gone, asked, IsGoing, AllGo, cut_after, plan_after}
use Rattle.jfr_plan.specs.Goings.{Going, IsAt, IsPast}
use Rattle.jfr_plan.specs.Outcomes.{OutcomeOf, SomeDone, Breaks, MetIn, NeedsMet}
use Rattle.jfr_header.proofs.Cutting.{cut_end, cut_bad, cut_chunk, joined_snoc}
use Rattle.jfr_plan.proofs.Needs.{needs_met}
use Rattle.jfr_plan.proofs.Leaving.{some_more, some_after, breaks_more, breaks_after}
use Rattle.jfr_plan.proofs.Walking.{FromHere, from_here, gone_snoc, go_snoc, done_append, effects_needing, effects_append}

-- The input was opened, and what the command does then was done.
unfoldable pub begin : (r : Rule) (earlier : List (List ℕ)) (input x : List ℕ) (start number : ℕ) (o p : Option (List ℕ)) (w v : World) → start ≡ length (joined earlier) → number ≡ length earlier + 1 → file w input ≡ Some x → v.input ≡ Some x → snapshot v p ≡ done r.opens (snapshot w o) → Going r earlier input start number false o p w v
begin r earlier input x start number o p w v a n f i s = record {
  x = x;
  file_is = f;
  before = [];
  left = x;
  input_is = i;
  parts = refl;
  cuts = cut x start true;
  cuts_are = refl;
  chunks = ap (λ (k : ℕ). (cut x k true).chunks) (sym a);
  flaw = ap (λ (k : ℕ). (cut x k true).flaw) (sym a);
  go = tt;
  number_is = n ∙ ap (λ (l : List (List ℕ)). length l + 1) (sym (append-nil earlier));
  start_is = a ∙ ap (λ (l : List (List ℕ)). length (joined l)) (sym (append-nil earlier));
  holds = s ∙ ap (λ (l : List Effect). done l (snapshot w o)) (sym (append-nil r.opens));
}

-- The plan, from the command's current state on.
pub rest_of : (r : Rule) (earlier : List (List ℕ)) (input : List ℕ) (start number : ℕ) (given : Bool) (o p : Option (List ℕ)) (w v : World) (g : Going r earlier input start number given o p w v) → FromHere r earlier (file w input) g.before (walk r (earlier ++ g.before) g.cuts.chunks g.cuts.flaw)
rest_of r earlier input start number given o p w v g =
    subst (λ (y : Option (List ℕ)). FromHere r earlier y g.before (walk r (earlier ++ g.before) g.cuts.chunks g.cuts.flaw)) (sym g.file_is) (from_here r earlier g.x g.before g.cuts.chunks g.cuts.flaw g.chunks g.flaw g.go)

pub took_stand : (bytes : List ℕ) (p : Option (List ℕ)) (v u : World) → Took bytes v u → snapshot u p ≡ snapshot v p
took_stand bytes p v u t = λ i. record { files = t.files i; output = t.output i; text = p; sound = true }

-- Some effects of the plan are done.
pub partly : (st : Bool) (r : Rule) (earlier : List (List ℕ)) (input : List ℕ) (start number : ℕ) (given : Bool) (o p q : Option (List ℕ)) (w v u : World) → Going r earlier input start number given o p w v → snapshot u q ≡ snapshot v p → OutcomeOf st r earlier input o q RanOut w u
partly st r earlier input start number given o p q w v u g s =
    let h = rest_of r earlier input start number given o p w v g in
    record { first = r.opens ++ gone r earlier g.before; rest = effects (walk r (earlier ++ g.before) g.cuts.chunks g.cuts.flaw).steps; parts = h.steps; holds = s ∙ g.holds }

-- The cutter found the chunk at the start of what is left.
pub front_is : (r : Rule) (earlier : List (List ℕ)) (input : List ℕ) (number : ℕ) (o p : Option (List ℕ)) (c : Cutter) (f : Front) (bytes : List ℕ) (w v u : World) (g : Going r earlier input c.start number c.given o p w v) → Found c f bytes v u → front g.left c.start (not c.given) ≡ f
front_is r earlier input number o p c f bytes w v u g k =
    ap (λ (l : List ℕ). front l c.start (not c.given)) (same_some g.left k.rest (sym g.input_is ∙ k.input)) ∙ k.is

-- The plan, from the end of the input.
pub at_end : (r : Rule) (earlier : List (List ℕ)) (input : List ℕ) (number : ℕ) (o p : Option (List ℕ)) (c : Cutter) (bytes : List ℕ) (w v u : World) (g : Going r earlier input c.start number c.given o p w v) → Found c End bytes v u → FromHere r earlier (file w input) g.before (walk_end r (earlier ++ g.before) None)
at_end r earlier input number o p c bytes w v u g k =
    let e : g.cuts ≡ record { chunks = []; flaw = None } = g.cuts_are ∙ cut_end g.left c.start (not c.given) (front_is r earlier input number o p c End bytes w v u g k) in
    subst (λ (y : Cuts). FromHere r earlier (file w input) g.before (walk r (earlier ++ g.before) y.chunks y.flaw)) e (rest_of r earlier input c.start number c.given o p w v g)

-- At the end of the input the chunks before are all of them.
pub all_seen : (r : Rule) (earlier : List (List ℕ)) (input : List ℕ) (o p : Option (List ℕ)) (c : Cutter) (bytes : List ℕ) (w v u : World) (Seen : List (List ℕ) → Type 0) (g : Going r earlier input c.start c.number c.given o p w v) → Found c End bytes v u → Seen (earlier ++ g.before) → IsPast Seen earlier input c.start c.number w
all_seen r earlier input o p c bytes w v u Seen g k h =
    let e : g.cuts ≡ record { chunks = []; flaw = None } = g.cuts_are ∙ cut_end g.left c.start (not c.given) (front_is r earlier input c.number o p c End bytes w v u g k) in
    let all : (cut_after earlier g.x).chunks ≡ g.before = g.chunks ∙ ap (λ (y : Cuts). g.before ++ y.chunks) e ∙ append-nil g.before in
    subst (λ (y : Option (List ℕ)). IfSome y (λ x. Seen (earlier ++ (cut_after earlier x).chunks) × IsAt (earlier ++ (cut_after earlier x).chunks) c.start c.number)) (sym g.file_is)
    (subst (λ (cs : List (List ℕ)). Seen (earlier ++ cs) × IsAt (earlier ++ cs) c.start c.number) (sym all) (h, (g.start_is, g.number_is)))

at_flaw : (r : Rule) (earlier : List (List ℕ)) (input : List ℕ) (number : ℕ) (o p : Option (List ℕ)) (c : Cutter) (b : Flaw) (bytes : List ℕ) (w v u : World) (g : Going r earlier input c.start number c.given o p w v) → Found c (Bad b) bytes v u → FromHere r earlier (file w input) g.before (walk_end r (earlier ++ g.before) (Some b))
at_flaw r earlier input number o p c b bytes w v u g k =
    let e : g.cuts ≡ record { chunks = []; flaw = Some b } = g.cuts_are ∙ cut_bad g.left c.start (not c.given) b (front_is r earlier input number o p c (Bad b) bytes w v u g k) in
    subst (λ (y : Cuts). FromHere r earlier (file w input) g.before (walk r (earlier ++ g.before) y.chunks y.flaw)) e (rest_of r earlier input c.start number c.given o p w v g)

-- The plan ends with this refusal by the cutter.
pub ends_flawed : (st : Bool) (r : Rule) (earlier : List (List ℕ)) (input : List ℕ) (number : ℕ) (o p : Option (List ℕ)) (c : Cutter) (f : Refusal) (w v u : World) → Going r earlier input c.start number c.given o p w v → Refuses c f v u → OutcomeOf st r earlier input o p (Ends (refused number (flaw_of f))) w u
ends_flawed st r earlier input number o p c f w v u g k =
    let h = at_flaw r earlier input number o p c (flaw_of f) k.bytes w v u g k.found in
    let es = r.opens ++ gone r earlier g.before in
    record {
      end = h.end ∙ ap (λ (n : ℕ). Some (refused n (flaw_of f))) (sym g.number_is);
      holds = took_stand k.bytes p v u k.found.took ∙ g.holds ∙ ap (λ (l : List Effect). done l (snapshot w o)) (sym (append-nil es) ∙ sym h.steps);
    }

-- What is left of an input, after bytes were taken.
met_by : (r : Rule) (earlier : List (List ℕ)) (x left bytes : List ℕ) (s t : Snapshot) (a u : Option (List ℕ)) → a ≡ Some x → option_map (λ (l : List ℕ). bytes ++ l) u ≡ Some left → ((l : List ℕ) → left ≡ bytes ++ l → NeedsMet r earlier x l s t) → MetIn r earlier a u s t
met_by r earlier x left bytes s t None u e f h = cc
met_by r earlier x left bytes s t (Some y) None e f h = cc
met_by r earlier x left bytes s t (Some y) (Some l) e f h = subst (λ (z : List ℕ). NeedsMet r earlier z l s t) (same_some x y (sym e)) (h l (sym (same_some (bytes ++ l) left f)))

none_some : (x : List ℕ) → ◌≡◌ {A = Option (List ℕ)} None (Some x) → ⊥
none_some x e = cc

-- A read failed between two chunks.
pub halts : (st : Bool) (r : Rule) (earlier : List (List ℕ)) (input : List ℕ) (start number : ℕ) (given : Bool) (bytes : List ℕ) (o p : Option (List ℕ)) (w v u : World) → Going r earlier input start number given o p w v → Took bytes v u → IfSome v.input (λ rest. length bytes < reach rest) → (IsTrue st → v.input ≡ None) → OutcomeOf st r earlier input o p NotRead w u
halts st r earlier input start number given bytes o p w v u g t k z =
    let less : length bytes < reach g.left = subst (λ (y : Option (List ℕ)). IfSome y (λ rest. length bytes < reach rest)) g.input_is k in (
      met_by r earlier g.x g.left bytes (snapshot w o) (snapshot u p) (file w input) u.input g.file_is (t.input ∙ g.input_is)
          (λ l e. needs_met r earlier g.x l g.before bytes (snapshot w o) (snapshot u p)
          (record {
            rest = g.left;
            start = start;
            first = not given;
            parts = g.parts;
            taken = e;
            chunks = g.chunks ∙ ap (λ (y : Cuts). g.before ++ y.chunks) g.cuts_are;
            flaw = g.flaw ∙ ap (λ (y : Cuts). y.flaw) g.cuts_are;
            go = g.go;
            less = less;
          })
          (took_stand bytes p v u t ∙ g.holds)),
      λ y. absurd (none_some g.left (sym (z y) ∙ g.input_is)),
    )

-- A chunk is in hand, and the command wasn't asked yet.
pub record Holding (r : Rule) (earlier : List (List ℕ)) (input : List ℕ) (start number : ℕ) (chunk : List ℕ) (o p : Option (List ℕ)) (w u : World) : Type 0 where
  pub x : List ℕ
  pub file_is : file w input ≡ Some x
  pub before : List (List ℕ)
  pub left : List ℕ
  pub input_is : u.input ≡ Some left
  pub parts : x ≡ joined before ++ (chunk ++ left)
  pub cuts : Cuts
  pub cuts_are : cuts ≡ cut left start false
  pub chunks : (cut_after earlier x).chunks ≡ before ++ chunk ∷ cuts.chunks
  pub flaw : (cut_after earlier x).flaw ≡ cuts.flaw
  pub go : AllGo r earlier before
  pub number_is : number ≡ length (earlier ++ before) + 1
  pub start_is : start ≡ length (joined (earlier ++ before)) + length chunk
  pub holds : snapshot u p ≡ done (r.opens ++ gone r earlier before) (snapshot w o)

-- What is left after bytes taken.
pub record IsRest (bytes all : List ℕ) (u : World) : Type 0 where
  pub left : List ℕ
  pub is : u.input ≡ Some left
  pub parts : all ≡ bytes ++ left

pub left_by : (bytes all : List ℕ) (u : World) (y : Option (List ℕ)) → u.input ≡ y → option_map (λ (l : List ℕ). bytes ++ l) y ≡ Some all → IsRest bytes all u
left_by bytes all u None e f = cc
left_by bytes all u (Some l) e f = record { left = l; is = e; parts = sym (same_some (bytes ++ l) all f) }

unfoldable pub hold : (r : Rule) (earlier : List (List ℕ)) (input : List ℕ) (number : ℕ) (o p : Option (List ℕ)) (c : Cutter) (chunk : List ℕ) (w v u : World) → Going r earlier input c.start number c.given o p w v → Found c (Chunk chunk) chunk v u → Holding r earlier input (c.start + length chunk) number chunk o p w u
hold r earlier input number o p c chunk w v u g k =
    let a = left_by chunk g.left u u.input refl (k.took.input ∙ g.input_is) in
    let later = cut a.left (c.start + length chunk) false in
    let e : g.cuts ≡ more chunk later = g.cuts_are ∙ cut_chunk g.left chunk a.left c.start (not c.given) (front_is r earlier input number o p c (Chunk chunk) chunk w v u g k) a.parts in
    record {
      x = g.x;
      file_is = g.file_is;
      before = g.before;
      left = a.left;
      input_is = a.is;
      parts = g.parts ∙ ap (λ (l : List ℕ). joined g.before ++ l) a.parts;
      cuts = later;
      cuts_are = refl;
      chunks = g.chunks ∙ ap (λ (y : Cuts). g.before ++ y.chunks) e;
      flaw = g.flaw ∙ ap (λ (y : Cuts). y.flaw) e;
      go = g.go;
      number_is = g.number_is;
      start_is = ap (λ (n : ℕ). n + length chunk) g.start_is;
      holds = took_stand chunk p v u k.took ∙ g.holds;
    }

-- The plan, from a chunk in hand, by what it asks for.
pub walk_asks : (r : Rule) (earlier : List (List ℕ)) (input : List ℕ) (start number : ℕ) (chunk : List ℕ) (o p : Option (List ℕ)) (w u : World) (g : Holding r earlier input start number chunk o p w u) (a : Asked) → r.asks (earlier ++ g.before) chunk ≡ a → FromHere r earlier (file w input) g.before (walk_on a (length (earlier ++ g.before) + 1) (walk r ((earlier ++ g.before) ++ chunk ∷ []) g.cuts.chunks g.cuts.flaw))
walk_asks r earlier input start number chunk o p w u g a e =
    subst (λ (y : Asked). FromHere r earlier (file w input) g.before (walk_on y (length (earlier ++ g.before) + 1) (walk r ((earlier ++ g.before) ++ chunk ∷ []) g.cuts.chunks g.cuts.flaw))) e
    (subst (λ (y : Option (List ℕ)). FromHere r earlier y g.before (walk r (earlier ++ g.before) (chunk ∷ g.cuts.chunks) g.cuts.flaw)) (sym g.file_is) (from_here r earlier g.x g.before (chunk ∷ g.cuts.chunks) g.cuts.flaw g.chunks g.flaw g.go))

-- The chunk is the plan's end.
pub stops : (st : Bool) (r : Rule) (earlier : List (List ℕ)) (input : List ℕ) (start number : ℕ) (chunk : List ℕ) (o p q : Option (List ℕ)) (end : ends.End) (w u t : World) (g : Holding r earlier input start number chunk o p w u) → r.asks (earlier ++ g.before) chunk ≡ Stops end → snapshot t q ≡ snapshot u p → OutcomeOf st r earlier input o q (Ends end) w t
stops st r earlier input start number chunk o p q end w u t g e s =
    let h = walk_asks r earlier input start number chunk o p w u g (Stops end) e in
    let es = r.opens ++ gone r earlier g.before in
    record { end = h.end; holds = s ∙ g.holds ∙ ap (λ (l : List Effect). done l (snapshot w o)) (sym (append-nil es) ∙ sym h.steps) }

-- The plan's effects, from those that were asked for.
pub record Asking (all es asks : List Effect) : Type 0 where
  pub later : List Effect
  pub parts : all ≡ es ++ (asks ++ later)

asking : (r : Rule) (earlier : List (List ℕ)) (input : List ℕ) (start number : ℕ) (chunk : List ℕ) (o p : Option (List ℕ)) (w u : World) (g : Holding r earlier input start number chunk o p w u) (a : Asked) → r.asks (earlier ++ g.before) chunk ≡ a → Asking (effects (plan_after r earlier (file w input)).steps) (r.opens ++ gone r earlier g.before) (asked a)
asking r earlier input start number chunk o p w u g (Stops e) is =
    let h = walk_asks r earlier input start number chunk o p w u g (Stops e) is in
    record { later = []; parts = h.steps }
asking r earlier input start number chunk o p w u g (Goes es) is =
    let h = walk_asks r earlier input start number chunk o p w u g (Goes es) is in
    let later = walk r ((earlier ++ g.before) ++ chunk ∷ []) g.cuts.chunks g.cuts.flaw in
    let n = length (earlier ++ g.before) + 1 in
    record { later = effects later.steps; parts = h.steps ∙ ap (λ (l : List Effect). (r.opens ++ gone r earlier g.before) ++ l) (effects_append (needing (Chunks n) es) later.steps ∙ ap (λ (l : List Effect). l ++ effects later.steps) (effects_needing (Chunks n) es)) }

-- What broke among the effects asked for broke in the plan.
breaks_in : (st : Bool) (all es asks : List Effect) (s u t : Snapshot) → Asking all es asks → u ≡ done es s → Breaks st asks u t → Breaks st all s t
breaks_in st all es asks s u t k is b = breaks_more st (es ++ asks) k.later all s t (k.parts ∙ sym (append_assoc es asks k.later)) (breaks_after st es asks s u t is b)

-- What was done of the effects asked for was done of the plan.
some_in : (all es asks : List Effect) (s u t : Snapshot) → Asking all es asks → u ≡ done es s → SomeDone asks u t → SomeDone all s t
some_in all es asks s u t k is b = some_more (es ++ asks) k.later all s t (k.parts ∙ sym (append_assoc es asks k.later)) (some_after es asks s u t is b)

-- One of the chunk's effects failed.
pub breaks : (st : Bool) (r : Rule) (earlier : List (List ℕ)) (input : List ℕ) (start number : ℕ) (chunk : List ℕ) (o p q : Option (List ℕ)) (w u t : World) (g : Holding r earlier input start number chunk o p w u) → Breaks st (asked (r.asks (earlier ++ g.before) chunk)) (snapshot u p) (snapshot t q) → OutcomeOf st r earlier input o q NotWritten w t
breaks st r earlier input start number chunk o p q w u t g b =
    let a = r.asks (earlier ++ g.before) chunk in
    breaks_in st (effects (plan_after r earlier (file w input)).steps) (r.opens ++ gone r earlier g.before) (asked a) (snapshot w o) (snapshot u p) (snapshot t q) (asking r earlier input start number chunk o p w u g a refl) g.holds b

-- Some of the chunk's effects were done.
pub partly_held : (st : Bool) (r : Rule) (earlier : List (List ℕ)) (input : List ℕ) (start number : ℕ) (chunk : List ℕ) (o p q : Option (List ℕ)) (w u t : World) (g : Holding r earlier input start number chunk o p w u) → SomeDone (asked (r.asks (earlier ++ g.before) chunk)) (snapshot u p) (snapshot t q) → OutcomeOf st r earlier input o q RanOut w t
partly_held st r earlier input start number chunk o p q w u t g b =
    let a = r.asks (earlier ++ g.before) chunk in
    some_in (effects (plan_after r earlier (file w input)).steps) (r.opens ++ gone r earlier g.before) (asked a) (snapshot w o) (snapshot u p) (snapshot t q) (asking r earlier input start number chunk o p w u g a refl) g.holds b

-- The effects that are asked for when the input is open.
opening : (r : Rule) (earlier : List (List ℕ)) (x : Option (List ℕ)) (y : List ℕ) → x ≡ Some y → Asking (effects (plan_after r earlier x).steps) [] r.opens
opening r earlier x y e =
    let w = walk r earlier (cut_after earlier y).chunks (cut_after earlier y).flaw in
    let h = from_here r earlier y [] (cut_after earlier y).chunks (cut_after earlier y).flaw refl refl tt in
    record { later = effects (walk r (earlier ++ []) (cut_after earlier y).chunks (cut_after earlier y).flaw).steps; parts = ap (λ (z : Option (List ℕ)). effects (plan_after r earlier z).steps) e ∙ h.steps ∙ append_assoc r.opens [] (effects (walk r (earlier ++ []) (cut_after earlier y).chunks (cut_after earlier y).flaw).steps) }

pub opens_broken : (st : Bool) (r : Rule) (earlier : List (List ℕ)) (x : Option (List ℕ)) (y : List ℕ) (s t : Snapshot) → x ≡ Some y → Breaks st r.opens s t → Breaks st (effects (plan_after r earlier x).steps) s t
opens_broken st r earlier x y s t e b = breaks_in st (effects (plan_after r earlier x).steps) [] r.opens s s t (opening r earlier x y e) refl b

pub opens_partly : (r : Rule) (earlier : List (List ℕ)) (x : Option (List ℕ)) (y : List ℕ) (s t : Snapshot) → x ≡ Some y → SomeDone r.opens s t → SomeDone (effects (plan_after r earlier x).steps) s t
opens_partly r earlier x y s t e b = some_in (effects (plan_after r earlier x).steps) [] r.opens s s t (opening r earlier x y e) refl b

-- The effects at the end of the input.
ending : (r : Rule) (earlier : List (List ℕ)) (x : Option (List ℕ)) (before : List (List ℕ)) → FromHere r earlier x before (walk_end r (earlier ++ before) None) → Asking (effects (plan_after r earlier x).steps) (r.opens ++ gone r earlier before) (r.ends (earlier ++ before))
ending r earlier x before h = record { later = []; parts = h.steps ∙ ap (λ (l : List Effect). (r.opens ++ gone r earlier before) ++ l) (effects_needing AtEnd (r.ends (earlier ++ before)) ∙ sym (append-nil (r.ends (earlier ++ before)))) }

-- The effects at the end of the input were done.
pub ends_fine : (st : Bool) (r : Rule) (earlier : List (List ℕ)) (input : List ℕ) (number : ℕ) (o p q : Option (List ℕ)) (c : Cutter) (bytes : List ℕ) (w v u t : World) (g : Going r earlier input c.start number c.given o p w v) → Found c End bytes v u → snapshot t q ≡ done (r.ends (earlier ++ g.before)) (snapshot u p) → OutcomeOf st r earlier input o q (Ends Fine) w t
ends_fine st r earlier input number o p q c bytes w v u t g k s =
    let h = at_end r earlier input number o p c bytes w v u g k in
    let es = r.opens ++ gone r earlier g.before in
    let last = r.ends (earlier ++ g.before) in
    record {
      end = h.end;
      holds = s ∙ ap (done last) (took_stand bytes p v u k.took ∙ g.holds) ∙ sym (done_append es last (snapshot w o)) ∙ ap (λ (l : List Effect). done l (snapshot w o)) (ap (λ (l : List Effect). es ++ l) (sym (effects_needing AtEnd last)) ∙ sym h.steps);
    }

-- One of the effects at the end of the input failed.
pub ends_broken : (st : Bool) (r : Rule) (earlier : List (List ℕ)) (input : List ℕ) (number : ℕ) (o p q : Option (List ℕ)) (c : Cutter) (bytes : List ℕ) (w v u t : World) (g : Going r earlier input c.start number c.given o p w v) → Found c End bytes v u → Breaks st (r.ends (earlier ++ g.before)) (snapshot u p) (snapshot t q) → OutcomeOf st r earlier input o q NotWritten w t
ends_broken st r earlier input number o p q c bytes w v u t g k b =
    breaks_in st (effects (plan_after r earlier (file w input)).steps) (r.opens ++ gone r earlier g.before) (r.ends (earlier ++ g.before)) (snapshot w o) (snapshot u p) (snapshot t q) (ending r earlier (file w input) g.before (at_end r earlier input number o p c bytes w v u g k)) (took_stand bytes p v u k.took ∙ g.holds) b

-- Some of the effects at the end of the input were done.
pub ends_partly : (st : Bool) (r : Rule) (earlier : List (List ℕ)) (input : List ℕ) (number : ℕ) (o p q : Option (List ℕ)) (c : Cutter) (bytes : List ℕ) (w v u t : World) (g : Going r earlier input c.start number c.given o p w v) → Found c End bytes v u → SomeDone (r.ends (earlier ++ g.before)) (snapshot u p) (snapshot t q) → OutcomeOf st r earlier input o q RanOut w t
ends_partly st r earlier input number o p q c bytes w v u t g k b =
    some_in (effects (plan_after r earlier (file w input)).steps) (r.opens ++ gone r earlier g.before) (r.ends (earlier ++ g.before)) (snapshot w o) (snapshot u p) (snapshot t q) (ending r earlier (file w input) g.before (at_end r earlier input number o p c bytes w v u g k)) (took_stand bytes p v u k.took ∙ g.holds) b

-- The chunk's effects were done.
unfoldable pub goes_on : (r : Rule) (earlier : List (List ℕ)) (input : List ℕ) (start number : ℕ) (chunk : List ℕ) (o p q : Option (List ℕ)) (w u t : World) (g : Holding r earlier input start number chunk o p w u) → t.input ≡ u.input → IsGoing (r.asks (earlier ++ g.before) chunk) → snapshot t q ≡ done (asked (r.asks (earlier ++ g.before) chunk)) (snapshot u p) → Going r earlier input start (number + 1) true o q w t
goes_on r earlier input start number chunk o p q w u t g i e s =
    let all = r.opens ++ gone r earlier g.before in
    let es = asked (r.asks (earlier ++ g.before) chunk) in
    let shift : earlier ++ (g.before ++ chunk ∷ []) ≡ (earlier ++ g.before) ++ chunk ∷ [] = sym (append_assoc earlier g.before (chunk ∷ [])) in
    let n : length (earlier ++ (g.before ++ chunk ∷ [])) ≡ length (earlier ++ g.before) + 1 = ap length shift ∙ length-append (earlier ++ g.before) (chunk ∷ []) in
    record {
      x = g.x;
      file_is = g.file_is;
      before = g.before ++ chunk ∷ [];
      left = g.left;
      input_is = i ∙ g.input_is;
      parts = g.parts ∙ sym (append_assoc (joined g.before) chunk g.left) ∙ ap (λ (l : List ℕ). l ++ g.left) (sym (joined_snoc g.before chunk));
      cuts = g.cuts;
      cuts_are = g.cuts_are;
      chunks = g.chunks ∙ sym (append_assoc g.before (chunk ∷ []) g.cuts.chunks);
      flaw = g.flaw;
      go = go_snoc r earlier g.before chunk g.go e;
      number_is = omega (arith, n, g.number_is);
      start_is = g.start_is ∙ sym (ap (λ (l : List (List ℕ)). length (joined l)) shift ∙ ap length (joined_snoc (earlier ++ g.before) chunk) ∙ length-append (joined (earlier ++ g.before)) chunk);
      holds = s ∙ ap (done es) g.holds ∙ sym (done_append all es (snapshot w o)) ∙ ap (λ (l : List Effect). done l (snapshot w o)) (append_assoc r.opens (gone r earlier g.before) es ∙ ap (λ (l : List Effect). r.opens ++ l) (sym (gone_snoc r earlier g.before chunk)));
    }
