-- How the cutter's reads make its answers.
use Rattle.std.proofs.Common.{◌≡◌, ℕ, ◌+◌, ◌≤◌, ◌<◌, ◌^◌, refl, sym, ◌∙◌, ap, subst, Bool, true, false, not, List, [], ◌++◌, take, length, Option, None, Some, option_map, IsSome, IfSome, arith, append-nil, length-append}
use Rattle.std.proofs.lemmas.Grind.{common_steps}
use Rattle.std.proofs.lemmas.List.{take-append-le}
use Rattle.jfr_base.specs.declared.flaw.Flaw.{Flaw}
use Rattle.jfr_base.specs.declared.flaw.Refusal.{Refusal}
use Rattle.jfr_base.specs.declared.reason.Reason.TheVariants.{NoChunk, ShortHeader, ShortChunk, TooLong}
use Rattle.jfr_outside.specs.World.{World}
use Rattle.jfr_header.specs.Fronts.{Front, Bad, End, Chunk, front, headed, sized, reach, reach_by, header_flaw, size_of, flaw_at, Whole}
use Rattle.jfr_header.specs.Nexts.{Found, Refuses, ahead_of, flaw_of, is_header}
use Rattle.jfr_header.specs.Judging.{IsJudged, Follows}
use Rattle.jfr_header.specs.declared.judge.NextChunk.{NextChunk}
use Rattle.jfr_header.specs.declared.judge.NextChunk.TheVariants as nexts
use Rattle.jfr_header.specs.Cutters.{Cutter}
use Rattle.jfr_outside.specs.World.{IfKnown}
use Rattle.jfr_header.specs.Taking.{Moved, MovedWithin, Took, Takes}

-- One claim from another.
pub map_known : (b a : Option World) (P Q : World → World → Type 0) → IfKnown b a P → ((w v : World) → P w v → Q w v) → IfKnown b a Q
map_known None a P Q t f = tt
map_known (Some w) None P Q t f = absurd t
map_known (Some w) (Some v) P Q t f = f w v t

-- One claim from another, and from two facts of the place afterwards, the second under a premise.
pub with_both : (b a : Option World) (F G : World → Type 0) (L : Type 0) (P Q : World → World → Type 0) → IfKnown b a P → IfSome a F → (L → IfSome a G)
    → ((w v : World) → P w v → F v → (L → G v) → Q w v) → IfKnown b a Q
with_both None a F G L P Q t h k f = tt
with_both (Some w) None F G L P Q t h k f = absurd t
with_both (Some w) (Some v) F G L P Q t h k f = f w v t h k

pub chain_known : (b a d : Option World) (P Q R : World → World → Type 0) → IfKnown b a P → IfKnown a d Q → ((w v u : World) → P w v → Q v u → R w u) → IfKnown b d R
chain_known None a d P Q R p q f = tt
chain_known (Some w) None d P Q R p q f = absurd p
chain_known (Some w) (Some v) None P Q R p q f = absurd q
chain_known (Some w) (Some v) (Some u) P Q R p q f = f w v u p q

pub moved_trans : (x y z : List ℕ) (w v u : World) → Moved x y w v → Moved y z v u → Moved x z w u
moved_trans x y z w v u p q = record { files = q.files ∙ p.files; output = q.output ∙ p.output; kept = q.kept ∙ p.kept }

none_map : (o : Option (List ℕ)) → option_map (λ (l : List ℕ). [] ++ l) o ≡ o
none_map None = refl
none_map (Some x) = refl

pub from_empty : (b a : Option World) (x y : List ℕ) → x ≡ [] → IfKnown b a (Moved x y) → IfKnown b a (Moved [] y)
from_empty b a x y e t = subst (λ (l : List ℕ). IfKnown b a (Moved l y)) e t

pub took_of : (bytes : List ℕ) (w v : World) → Moved [] bytes w v → Took bytes w v
took_of bytes w v m = record { files = m.files; output = m.output; input = m.kept ∙ none_map w.input }

-- The whole of what was left, in two parts.
pub record Split (bytes : List ℕ) (w v : World) : Type 0 where
  pub rest : List ℕ
  pub left : List ℕ
  pub before : w.input ≡ Some rest
  pub after : v.input ≡ Some left
  pub parts : rest ≡ bytes ++ left

split_of : (bytes : List ℕ) (w v : World) (o : Option (List ℕ)) → v.input ≡ o → IsSome o → Took bytes w v → Split bytes w v
split_of bytes w v None e s t = cc
split_of bytes w v (Some left) e s t = record { rest = bytes ++ left; left = left; before = sym t.input ∙ ap (option_map (λ (l : List ℕ). bytes ++ l)) e; after = e; parts = refl }

pub split : (bytes : List ℕ) (w v : World) → IsSome v.input → Took bytes w v → Split bytes w v
split bytes w v s t = split_of bytes w v v.input refl s t

pub found : (c : Cutter) (f : Front) (bytes : List ℕ) (w v : World) (t : Took bytes w v) (s : Split bytes w v) → ahead_of c s.rest ≡ f → Found c f bytes w v
found c f bytes w v t s e = record { rest = s.rest; input = s.before; took = t; is = e }

-- The front, case by case.
pub front_none : (s : ℕ) → front [] s true ≡ Bad (flaw_at 0 NoChunk)
unfolding front
front_none s = refl

pub front_end : (s : ℕ) → front [] s false ≡ End
unfolding front
front_end s = refl

pub front_long : (x : List ℕ) (s : ℕ) (f : Bool) → 0 < length x → 2 ^ 40 ≤ s → front x s f ≡ Bad (flaw_at 0 TooLong)
unfolding front
front_long x s f h k = grind (arith, common_steps)

pub front_short : (x : List ℕ) (s : ℕ) (f : Bool) → 0 < length x → s < 2 ^ 40 → length x < 68 → front x s f ≡ Bad (flaw_at (length x) ShortHeader)
unfolding front
front_short x s f h k l = grind (arith, common_steps)

pub front_headed : (x : List ℕ) (s : ℕ) (f : Bool) → s < 2 ^ 40 → 68 ≤ length x → front x s f ≡ headed x (header_flaw (take 68 x))
unfolding front
front_headed x s f k l = grind (arith, common_steps)

pub sized_short : (x : List ℕ) (n : ℕ) → length x < n → sized x n ≡ Bad (flaw_at (length x) ShortChunk)
sized_short x n h = grind (arith, common_steps)

pub sized_whole : (x : List ℕ) (n : ℕ) → n ≤ length x → sized x n ≡ Chunk (take n x)
sized_whole x n h = grind (arith, common_steps)

-- A header without flaws names a size within the bounds.
pub size_bounds : (h : List ℕ) → header_flaw h ≡ None → (68 ≤ size_of h) × (size_of h < 2 ^ 30)
unfolding header_flaw
size_bounds h e = grind (arith, common_steps)

pub reach_headed : (x : List ℕ) → 68 ≤ length x → reach x ≡ reach_by (size_of (take 68 x)) (header_flaw (take 68 x))
unfolding reach
reach_headed x h = grind (arith, common_steps)

reach_some : (h : List ℕ) (o : Option Flaw) → header_flaw h ≡ o → 68 ≤ reach_by (size_of h) o
reach_some h (Some f) e = omega arith
reach_some h None e = (size_bounds h e).0

pub reach_least : (x : List ℕ) → 68 ≤ reach x
unfolding reach
reach_least x = let s = reach_some (take 68 x) (header_flaw (take 68 x)) refl in grind (arith, common_steps, s)

pub take_whole : (x y : List ℕ) (n : ℕ) → length x ≡ n → take n (x ++ y) ≡ x
take_whole x y n e = grind (arith, common_steps)

pub take_front : (h left : List ℕ) → length h ≡ 68 → take 68 (h ++ left) ≡ h
take_front h left e = take_whole h left 68 e

pub all_some : (o : Option (List ℕ)) (F : List ℕ → Type 0) → ((x : List ℕ) → F x) → IfSome o F
all_some None F h = tt
all_some (Some x) F h = h x

pub some_at : (o : Option (List ℕ)) (x : List ℕ) (F : List ℕ → Type 0) → o ≡ Some x → F x → IfSome o F
some_at o x F e h = subst (λ (p : Option (List ℕ)). IfSome p F) (sym e) h

pub some_ahead : (f : List ℕ → List ℕ) (o p : Option (List ℕ)) (x : List ℕ) → option_map f o ≡ p → p ≡ Some x → IsSome o
some_ahead f None p x e h = cc
some_ahead f (Some y) p x e h = refl

pub same_some : (x y : List ℕ) → ◌≡◌ {A = Option (List ℕ)} (Some x) (Some y) → x ≡ y
same_some x y e = cc

-- Fewer bytes than the header and its chunk have were taken.
abbrev pub TookLess : World → World → Type 0
TookLess = Takes (λ taken most. taken < most)

-- No more bytes than the header and its chunk have were taken.
abbrev pub TookMost : World → World → Type 0
TookMost = Takes (λ taken most. taken ≤ most)

pub failed_first : (bytes : List ℕ) (w v : World) → Moved [] bytes w v → length bytes < 68 → TookLess w v
failed_first bytes w v m h = (bytes, took_of bytes w v m, all_some w.input (λ rest. length bytes < reach rest) (λ rest. let r = reach_least rest in omega (arith, r, h)))

pub memory_first : (w v : World) → MovedWithin [] 68 w v → TookMost w v
memory_first w v m = (m.0, took_of m.0 w v m.1, all_some w.input (λ rest. length m.0 ≤ reach rest) (λ rest. let r = reach_least rest in omega (arith, r, m.2)))

-- The buffer holds a whole header without flaws.
pub record Headed (h : List ℕ) (w v : World) : Type 0 where
  pub moved : Moved [] h w v
  pub opened : IsSome v.input
  pub long : length h ≡ 68
  pub flawless : header_flaw h ≡ None

pub record AtHeader (h : List ℕ) (w : World) : Type 0 where
  pub rest : List ℕ
  pub input : w.input ≡ Some rest
  pub header : take 68 rest ≡ h
  pub long : 68 ≤ length rest
  pub reach_is : reach rest ≡ size_of h

pub at_header : (h : List ℕ) (w v : World) → Headed h w v → AtHeader h w
at_header h w v k =
    let s = split h w v k.opened (took_of h w v k.moved) in
    let t : take 68 s.rest ≡ h = ap (take 68) s.parts ∙ take_front h s.left k.long in
    let n : length s.rest ≡ length h + length s.left = ap length s.parts ∙ length-append h s.left in
    let long : 68 ≤ length s.rest = omega (arith, n, k.long) in
    let flawless : header_flaw (take 68 s.rest) ≡ None = ap header_flaw t ∙ k.flawless in
    record { rest = s.rest; input = s.before; header = t; long = long; reach_is = reach_headed s.rest long ∙ ap (reach_by (size_of (take 68 s.rest))) flawless ∙ ap size_of t }

pub failed_second : (h bytes : List ℕ) (w v u : World) → Headed h w v → Moved h bytes v u → length bytes < size_of h → TookLess w u
failed_second h bytes w v u k m l =
    let a = at_header h w v k in
    let less : length bytes < reach a.rest = omega (arith, l, a.reach_is) in
    (bytes, took_of bytes w u (moved_trans [] h bytes w v u k.moved m), some_at w.input a.rest (λ rest. length bytes < reach rest) a.input less)

pub memory_second : (h : List ℕ) (w v u : World) → Headed h w v → MovedWithin h (size_of h) v u → TookMost w u
memory_second h w v u k m =
    let a = at_header h w v k in
    let most : length m.0 ≤ reach a.rest = omega (arith, m.2, a.reach_is) in
    (m.0, took_of m.0 w u (moved_trans [] h m.0 w v u k.moved m.1), some_at w.input a.rest (λ rest. length m.0 ≤ reach rest) a.input most)

-- What all bytes in hand, which ended the input, are the front of.
pub record AllIn (bytes : List ℕ) (w v : World) : Type 0 where
  pub moved : Moved [] bytes w v
  pub ended : v.input ≡ Some []

pub all_rest : (bytes : List ℕ) (w v : World) → AllIn bytes w v → w.input ≡ Some bytes
all_rest bytes w v k =
    let t = took_of bytes w v k.moved in
    sym t.input ∙ ap (option_map (λ (l : List ℕ). bytes ++ l)) k.ended ∙ ap Some (append-nil bytes)

pub refuses_all : (c : Cutter) (r : Refusal) (bytes : List ℕ) (w v : World) → AllIn bytes w v → ahead_of c bytes ≡ Bad (flaw_of r) → length bytes ≤ reach bytes → is_header r.reason ≡ false
    → Refuses c r w v
refuses_all c r bytes w v k e h n = record {
  bytes = bytes;
  found = record { rest = bytes; input = all_rest bytes w v k; took = took_of bytes w v k.moved; is = e };
  within = h;
  exact = λ y. cc;
}

pub judged_at : (d c : Cutter) (l bytes : List ℕ) (v : NextChunk) → d ≡ c → l ≡ bytes → IsJudged l d.start d.given v → IsJudged bytes c.start c.given v
judged_at d c l bytes v e f j = subst (λ (x : List ℕ). IsJudged x c.start c.given v) f (subst (λ (x : Cutter). IsJudged l x.start x.given v) e j)

-- If nothing was read after the last chunk, the recording has ended.
pub judged_end : (c : Cutter) (bytes : List ℕ) (w v : World) → IsJudged bytes c.start c.given nexts.End → Moved [] bytes w v → (length bytes < 68 → v.input ≡ Some []) → Found c End [] w v
judged_end c bytes w v judged m ended =
    let less : length bytes < 68 = let z : length bytes ≡ 0 = ap length judged.1 in omega (arith, z) in
    let all : AllIn [] w v = subst (λ (l : List ℕ). AllIn l w v) judged.1 (record { moved = m; ended = ended less }) in
    record { rest = []; input = all_rest [] w v all; took = took_of [] w v all.moved; is = ap (λ (b : Bool). front [] c.start (not b)) judged.0 ∙ front_end c.start }

-- What was judged bad by its first bytes is refused.
pub judged_bad : (c : Cutter) (n : ℕ) (f : Flaw) (bytes : List ℕ) (w v : World) → length bytes ≤ 68 → IsJudged bytes c.start c.given (nexts.Bad f) → Moved [] bytes w v → IsSome v.input
    → (length bytes < 68 → v.input ≡ Some []) → Refuses c (record { chunk = n; offset = f.offset; reason = f.reason }) w v
unfolding found split
judged_bad c n f bytes w v most judged m o ended =
    let t = took_of bytes w v m in
    let p = split bytes w v o t in
    let none : Follows bytes p.left = λ h. same_some p.left [] (sym p.after ∙ ended h) in
    let r = reach_least p.rest in
    let most' : length bytes ≤ reach p.rest = omega (arith, r, most) in
    record {
      bytes = bytes;
      found = found c (Bad f) bytes w v t p (ap (λ (x : List ℕ). front x c.start (not c.given)) p.parts ∙ judged.0 p.left none);
      within = most';
      exact = judged.1;
    }

pub short_chunk : (c : Cutter) (n : ℕ) (h bytes : List ℕ) (w v u : World) → c.start < 2 ^ 40 → Headed h w v → Moved h bytes v u → u.input ≡ Some [] → length bytes < size_of h
    → Refuses c (record { chunk = n; offset = length bytes; reason = ShortChunk }) w u
short_chunk c n h bytes w v u s k m e less =
    let a = at_header h w v k in
    let all : AllIn bytes w u = record { moved = moved_trans [] h bytes w v u k.moved m; ended = e } in
    let same : a.rest ≡ bytes = same_some a.rest bytes (sym a.input ∙ all_rest bytes w u all) in
    let long : 68 ≤ length bytes = subst (λ (l : List ℕ). 68 ≤ length l) same a.long in
    let t : take 68 bytes ≡ h = subst (λ (l : List ℕ). take 68 l ≡ h) same a.header in
    let by : reach bytes ≡ size_of h = subst (λ (l : List ℕ). reach l ≡ size_of h) same a.reach_is in
    let z : headed bytes (header_flaw (take 68 bytes)) ≡ sized bytes (size_of h) = ap (headed bytes) (ap header_flaw t ∙ k.flawless) ∙ ap (λ (l : List ℕ). sized bytes (size_of l)) t in
    refuses_all c (record { chunk = n; offset = length bytes; reason = ShortChunk }) bytes w u all (front_headed bytes c.start (not c.given) s long ∙ z ∙ sized_short bytes (size_of h) less)
    (omega (arith, by, less)) refl

pub whole_chunk : (c : Cutter) (h bytes : List ℕ) (w v u : World) → c.start < 2 ^ 40 → Headed h w v → Moved h bytes v u → length bytes ≡ size_of h → Found c (Chunk bytes) bytes w u
whole_chunk c h bytes w v u s k m size =
    let a = at_header h w v k in
    let t = took_of bytes w u (moved_trans [] h bytes w v u k.moved m) in
    let o = some_ahead (λ (l : List ℕ). bytes ++ l) u.input w.input a.rest t.input a.input in
    let p = split bytes w u o t in
    let same : a.rest ≡ p.rest = same_some a.rest p.rest (sym a.input ∙ p.before) in
    let long : 68 ≤ length p.rest = subst (λ (l : List ℕ). 68 ≤ length l) same a.long in
    let th : take 68 p.rest ≡ h = subst (λ (l : List ℕ). take 68 l ≡ h) same a.header in
    let l : length p.rest ≡ length bytes + length p.left = ap length p.parts ∙ length-append bytes p.left in
    let enough : size_of h ≤ length p.rest = omega (arith, l, size) in
    let mine : take (size_of h) p.rest ≡ bytes = ap (take (size_of h)) p.parts ∙ take_whole bytes p.left (size_of h) size in
    let z : headed p.rest (header_flaw (take 68 p.rest)) ≡ sized p.rest (size_of h) = ap (headed p.rest) (ap header_flaw th ∙ k.flawless) ∙ ap (λ (l : List ℕ). sized p.rest (size_of l)) th in
    found c (Chunk bytes) bytes w u t p (front_headed p.rest c.start (not c.given) s long ∙ z ∙ sized_whole p.rest (size_of h) enough ∙ ap Chunk mine)

pub with_two : (b a d : Option World) (F : World → Type 0) (P Q R : World → World → Type 0) → IfKnown b a P → IfSome a F → IfKnown a d Q → ((w v u : World) → P w v → F v → Q v u → R w u)
    → IfKnown b d R
with_two None a d F P Q R p h q f = tt
with_two (Some w) None d F P Q R p h q f = absurd p
with_two (Some w) (Some v) None F P Q R p h q f = absurd q
with_two (Some w) (Some v) (Some u) F P Q R p h q f = f w v u p h q

pub chain_with : (b a d : Option World) (F G : World → Type 0) (P Q R : World → World → Type 0) → IfKnown b a P → IfSome a F → IfKnown a d Q → IfSome d G
    → ((w v u : World) → P w v → F v → Q v u → G u → R w u) → IfKnown b d R
chain_with None a d F G P Q R p h q k f = tt
chain_with (Some w) None d F G P Q R p h q k f = absurd p
chain_with (Some w) (Some v) None F G P Q R p h q k f = absurd q
chain_with (Some w) (Some v) (Some u) F G P Q R p h q k f = f w v u p h q k

pub whole_of : (h bytes : List ℕ) → length h ≡ 68 → header_flaw h ≡ None → take 68 bytes ≡ h → length bytes ≡ size_of h → Whole bytes
whole_of h bytes n fine t size =
    let b = size_bounds h fine in
    record { long = omega (arith, b.0, size); flawless = ap header_flaw t ∙ fine; size = ap size_of t ∙ sym size }

-- A whole chunk is found at the front of what it is followed by.
pub whole_reach : (c left : List ℕ) → Whole c → reach (c ++ left) ≡ length c
whole_reach c left k =
    let t : take 68 (c ++ left) ≡ take 68 c = take-append-le 68 c left k.long in
    let long : 68 ≤ length (c ++ left) = omega (arith, k.long, length-append c left) in
    let flawless : header_flaw (take 68 (c ++ left)) ≡ None = ap header_flaw t ∙ k.flawless in
    reach_headed (c ++ left) long ∙ ap (reach_by (size_of (take 68 (c ++ left)))) flawless ∙ ap size_of t ∙ k.size

pub whole_front : (c left : List ℕ) (s : ℕ) (f : Bool) → Whole c → s < 2 ^ 40 → front (c ++ left) s f ≡ Chunk c
whole_front c left s f k h =
    let t : take 68 (c ++ left) ≡ take 68 c = take-append-le 68 c left k.long in
    let long : 68 ≤ length (c ++ left) = omega (arith, k.long, length-append c left) in
    let flawless : header_flaw (take 68 (c ++ left)) ≡ None = ap header_flaw t ∙ k.flawless in
    let size : size_of (take 68 (c ++ left)) ≡ length c = ap size_of t ∙ k.size in
    let enough : length c ≤ length (c ++ left) = omega (arith, length-append c left) in
    front_headed (c ++ left) s f h long ∙ ap (headed (c ++ left)) flawless ∙ ap (sized (c ++ left)) size
    ∙ sized_whole (c ++ left) (length c) enough ∙ ap Chunk (take_whole c left (length c) refl)
