use Rattle.std.proofs.Common.{rules, ◌^◌, ◌+◌, Err, ◌≡◌, ◌≤◌, ◌<◌, ◌∙◌, sym, ap, subst, refl, ℕ, List, [], length, take, arith, IsSome, IfSome, Some}
use Rattle.jfr_outside.specs.World.{IfKnown}
use Rattle.jfr_header.specs.Cutters.{Cutter}
use Rattle.jfr_header.specs.Fronts.{size_of}
use Rattle.jfr_header.specs.Judging.{IsJudged}
use Rattle.jfr_header.specs.Taking.{Moved, MovedWithin}
use Rattle.jfr_header.specs.declared.judge.NextChunk.TheVariants as nexts
use Rattle.jfr_header.proofs.Steps.{from_empty, map_known, with_both, with_two, chain_with, failed_first, memory_first, judged_at, judged_end, judged_bad, failed_second, memory_second, short_chunk, whole_chunk, size_bounds, whole_of}
use Rattle.jfr_header.proofs.cutter.ChunkCutter.advance.Goals as goal

pub returns-in-Err-Failed-clause-contents : goal.returns-in-Err-Failed-clause-contents
returns-in-Err-Failed-clause-contents g c =
    let none : c.clear.new.self ≡ [] = c.clear.ensures in
    let f = c.in-Err-Failed.ensures.failed (ap Err c.in-Err-Failed.field-0-is) in
    let less : length c.fill.new.self < 68 = search (rules, f.0) in
    map_known (g.P.Place.state c.args.place.now).contents (g.P.Place.state c.fill.new.place).contents (Moved [] c.fill.new.self) _
    (from_empty (g.P.Place.state c.args.place.now).contents (g.P.Place.state c.fill.new.place).contents c.clear.new.self c.fill.new.self none f.1) (λ w v m. failed_first c.fill.new.self w v m less)

pub returns-in-Err-Memory-clause-contents : goal.returns-in-Err-Memory-clause-contents
returns-in-Err-Memory-clause-contents g c =
    map_known (g.P.Place.state c.args.place.now).contents (g.P.Place.state c.fill.new.place).contents (MovedWithin [] 68) _
    (subst (λ (l : List ℕ). IfKnown (g.P.Place.state c.args.place.now).contents (g.P.Place.state c.fill.new.place).contents (MovedWithin l 68)) c.clear.ensures
    (c.in-Err-Memory.ensures.memory (ap Err c.in-Err-Memory.field-0-is)))
    memory_first

pub returns-in-End-clause-contents : goal.returns-in-End-clause-contents
returns-in-End-clause-contents g c =
    let ended : length c.fill.new.self < 68 → IfSome (g.P.Place.state c.fill.new.place).contents (λ v. v.input ≡ Some []) = λ k. c.in-Ok.ensures.end k in
    let none : c.clear.new.self ≡ [] = c.clear.ensures in
    let first : IfKnown (g.P.Place.state c.args.place.now).contents (g.P.Place.state c.fill.new.place).contents (Moved [] c.fill.new.self) =
    from_empty (g.P.Place.state c.args.place.now).contents (g.P.Place.state c.fill.new.place).contents c.clear.new.self c.fill.new.self none c.in-Ok.ensures.ok in
    let opened : IfSome (g.P.Place.state c.fill.new.place).contents (λ v. IsSome v.input) = c.in-Ok.ensures.opened (let z : length c.clear.new.self ≡ 0 = ap length none in omega (arith, z)) in
    let judged : IsJudged c.fill.new.self c.args.self.now.start c.args.self.now.given (nexts.End) =
    judged_at _ c.args.self.now c.as_slice.result.now c.fill.new.self (nexts.End) c.self.view_is c.as_slice.ensures c.in-End.ensures in
    with_both (g.P.Place.state c.args.place.now).contents (g.P.Place.state c.fill.new.place).contents (λ v. IsSome v.input) (λ v. v.input ≡ Some []) (length c.fill.new.self < 68)
    (Moved [] c.fill.new.self) _ first opened ended
    (λ w v m o e. judged_end c.args.self.now c.fill.new.self w v judged m e)

pub returns-in-Bad-clause-contents : goal.returns-in-Bad-clause-contents
returns-in-Bad-clause-contents g c =
    let ended : length c.fill.new.self < 68 → IfSome (g.P.Place.state c.fill.new.place).contents (λ v. v.input ≡ Some []) = λ k. c.in-Ok.ensures.end k in
    let none : c.clear.new.self ≡ [] = c.clear.ensures in
    let first : IfKnown (g.P.Place.state c.args.place.now).contents (g.P.Place.state c.fill.new.place).contents (Moved [] c.fill.new.self) =
    from_empty (g.P.Place.state c.args.place.now).contents (g.P.Place.state c.fill.new.place).contents c.clear.new.self c.fill.new.self none c.in-Ok.ensures.ok in
    let opened : IfSome (g.P.Place.state c.fill.new.place).contents (λ v. IsSome v.input) = c.in-Ok.ensures.opened (let z : length c.clear.new.self ≡ 0 = ap length none in omega (arith, z)) in
    let judged : IsJudged c.fill.new.self c.args.self.now.start c.args.self.now.given (nexts.Bad c.in-Bad.flaw) =
    judged_at _ c.args.self.now c.as_slice.result.now c.fill.new.self (nexts.Bad c.in-Bad.flaw) c.self.view_is c.as_slice.ensures c.in-Bad.ensures in
    let most : length c.fill.new.self ≤ 68 = search (rules, c.in-Ok.ensures.bound) in
    with_both (g.P.Place.state c.args.place.now).contents (g.P.Place.state c.fill.new.place).contents (λ v. IsSome v.input) (λ v. v.input ≡ Some []) (length c.fill.new.self < 68)
    (Moved [] c.fill.new.self) _ first opened ended
    (λ w v m o e. rw c.with_number.ensures (judged_bad c.args.self.now c.self.inside.number c.in-Bad.flaw c.fill.new.self w v most judged m o e))

pub fill-requires-2 : goal.fill-requires-2
fill-requires-2 g c =
    let judged : IsJudged c.fill.new.self c.args.self.now.start c.args.self.now.given (nexts.Sized c.in-Sized.size) =
    judged_at _ c.args.self.now c.as_slice.result.now c.fill.new.self (nexts.Sized c.in-Sized.size) c.self.view_is c.as_slice.ensures c.in-Sized.ensures in
    let b = size_bounds c.fill.new.self judged.2 in
    omega (arith, b.0, judged.3, c.in-Ok.ensures.bound)

pub returns-in-Err-Failed-fill-clause-contents : goal.returns-in-Err-Failed-fill-clause-contents
returns-in-Err-Failed-fill-clause-contents g c =
    let none : c.clear.new.self ≡ [] = c.clear.ensures in
    let first : IfKnown (g.P.Place.state c.args.place.now).contents (g.P.Place.state c.fill.new.place).contents (Moved [] c.fill.new.self) =
    from_empty (g.P.Place.state c.args.place.now).contents (g.P.Place.state c.fill.new.place).contents c.clear.new.self c.fill.new.self none c.in-Ok.ensures.ok in
    let opened : IfSome (g.P.Place.state c.fill.new.place).contents (λ v. IsSome v.input) = c.in-Ok.ensures.opened (let z : length c.clear.new.self ≡ 0 = ap length none in omega (arith, z)) in
    let judged : IsJudged c.fill.new.self c.args.self.now.start c.args.self.now.given (nexts.Sized c.in-Sized.size) =
    judged_at _ c.args.self.now c.as_slice.result.now c.fill.new.self (nexts.Sized c.in-Sized.size) c.self.view_is c.as_slice.ensures c.in-Sized.ensures in
    let f = c.in-Err-Failed-fill.ensures.failed (ap Err c.in-Err-Failed-fill.field-0-is) in
    let less : length c.fill-2.new.self < size_of c.fill.new.self = omega (arith, f.0, judged.3) in
    with_two (g.P.Place.state c.args.place.now).contents (g.P.Place.state c.fill.new.place).contents (g.P.Place.state c.fill-2.new.place).contents (λ v. IsSome v.input) (Moved [] c.fill.new.self)
    (Moved c.fill.new.self c.fill-2.new.self) _ first opened f.1
    (λ w v u m o q. failed_second c.fill.new.self c.fill-2.new.self w v u (record { moved = m; opened = o; long = judged.1; flawless = judged.2 }) q less)

pub returns-in-Err-Memory-fill-clause-contents : goal.returns-in-Err-Memory-fill-clause-contents
returns-in-Err-Memory-fill-clause-contents g c =
    let none : c.clear.new.self ≡ [] = c.clear.ensures in
    let first : IfKnown (g.P.Place.state c.args.place.now).contents (g.P.Place.state c.fill.new.place).contents (Moved [] c.fill.new.self) =
    from_empty (g.P.Place.state c.args.place.now).contents (g.P.Place.state c.fill.new.place).contents c.clear.new.self c.fill.new.self none c.in-Ok.ensures.ok in
    let opened : IfSome (g.P.Place.state c.fill.new.place).contents (λ v. IsSome v.input) = c.in-Ok.ensures.opened (let z : length c.clear.new.self ≡ 0 = ap length none in omega (arith, z)) in
    let judged : IsJudged c.fill.new.self c.args.self.now.start c.args.self.now.given (nexts.Sized c.in-Sized.size) =
    judged_at _ c.args.self.now c.as_slice.result.now c.fill.new.self (nexts.Sized c.in-Sized.size) c.self.view_is c.as_slice.ensures c.in-Sized.ensures in
    let f = subst (λ (k : ℕ). IfKnown (g.P.Place.state c.fill.new.place).contents (g.P.Place.state c.fill-2.new.place).contents (MovedWithin c.fill.new.self k)) judged.3
    (c.in-Err-Memory-fill.ensures.memory (ap Err c.in-Err-Memory-fill.field-0-is)) in
    with_two (g.P.Place.state c.args.place.now).contents (g.P.Place.state c.fill.new.place).contents (g.P.Place.state c.fill-2.new.place).contents (λ v. IsSome v.input) (Moved [] c.fill.new.self)
    (MovedWithin c.fill.new.self (size_of c.fill.new.self)) _ first opened f
    (λ w v u m o q. memory_second c.fill.new.self w v u (record { moved = m; opened = o; long = judged.1; flawless = judged.2 }) q)

pub returns-then-count-size-clause-contents : goal.returns-then-count-size-clause-contents
returns-then-count-size-clause-contents g c =
    let none : c.clear.new.self ≡ [] = c.clear.ensures in
    let first : IfKnown (g.P.Place.state c.args.place.now).contents (g.P.Place.state c.fill.new.place).contents (Moved [] c.fill.new.self) =
    from_empty (g.P.Place.state c.args.place.now).contents (g.P.Place.state c.fill.new.place).contents c.clear.new.self c.fill.new.self none c.in-Ok.ensures.ok in
    let opened : IfSome (g.P.Place.state c.fill.new.place).contents (λ v. IsSome v.input) = c.in-Ok.ensures.opened (let z : length c.clear.new.self ≡ 0 = ap length none in omega (arith, z)) in
    let judged : IsJudged c.fill.new.self c.args.self.now.start c.args.self.now.given (nexts.Sized c.in-Sized.size) =
    judged_at _ c.args.self.now c.as_slice.result.now c.fill.new.self (nexts.Sized c.in-Sized.size) c.self.view_is c.as_slice.ensures c.in-Sized.ensures in
    let fewer : length c.fill-2.new.self < c.in-Sized.size = search rules in
    let less : length c.fill-2.new.self < size_of c.fill.new.self = omega (arith, fewer, judged.3) in
    let count : c.len-count.result ≡ length c.fill-2.new.self = search rules in
    chain_with (g.P.Place.state c.args.place.now).contents (g.P.Place.state c.fill.new.place).contents (g.P.Place.state c.fill-2.new.place).contents (λ v. IsSome v.input) (λ v. v.input ≡ Some [])
    (Moved [] c.fill.new.self) (Moved c.fill.new.self c.fill-2.new.self) _ first opened c.in-Ok-fill.ensures.ok (c.in-Ok-fill.ensures.end fewer)
    (λ w v u m o q e. rw count (short_chunk c.args.self.now c.self.inside.number c.fill.new.self c.fill-2.new.self w v u judged.0
    (record { moved = m; opened = o; long = judged.1; flawless = judged.2 }) q e less))

pub invariant_of-self-2 : goal.invariant_of-self-2
invariant_of-self-2 g c =
    let judged : IsJudged c.fill.new.self c.args.self.now.start c.args.self.now.given (nexts.Sized c.in-Sized.size) =
    judged_at _ c.args.self.now c.as_slice.result.now c.fill.new.self (nexts.Sized c.in-Sized.size) c.self.view_is c.as_slice.ensures c.in-Sized.ensures in
    let near : c.self.inside.start < 2 ^ 40 = search rules in
    let b = size_bounds c.fill.new.self judged.2 in
    record { low = omega (arith, near, b.1, judged.3); numbered = omega (arith, b.0, judged.3, c.self.invariant.numbered); counted = λ _. omega arith }

pub returns-clause-cut : goal.returns-clause-cut
returns-clause-cut g c =
    let none : c.clear.new.self ≡ [] = c.clear.ensures in
    let judged : IsJudged c.fill.new.self c.args.self.now.start c.args.self.now.given (nexts.Sized c.in-Sized.size) =
    judged_at _ c.args.self.now c.as_slice.result.now c.fill.new.self (nexts.Sized c.in-Sized.size) c.self.view_is c.as_slice.ensures c.in-Sized.ensures in
    let whole : length c.fill-2.new.self ≡ c.in-Sized.size = search rules in
    let kept : take 68 c.fill-2.new.self ≡ c.fill.new.self = subst (λ (k : ℕ). take k c.fill-2.new.self ≡ c.fill.new.self) judged.1 c.in-Ok-fill.ensures.prefix in
    record {
      whole = whole_of c.fill.new.self c.fill-2.new.self judged.1 judged.2 kept (whole ∙ judged.3);
      early = judged.0;
      start = ap (λ (y : Cutter). y.start + c.in-Sized.size) c.self.view_is ∙ ap (λ (k : ℕ). c.args.self.now.start + k) (sym whole);
      number = ap (λ (y : Cutter). y.number + 1) c.self.view_is;
      given = refl;
      live = refl;
    }

pub returns-clause-contents : goal.returns-clause-contents
returns-clause-contents g c =
    let none : c.clear.new.self ≡ [] = c.clear.ensures in
    let first : IfKnown (g.P.Place.state c.args.place.now).contents (g.P.Place.state c.fill.new.place).contents (Moved [] c.fill.new.self) =
    from_empty (g.P.Place.state c.args.place.now).contents (g.P.Place.state c.fill.new.place).contents c.clear.new.self c.fill.new.self none c.in-Ok.ensures.ok in
    let opened : IfSome (g.P.Place.state c.fill.new.place).contents (λ v. IsSome v.input) = c.in-Ok.ensures.opened (let z : length c.clear.new.self ≡ 0 = ap length none in omega (arith, z)) in
    let judged : IsJudged c.fill.new.self c.args.self.now.start c.args.self.now.given (nexts.Sized c.in-Sized.size) =
    judged_at _ c.args.self.now c.as_slice.result.now c.fill.new.self (nexts.Sized c.in-Sized.size) c.self.view_is c.as_slice.ensures c.in-Sized.ensures in
    let whole : length c.fill-2.new.self ≡ c.in-Sized.size = search rules in
    with_two (g.P.Place.state c.args.place.now).contents (g.P.Place.state c.fill.new.place).contents (g.P.Place.state c.fill-2.new.place).contents (λ v. IsSome v.input) (Moved [] c.fill.new.self)
    (Moved c.fill.new.self c.fill-2.new.self) _ first opened c.in-Ok-fill.ensures.ok
    (λ w v u m o q. whole_chunk c.args.self.now c.fill.new.self c.fill-2.new.self w v u judged.0 (record { moved = m; opened = o; long = judged.1; flawless = judged.2 }) q (whole ∙ judged.3))

pub overflow_add-self : goal.overflow_add-self
overflow_add-self g c =
    let judged : IsJudged c.fill.new.self c.args.self.now.start c.args.self.now.given (nexts.Sized c.in-Sized.size) =
    judged_at _ c.args.self.now c.as_slice.result.now c.fill.new.self (nexts.Sized c.in-Sized.size) c.self.view_is c.as_slice.ensures c.in-Sized.ensures in
    let near : c.self.inside.start < 2 ^ 40 = search rules in
    let b = size_bounds c.fill.new.self judged.2 in
    omega (arith, near, b.1, judged.3)
