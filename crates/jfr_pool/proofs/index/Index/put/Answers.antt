use Rattle.std.proofs.Common.{refl, sym, arith}
use Rattle.jfr_pool.proofs.IndexLaws.{seated, passed}
use Rattle.jfr_pool.proofs.index.Index.put.Goals as goal

pub returns-in-Some : goal.returns-in-Some
returns-in-Some c = λ by_class. seated c.args.self.now _ c.args.entry.now c.args.number c.in-Some.place (omega (arith, c.args.self.now.slots.ok.0, c.in-Some.ensures.within)) refl refl
    (sym c.in-Some.ensures.exact) by_class

pub returns-in_ok-insert-in-None : goal.returns-in_ok-insert-in-None
returns-in_ok-insert-in-None c = λ by_class es. passed by_class c.args.self.now _ c.args.entry.now c.args.number es (sym c.in-None.ensures.exact) refl c.in_ok-insert-in-None.ensures.updates
