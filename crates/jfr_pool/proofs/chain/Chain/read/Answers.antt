use Rattle.std.proofs.Common.{sym, ◌∙◌, length}
use Rattle.std.proofs.lemmas.Result.{err_from_is_err_and}
use Rattle.jfr_pool.proofs.Among.{are_records}
use Rattle.jfr_pool.proofs.ChainReading.{reading_none, reading_at, reading_more, reading_done, link_stops, older_stops, falls, told_chain, told_flaw}
use Rattle.jfr_pool.proofs.chain.Chain.read.Goals as goal

pub links-init : goal.links-init
links-init c = reading_none _ _ _ _ _ c.new-links.ensures.items c.find-next.ensures

pub read_link-requires : goal.read_link-requires
read_link-requires c = are_records c.args.chunk.now 68 (length c.args.chunk.now) c.args.frames.now c.requires.framed c.in-Some.frame
    (reading_at _ _ _ _ _ _ c.links.invariant c.in-Some.is).listed.among

pub returns-in_err-link-clause-refused : goal.returns-in_err-link-clause-refused
returns-in_err-link-clause-refused c =
    let p = err_from_is_err_and c.from_residual.result c.from_residual.ensures.1 in
    rw (p.1, p.2) (told_flaw _ _ _ c.requires.framed c.requires.last _
    (link_stops _ _ _ _ _ (reading_at _ _ _ _ _ _ c.links.invariant c.in-Some.is) _ (sym c.in_err-link.was ∙ c.read_link.ensures.exact))).0

pub returns-in_err-link-clause-exact : goal.returns-in_err-link-clause-exact
returns-in_err-link-clause-exact c =
    let p = err_from_is_err_and c.from_residual.result c.from_residual.ensures.1 in
    rw (p.1, p.2) (told_flaw _ _ _ c.requires.framed c.requires.last _
    (link_stops _ _ _ _ _ (reading_at _ _ _ _ _ _ c.links.invariant c.in-Some.is) _ (sym c.in_err-link.was ∙ c.read_link.ensures.exact))).1

pub returns-in_err-next-clause-refused : goal.returns-in_err-next-clause-refused
returns-in_err-next-clause-refused c =
    let p = err_from_is_err_and c.from_residual-in_err-next.result c.from_residual-in_err-next.ensures.1 in
    rw (p.1, p.2) (told_flaw _ _ _ c.requires.framed c.requires.last _
    (older_stops _ _ _ _ _ (reading_at _ _ _ _ _ _ c.links.invariant c.in-Some.is) _ _ (sym c.in_ok-link.was ∙ c.read_link.ensures.exact) (sym c.in_err-next.was ∙ c.older.ensures.exact))).0

pub returns-in_err-next-clause-exact : goal.returns-in_err-next-clause-exact
returns-in_err-next-clause-exact c =
    let p = err_from_is_err_and c.from_residual-in_err-next.result c.from_residual-in_err-next.ensures.1 in
    rw (p.1, p.2) (told_flaw _ _ _ c.requires.framed c.requires.last _
    (older_stops _ _ _ _ _ (reading_at _ _ _ _ _ _ c.links.invariant c.in-Some.is) _ _ (sym c.in_ok-link.was ∙ c.read_link.ensures.exact) (sym c.in_err-next.was ∙ c.older.ensures.exact))).1

pub links-smaller : goal.links-smaller
links-smaller c = falls _ _ _ _ _ _ (sym c.in_ok-link.was ∙ c.read_link.ensures.exact) (sym c.in_ok-next.was ∙ c.older.ensures.exact) c.in-Some.is

pub links-preserved : goal.links-preserved
links-preserved c = reading_more _ _ _ _ _ (reading_at _ _ _ _ _ _ c.links.invariant c.in-Some.is) _ _ _ (sym c.in_ok-link.was ∙ c.read_link.ensures.exact)
    (sym c.in_ok-next.was ∙ c.older.ensures.exact) c.in_ok-push.ensures.items

pub returns-clause-ok : goal.returns-clause-ok
returns-clause-ok c = (told_chain _ _ _ c.requires.framed c.requires.last _ _ (reading_done _ _ _ _ _ c.links.invariant c.in_default.is) c.reverse.ensures.items).0

pub returns-clause-read : goal.returns-clause-read
returns-clause-read c = record {
  records = c.args.frames.now;
  last = c.args.last;
  cover = c.requires.framed;
  chain = (told_chain _ _ _ c.requires.framed c.requires.last _ _ (reading_done _ _ _ _ _ c.links.invariant c.in_default.is) c.reverse.ensures.items).0;
}

pub returns-clause-exact : goal.returns-clause-exact
returns-clause-exact c = (told_chain _ _ _ c.requires.framed c.requires.last _ _ (reading_done _ _ _ _ _ c.links.invariant c.in_default.is) c.reverse.ensures.items).1
