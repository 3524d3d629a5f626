use Rattle.std.proofs.Common.{◌∙◌}
use Rattle.jfr_laws.proofs.Passing.{clash}
use Rattle.jfr_rewrite.proofs.SizeLaws.{not_carried, replaced, stayed}
use Rattle.jfr_rewrite.proofs.size.put_size.Goals as goal

pub returns-then-not-fits : goal.returns-then-not-fits
returns-then-not-fits g c =
    not_carried (g.R.Rewriter.rewrite c.args.rewriting.now) c.args.frame c.args.out.now.items c.args.start c.requires.within c.width-width.result c.len.result
    (c.len.ensures ∙ c.args.out.now.ok.0) c.width-width.ensures.exact
    (λ f. clash c.fits.result (c.fits.ensures.1 f) c.if-not-fits.true)

pub returns-then-width-room : goal.returns-then-width-room
returns-then-width-room g c =
    stayed (g.R.Rewriter.rewrite c.args.rewriting.now) c.args.frame c.args.out.now.items c.args.start c.requires.within c.width-width.result c.len.result c.put_in_place.new.out.items
    (c.len.ensures ∙ c.args.out.now.ok.0) c.width-width.ensures.exact
    c.width-width.ensures.range.0 c.if-width-room.true c.put_in_place.ensures

pub returns : goal.returns
returns g c =
    replaced (g.R.Rewriter.rewrite c.args.rewriting.now) c.args.frame c.args.out.now.items c.args.start c.requires.within c.width-width.result c.len.result c.replace_size.new.out.items
    (c.len.ensures ∙ c.args.out.now.ok.0) c.width-width.ensures.exact
    c.width-width.ensures.range.0 c.in_ok-replace_size.ensures.ok
