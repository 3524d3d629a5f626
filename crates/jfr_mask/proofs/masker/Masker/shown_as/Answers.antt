use Rattle.jfr_mask.specs.Written.{shown_bytes}
use Rattle.jfr_mask.proofs.NotedShown.{if_some_weaker, pseudonym_is}
use Rattle.jfr_mask.proofs.masker.Masker.shown_as.Goals as goal

pub returns : goal.returns
returns c = λ found noted.
    if_some_weaker c.shown.result
    (λ shown s. pseudonym_is c.args.self.now found c.args.noted (shown_bytes shown) c.texts_are_distinct.ensures noted s.0 c.shown.ensures.fits s.1) c.shown.ensures.shown
