use Rattle.std.proofs.Common.{[], ◌∷◌}
use Rattle.jfr_renumber.specs.Missing.{Lists}
use Rattle.jfr_renumber.proofs.ListingLaws.{all_visited}
use Rattle.jfr_renumber.proofs.missing.list_single.Goals as goal

pub end_visiting-end-requires-clause-layout : goal.end_visiting-end-requires-clause-layout
end_visiting-end-requires-clause-layout c = c.layout_of-layout.ensures.known c.requires.known

pub returns : goal.returns
returns c =
    let v = c.requires.there in
    all_visited (λ t old new. Lists c.args.walk.with.now (t ∷ []) old new) c.args.walk.classes.now c.args.walk.bytes.now c.layout_of-layout.result.shape c.args.shape c.args.at c.args.walk.end v.0
    c.end_visiting-end.result c.args.list.now c.end_visiting-end.new.visitor
    c.requires.sound v.1 c.layout_of-layout.ensures.shape c.end_visiting-end.ensures.exact c.end_visiting-end.ensures.visited
