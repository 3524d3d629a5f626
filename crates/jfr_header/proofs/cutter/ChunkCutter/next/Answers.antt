use Rattle.jfr_header.proofs.Clauses.{decides, taken, header_taken, within, fewer, unchanged}
use Rattle.jfr_header.proofs.cutter.ChunkCutter.next.Goals as goal

pub returns-clause-decides : goal.returns-clause-decides
returns-clause-decides g c = decides c.advance.result c.args.self.now c.advance.new.self (g.P.Place.state c.args.place.now).contents
    (g.P.Place.state c.advance.new.place).contents c.advance.ensures.cut c.advance.ensures.contents

pub returns-clause-chunk_taken : goal.returns-clause-chunk_taken
returns-clause-chunk_taken g c = taken c.advance.result c.args.self.now c.advance.new.self (g.P.Place.state c.args.place.now).contents
    (g.P.Place.state c.advance.new.place).contents c.advance.ensures.contents

pub returns-clause-header_taken : goal.returns-clause-header_taken
returns-clause-header_taken g c = header_taken c.advance.result c.args.self.now c.advance.new.self (g.P.Place.state c.args.place.now).contents
    (g.P.Place.state c.advance.new.place).contents c.advance.ensures.contents

pub returns-clause-at_most : goal.returns-clause-at_most
returns-clause-at_most g c = within c.advance.result c.args.self.now c.advance.new.self (g.P.Place.state c.args.place.now).contents
    (g.P.Place.state c.advance.new.place).contents c.advance.ensures.cut c.advance.ensures.contents

pub returns-clause-not_whole : goal.returns-clause-not_whole
returns-clause-not_whole g c = fewer c.advance.result c.args.self.now c.advance.new.self (g.P.Place.state c.args.place.now).contents
    (g.P.Place.state c.advance.new.place).contents c.advance.ensures.contents

pub returns-clause-unchanged : goal.returns-clause-unchanged
returns-clause-unchanged g c = unchanged c.advance.result c.args.self.now c.advance.new.self (g.P.Place.state c.args.place.now).contents
    (g.P.Place.state c.advance.new.place).contents c.advance.ensures.contents
