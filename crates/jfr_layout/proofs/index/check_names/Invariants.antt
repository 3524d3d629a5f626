use Rattle.jfr_layout.proofs.NamesSeen.{NamesSeen}
use Rattle.jfr_layout.proofs.index.check_names.Given as goal

abbrev pub invariant-loop-field : goal.invariant-loop-field
invariant-loop-field l = NamesSeen l.class l.fields l.numbers l.field l.seen
