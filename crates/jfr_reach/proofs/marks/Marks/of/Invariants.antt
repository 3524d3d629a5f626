use Rattle.jfr_reach.proofs.marks.Marks.of.Given as goal

abbrev pub ghosts-with_ledger : goal.ghosts-with_ledger
ghosts-with_ledger a = record { name = a.blank.name; parts = a.blank.parts }
