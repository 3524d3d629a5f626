use Rattle.jfr_value.proofs.leaf_visit.visit_leaves.Given as goal

abbrev pub ghosts-visit_with_ledger : goal.ghosts-visit_with_ledger
ghosts-visit_with_ledger g a = record { name = a.blank.name; parts = a.blank.parts }
