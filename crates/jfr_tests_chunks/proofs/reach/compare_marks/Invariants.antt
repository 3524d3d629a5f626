use Rattle.jfr_tests_chunks.proofs.reach.compare_marks.Given as goal

abbrev pub ghosts-marks_of : goal.ghosts-marks_of
ghosts-marks_of g a = record { name = a.blank.name; parts = a.blank.parts }
