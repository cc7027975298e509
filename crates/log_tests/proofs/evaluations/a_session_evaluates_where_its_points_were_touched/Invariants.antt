use Rattle.log_tests.proofs.evaluations.a_session_evaluates_where_its_points_were_touched.Given as goal

abbrev pub ghosts-said_over : goal.ghosts-said_over
ghosts-said_over g a = record { name = a.blank.name; parts = a.blank.parts }
