use Rattle.shell_tests.proofs.session.a_command_that_was_not_cut_out_whole_is_refused.Given as goal

abbrev pub ghosts-answered : goal.ghosts-answered
ghosts-answered g a = record { name = a.blank.name; parts = a.blank.parts }
