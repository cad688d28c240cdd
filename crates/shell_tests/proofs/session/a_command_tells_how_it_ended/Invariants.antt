use Rattle.shell_tests.proofs.session.a_command_tells_how_it_ended.Given as goal

abbrev pub ghosts-answered : goal.ghosts-answered
ghosts-answered g a = record { name = a.blank.name; parts = a.blank.parts }
