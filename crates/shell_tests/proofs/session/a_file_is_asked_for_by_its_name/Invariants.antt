use Rattle.shell_tests.proofs.session.a_file_is_asked_for_by_its_name.Given as goal

abbrev pub ghosts-answered : goal.ghosts-answered
ghosts-answered g a = record { name = a.blank.name; parts = a.blank.parts }
