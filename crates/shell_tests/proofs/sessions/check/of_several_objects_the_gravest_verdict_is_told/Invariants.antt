use Rattle.shell_tests.proofs.sessions.check.of_several_objects_the_gravest_verdict_is_told.Given as goal

abbrev pub ghosts-wrong_line : goal.ghosts-wrong_line
ghosts-wrong_line g a = record { name = a.blank.name; parts = a.blank.parts }
