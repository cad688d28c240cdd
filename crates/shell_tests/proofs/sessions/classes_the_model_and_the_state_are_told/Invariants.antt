use Rattle.shell_tests.proofs.sessions.classes_the_model_and_the_state_are_told.Given as goal

abbrev pub ghosts-wrong_line : goal.ghosts-wrong_line
ghosts-wrong_line g a = record { name = a.blank.name; parts = a.blank.parts }
