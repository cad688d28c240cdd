use Rattle.shell_tests.proofs.sessions.variables_take_the_types_of_their_values.Given as goal

abbrev pub ghosts-wrong_line : goal.ghosts-wrong_line
ghosts-wrong_line g a = record { name = a.blank.name; parts = a.blank.parts }
