use Rattle.shell_tests.proofs.sessions.queries_are_answered_with_value_and_type.Given as goal

abbrev pub ghosts-wrong_line : goal.ghosts-wrong_line
ghosts-wrong_line g a = record { name = a.blank.name; parts = a.blank.parts }
