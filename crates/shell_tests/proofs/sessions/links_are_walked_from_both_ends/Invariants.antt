use Rattle.shell_tests.proofs.sessions.links_are_walked_from_both_ends.Given as goal

abbrev pub ghosts-wrong_line : goal.ghosts-wrong_line
ghosts-wrong_line g a = record { name = a.blank.name; parts = a.blank.parts }
