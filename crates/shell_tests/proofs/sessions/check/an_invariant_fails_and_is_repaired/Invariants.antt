use Rattle.shell_tests.proofs.sessions.check.an_invariant_fails_and_is_repaired.Given as goal

abbrev pub ghosts-wrong_line : goal.ghosts-wrong_line
ghosts-wrong_line g a = record { name = a.blank.name; parts = a.blank.parts }
