use Rattle.shell_tests.proofs.shell.strict.refusals_and_failed_checks_are_told_by_the_status.Given as goal

abbrev pub ghosts-played_over : goal.ghosts-played_over
ghosts-played_over g a = record { name = a.blank.name; parts = a.blank.parts }
