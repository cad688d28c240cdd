use Rattle.shell_tests.proofs.shell.a_source_that_fails_ends_the_run_behind_the_answers.Given as goal

abbrev pub ghosts-from_faulty : goal.ghosts-from_faulty
ghosts-from_faulty g a = record { name = a.blank.name; parts = a.blank.parts }
