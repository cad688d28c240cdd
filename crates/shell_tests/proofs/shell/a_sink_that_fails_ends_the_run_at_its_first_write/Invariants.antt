use Rattle.shell_tests.proofs.shell.a_sink_that_fails_ends_the_run_at_its_first_write.Given as goal

abbrev pub ghosts-into_broken : goal.ghosts-into_broken
ghosts-into_broken g a = record { name = a.blank.name; parts = a.blank.parts }
