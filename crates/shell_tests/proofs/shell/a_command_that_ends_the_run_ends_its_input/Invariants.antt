use Rattle.shell_tests.proofs.shell.a_command_that_ends_the_run_ends_its_input.Given as goal

abbrev pub ghosts-played : goal.ghosts-played
ghosts-played g a = record { name = a.blank.name; parts = a.blank.parts }
