use Rattle.shell_tests.proofs.shell.a_command_that_is_too_long_is_not_shown.Given as goal

abbrev pub ghosts-played : goal.ghosts-played
ghosts-played g a = record { name = a.blank.name; parts = a.blank.parts }
