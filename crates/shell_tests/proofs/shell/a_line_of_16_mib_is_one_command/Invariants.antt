use Rattle.shell_tests.proofs.shell.a_line_of_16_mib_is_one_command.Given as goal

abbrev pub ghosts-played : goal.ghosts-played
ghosts-played g a = record { name = a.blank.name; parts = a.blank.parts }
