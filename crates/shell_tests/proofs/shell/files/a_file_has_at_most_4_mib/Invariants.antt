use Rattle.shell_tests.proofs.shell.files.a_file_has_at_most_4_mib.Given as goal

abbrev pub ghosts-played_over : goal.ghosts-played_over
ghosts-played_over g a = record { name = a.blank.name; parts = a.blank.parts }
