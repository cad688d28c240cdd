use Rattle.shell_tests.proofs.shell.files.files_are_played_in_place.Given as goal

abbrev pub ghosts-played_over : goal.ghosts-played_over
ghosts-played_over g a = record { name = a.blank.name; parts = a.blank.parts }
