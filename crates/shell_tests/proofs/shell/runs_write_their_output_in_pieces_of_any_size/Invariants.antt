use Rattle.shell_tests.proofs.shell.runs_write_their_output_in_pieces_of_any_size.Given as goal

abbrev pub ghosts-played : goal.ghosts-played
ghosts-played g a = record { name = a.blank.name; parts = a.blank.parts }
