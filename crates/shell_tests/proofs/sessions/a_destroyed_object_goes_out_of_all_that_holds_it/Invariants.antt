use Rattle.shell_tests.proofs.sessions.a_destroyed_object_goes_out_of_all_that_holds_it.Given as goal

abbrev pub ghosts-wrong_line : goal.ghosts-wrong_line
ghosts-wrong_line g a = record { name = a.blank.name; parts = a.blank.parts }
