use Rattle.shell_tests.proofs.sessions.commands_are_taken_back_and_carried_out_again.Given as goal

abbrev pub ghosts-wrong_line : goal.ghosts-wrong_line
ghosts-wrong_line g a = record { name = a.blank.name; parts = a.blank.parts }
