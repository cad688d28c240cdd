use Rattle.shell_tests.proofs.sessions.a_call_is_left_though_its_receiver_is_destroyed.Given as goal

abbrev pub ghosts-wrong_line : goal.ghosts-wrong_line
ghosts-wrong_line g a = record { name = a.blank.name; parts = a.blank.parts }
