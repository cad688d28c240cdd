use Rattle.shell_tests.proofs.sessions.objects_come_and_keep_what_is_stored_in_them.Given as goal

abbrev pub ghosts-wrong_line : goal.ghosts-wrong_line
ghosts-wrong_line g a = record { name = a.blank.name; parts = a.blank.parts }
