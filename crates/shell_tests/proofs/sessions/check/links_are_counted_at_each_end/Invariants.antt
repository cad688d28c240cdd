use Rattle.shell_tests.proofs.sessions.check.links_are_counted_at_each_end.Given as goal

abbrev pub ghosts-wrong_line : goal.ghosts-wrong_line
ghosts-wrong_line g a = record { name = a.blank.name; parts = a.blank.parts }
