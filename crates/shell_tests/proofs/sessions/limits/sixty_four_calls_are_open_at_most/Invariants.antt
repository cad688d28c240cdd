use Rattle.shell_tests.proofs.sessions.limits.sixty_four_calls_are_open_at_most.Given as goal

abbrev pub ghosts-last_answer : goal.ghosts-last_answer
ghosts-last_answer g a = record { name = a.blank.name; parts = a.blank.parts }
