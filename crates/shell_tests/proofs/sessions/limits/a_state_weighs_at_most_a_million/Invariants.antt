use Rattle.shell_tests.proofs.sessions.limits.a_state_weighs_at_most_a_million.Given as goal

abbrev pub ghosts-last_answer : goal.ghosts-last_answer
ghosts-last_answer g a = record { name = a.blank.name; parts = a.blank.parts }
