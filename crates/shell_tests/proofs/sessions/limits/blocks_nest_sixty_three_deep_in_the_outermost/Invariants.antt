use Rattle.shell_tests.proofs.sessions.limits.blocks_nest_sixty_three_deep_in_the_outermost.Given as goal

abbrev pub ghosts-last_answer : goal.ghosts-last_answer
ghosts-last_answer g a = record { name = a.blank.name; parts = a.blank.parts }
