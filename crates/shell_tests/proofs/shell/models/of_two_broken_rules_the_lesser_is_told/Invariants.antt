use Rattle.shell_tests.proofs.shell.models.of_two_broken_rules_the_lesser_is_told.Given as goal

abbrev pub ghosts-answer : goal.ghosts-answer
ghosts-answer g a = record { name = a.blank.name; parts = a.blank.parts }
