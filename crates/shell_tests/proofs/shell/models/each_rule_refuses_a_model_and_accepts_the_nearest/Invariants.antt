use Rattle.shell_tests.proofs.shell.models.each_rule_refuses_a_model_and_accepts_the_nearest.Given as goal

abbrev pub ghosts-answer : goal.ghosts-answer
ghosts-answer g a = record { name = a.blank.name; parts = a.blank.parts }
