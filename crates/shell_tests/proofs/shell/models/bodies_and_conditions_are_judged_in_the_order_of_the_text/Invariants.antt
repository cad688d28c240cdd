use Rattle.shell_tests.proofs.shell.models.bodies_and_conditions_are_judged_in_the_order_of_the_text.Given as goal

abbrev pub ghosts-answer : goal.ghosts-answer
ghosts-answer g a = record { name = a.blank.name; parts = a.blank.parts }
