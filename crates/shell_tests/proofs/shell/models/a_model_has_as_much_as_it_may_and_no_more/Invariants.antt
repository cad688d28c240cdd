use Rattle.shell_tests.proofs.shell.models.a_model_has_as_much_as_it_may_and_no_more.Given as goal

abbrev pub ghosts-answer : goal.ghosts-answer
ghosts-answer g a = record { name = a.blank.name; parts = a.blank.parts }
