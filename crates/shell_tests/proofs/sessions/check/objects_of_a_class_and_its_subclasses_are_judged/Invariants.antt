use Rattle.shell_tests.proofs.sessions.check.objects_of_a_class_and_its_subclasses_are_judged.Given as goal

abbrev pub ghosts-wrong_line : goal.ghosts-wrong_line
ghosts-wrong_line g a = record { name = a.blank.name; parts = a.blank.parts }
