use Rattle.shell_tests.proofs.shell.refused_words_and_models_are_told_whatever_the_input_does.Given as goal

abbrev pub ghosts-from_faulty : goal.ghosts-from_faulty
ghosts-from_faulty g a = record { name = a.blank.name; parts = a.blank.parts }
