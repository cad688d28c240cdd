use Rattle.shell_tests.proofs.shell.an_input_past_the_limit_answers_what_ended_within_it.Given as goal

abbrev pub ghosts-played : goal.ghosts-played
ghosts-played g a = record { name = a.blank.name; parts = a.blank.parts }
