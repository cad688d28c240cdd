use Rattle.shell_tests.proofs.sessions.what_is_not_built_is_told_behind_names_and_types.Given as goal

abbrev pub ghosts-wrong_line : goal.ghosts-wrong_line
ghosts-wrong_line g a = record { name = a.blank.name; parts = a.blank.parts }
