use Rattle.shell_tests.proofs.sessions.check.a_check_judges_the_present_state_and_is_not_kept.Given as goal

abbrev pub ghosts-wrong_line : goal.ghosts-wrong_line
ghosts-wrong_line g a = record { name = a.blank.name; parts = a.blank.parts }
