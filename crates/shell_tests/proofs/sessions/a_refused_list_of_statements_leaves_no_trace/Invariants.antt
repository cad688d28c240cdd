use Rattle.shell_tests.proofs.sessions.a_refused_list_of_statements_leaves_no_trace.Given as goal

abbrev pub ghosts-wrong_line : goal.ghosts-wrong_line
ghosts-wrong_line g a = record { name = a.blank.name; parts = a.blank.parts }
