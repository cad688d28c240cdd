use Rattle.shell_tests.proofs.session.the_name_of_a_file_is_a_text_of_at_most_255_bytes.Given as goal

abbrev pub ghosts-opened_name : goal.ghosts-opened_name
ghosts-opened_name g a = record { name = a.blank.name; parts = a.blank.parts }

abbrev pub ghosts-answered : goal.ghosts-answered
ghosts-answered g a = record { name = a.blank.name; parts = a.blank.parts }
