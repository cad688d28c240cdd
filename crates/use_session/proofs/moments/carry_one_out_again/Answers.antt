use Rattle.use_session.proofs.moments.carry_one_out_again.Goals as goal

pub returns-clause-noted : goal.returns-clause-noted
returns-clause-noted c = record { same = c.in_ok-note.ensures.keeps; grown = c.in_ok-note.ensures.grown }
