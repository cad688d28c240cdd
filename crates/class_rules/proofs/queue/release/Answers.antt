use Rattle.class_rules.proofs.queue.release.Goals as goal

pub returns : goal.returns
returns c = rw (← c.row_at.ensures) c.add_all.ensures
