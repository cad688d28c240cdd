use Rattle.std.proofs.Common.{take}
use Rattle.class_rules.proofs.Unnumbered.{cycle_found, cycle_shown}
use Rattle.class_rules.proofs.laws.cycles_go_round.Goals as goal

pub returns-clause-found : goal.returns-clause-found
returns-clause-found c = λ parents n cs r. cycle_found (take n parents) cs r

pub returns-clause-shown : goal.returns-clause-shown
returns-clause-shown c = λ parents n h. cycle_shown (take n parents) h
