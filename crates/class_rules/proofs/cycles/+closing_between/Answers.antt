use Rattle.std.proofs.Common.{◌≡◌, suc, ap, ◌∙◌, arith}
use Rattle.class_rules.specs.Numbering.{has_cycle}
use Rattle.class_rules.proofs.Unnumbered.{closing}
use Rattle.class_rules.proofs.cycles.+closing_between.Goals as goal

pub returns-then-high-low-eq1 : goal.returns-then-high-low-eq1
returns-then-high-low-eq1 t c =
    let next : suc c.args.low ≡ c.args.high = (let e = c.if-high-low-eq1.true in let b = c.requires.between in omega arith) in
    closing c.args.parents.now c.args.low (let b = c.requires.between in let w = c.requires.within in omega arith) c.requires.without
    (ap (has_cycle c.args.parents.now) next ∙ c.requires.with)
