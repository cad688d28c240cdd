use Rattle.std.proofs.Common.{◌+◌, ap, cond, ◌∙◌}
use Rattle.use_decls.specs.Conds.{is_group}
use Rattle.use_decls.specs.Counts.{count_in}
use Rattle.use_decls.proofs.Counted.{raised}
use Rattle.use_decls.proofs.positions.count_one.Goals as goal

pub returns-clause-counts : goal.returns-clause-counts
returns-clause-counts c = λ g.
    raised c.args.counts.now c.insert.new.self c.args.group (c.count_in-number.result + 1) c.in_ok-insert.ensures.updates g
    ∙ ap (λ n. cond (is_group c.args.group g) (n + 1) (count_in c.args.counts.now g)) c.count_in-number.ensures
