use Rattle.std.proofs.Common.{subst}
use Rattle.grammar_core.specs.declared.machine.Task.{Task}
use Rattle.grammar_core.specs.Arena.{read_trees}
use Rattle.grammar_core.specs.Derives.{kinds}
use Rattle.grammar_core.specs.Tasks.{IsTask}
use Rattle.grammar_core.proofs.Same.{unroll}
use Rattle.grammar_core.proofs.machine.step.Goals as goal

pub returns-in-Read : goal.returns-in-Read
returns-in-Read c =
    let inside = subst (λ (t : Task). IsTask c.args.g.now t) c.in-Read.is c.requires.inside in
    rw (
      c.in-Read.is,
      unroll c.args.g.now c.requires.fit (kinds c.args.tokens.now) c.in-Read.prod c.in-Read.level c.args.at
          (read_trees c.args.work.now.built) 0 inside,
      c.prod.ensures,
    ) c.step_production.ensures
