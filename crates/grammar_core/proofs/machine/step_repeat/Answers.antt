use Rattle.std.proofs.Common.{◌≡◌, ◌++◌, [], ◌∷◌, List, Some, slice_get, ap, append-nil, true, false}
use Rattle.grammar_core.specs.declared.table.Prod.TheVariants.{Star}
use Rattle.grammar_core.specs.declared.machine.Task.{Task}
use Rattle.grammar_core.specs.declared.machine.Task.TheVariants.{Read}
use Rattle.grammar_core.specs.Arena.{read_trees}
use Rattle.grammar_core.specs.Derives.{begins, kinds}
use Rattle.grammar_core.proofs.Stack.{repeat_goes_on, repeat_ends}
use Rattle.grammar_core.proofs.machine.step_repeat.Goals as goal

pub returns-in_ok-put-in-Star : goal.returns-in_ok-put-in-Star
returns-in_ok-put-in-Star c =
    let is : slice_get c.args.g.now.prods c.args.here.prod ≡ Some (Star c.in-Star.firsts c.in-Star.q) = cc in
    let b : begins (kinds c.args.tokens.now) c.args.here.at c.in-Star.firsts ≡ true = cc in
    repeat_goes_on c.args.g.now c.requires.fit (kinds c.args.tokens.now) c.args.work.now.stack.items (c.put.new.stack.items ++ (Read c.in-Star.q
    c.args.here.level ∷ [])) c.args.here.prod c.args.here.level c.args.rule c.args.start c.args.here.at (read_trees c.args.work.now.built) c.in-Star.firsts
    c.in-Star.q is c.requires.all b (ap (λ (l : List Task). l ++ (Read c.in-Star.q c.args.here.level ∷ [])) c.in_ok-put-in-Star.ensures)

pub returns-in_ok-close-in-Star : goal.returns-in_ok-close-in-Star
returns-in_ok-close-in-Star c =
    let is : slice_get c.args.g.now.prods c.args.here.prod ≡ Some (Star c.in-Star.firsts c.in-Star.q) = cc in
    let b : begins (kinds c.args.tokens.now) c.args.here.at c.in-Star.firsts ≡ false = cc in
    repeat_ends c.args.g.now c.requires.fit (kinds c.args.tokens.now) c.args.work.now.stack.items (c.args.work.now.stack.items ++ [])
    c.args.here.prod c.args.here.level c.args.rule c.args.start c.args.here.at (read_trees c.args.work.now.built) (read_trees c.close.new.self) c.in-Star.firsts
    c.in-Star.q is c.requires.all b (append-nil c.args.work.now.stack.items) c.in_ok-close-in-Star.ensures
