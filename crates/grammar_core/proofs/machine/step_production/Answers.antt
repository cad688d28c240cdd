use Rattle.std.proofs.Common.{ℕ, ◌≡◌, ◌++◌, [], ◌∷◌, reverse, List, Some, subst, refl, ap, true}
use Rattle.grammar_core.specs.declared.machine.Task.{Task}
use Rattle.grammar_core.specs.declared.machine.Task.TheVariants.{Read}
use Rattle.grammar_core.specs.Arena.{read_trees}
use Rattle.grammar_core.specs.Derives.{begins, branch_of, kinds}
use Rattle.grammar_core.specs.Tasks.{left, reads}
use Rattle.grammar_core.proofs.Stack.{did_seq, did_case, did_star}
use Rattle.grammar_core.proofs.machine.step_production.Goals as goal

pub returns-in_ok-next-in-Seq : goal.returns-in_ok-next-in-Seq
returns-in_ok-next-in-Seq c =
    let n : left c.put_seq.new.stack.items c.in_ok-next-in-Seq.next ≡ c.args.work.now.stack.items
    ++ reverse (reads c.args.here.level c.in-Seq.ps) = subst (λ (x : List ℕ). left c.put_seq.new.stack.items c.in_ok-next-in-Seq.next ≡
    c.args.work.now.stack.items ++ reverse (reads c.args.here.level x)) c.as_slice.ensures c.in_ok-next-in-Seq.ensures in
    did_seq c.args.g.now c.requires.fit (kinds c.args.tokens.now) c.args.x.now c.args.here.prod c.args.here.level c.args.here.at
    (read_trees c.args.work.now.built) c.args.work.now.stack.items (left c.put_seq.new.stack.items c.in_ok-next-in-Seq.next) c.requires.is c.requires.all
    c.in-Seq.ps c.in-Seq.is n

pub returns-in-Some : goal.returns-in-Some
returns-in-Some c =
    let b : branch_of (kinds c.args.tokens.now) c.args.here.at c.in-Case.branches c.in-Case.other ≡ Some c.in-Some.q = cc in
    did_case c.args.g.now c.requires.fit (kinds c.args.tokens.now) c.args.x.now c.args.here.prod c.args.here.level c.args.here.at
    (read_trees c.args.work.now.built) c.args.work.now.stack.items (c.args.work.now.stack.items ++ (Read c.in-Some.q c.args.here.level
    ∷ [])) c.requires.is c.requires.all c.in-Case.branches c.in-Case.other c.in-Some.q c.in-Case.is b refl

pub returns-in_ok-put-in-Star : goal.returns-in_ok-put-in-Star
returns-in_ok-put-in-Star c =
    let b : begins (kinds c.args.tokens.now) c.args.here.at c.in-Star.firsts ≡ true = cc in
    let n = ap (λ (l : List Task). l ++ (Read c.in-Star.q c.args.here.level ∷ [])) c.in_ok-put-in-Star.ensures in
    did_star c.args.g.now c.requires.fit (kinds c.args.tokens.now) c.args.x.now c.args.here.prod c.args.here.level c.args.here.at
    (read_trees c.args.work.now.built) c.args.work.now.stack.items (c.put.new.stack.items ++ (Read c.in-Star.q c.args.here.level
    ∷ [])) c.requires.is c.requires.all c.in-Star.firsts c.in-Star.q c.in-Star.is b n
