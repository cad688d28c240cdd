use Rattle.std.proofs.Common.{refl}
use Rattle.grammar_core.specs.Arena.{read_trees}
use Rattle.grammar_core.proofs.Reaching.{begun_itself, chain_begun}
use Rattle.grammar_core.proofs.machine.begin_chain.Goals as goal

pub returns-in-None : goal.returns-in-None
returns-in-None c = (λ ks. begun_itself c.args.g.now ks c.args.here c.args.work.now.stack.items (read_trees c.args.work.now.built) c.requires.all, refl)

pub returns-in_ok-put_links-in-Some : goal.returns-in_ok-put_links-in-Some
returns-in_ok-put_links-in-Some c = (
  λ ks. rw (c.in_ok-put_links-in-Some.ensures, c.as_slice.ensures, c.len-start.ensures) (chain_begun c.args.g.now ks c.requires.fit c.in-Some.chain.now.links
      c.args.here.prod c.in-Some.chain.now.end c.args.here.level c.args.here.at c.args.work.now.stack.items (read_trees c.args.work.now.built)
      c.in-Some.ensures c.requires.all),
  refl,
)
