use Rattle.std.proofs.Common.{ℕ, ap, subst, sym}
use Rattle.object_state.specs.Faults.{UnlinkingAgrees}
use Rattle.soil_changes.proofs.Agreeing.{unlinking_agrees}
use Rattle.soil_changes.proofs.proposals.unlinking.Goals as goal

pub returns-clause-agrees : goal.returns-clause-agrees
returns-clause-agrees c =
    subst (λ (n : ℕ). UnlinkingAgrees c.args.store.now.layout c.args.store.now.state (record {
      assoc = c.args.assoc;
      first = c.args.first;
      second = c.args.second;
      stamp = c.args.stamp;
      before = n;
      after = n;
    })) (sym (ap (λ p. p.1) c.counters-counter.ensures))
    (unlinking_agrees c.args.store.now.layout c.args.store.now.state c.state_is_valid.ensures c.args.assoc c.args.first c.args.second c.args.stamp c.requires)
