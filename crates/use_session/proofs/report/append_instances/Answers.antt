use Rattle.use_info.proofs.Pieces.{grown}
use Rattle.use_session.specs.Reports.{instance_line}
use Rattle.use_session.proofs.report.append_instances.Goals as goal

pub bad-preserved : goal.bad-preserved
bad-preserved c =
    grown (instance_line c.args.store.now.state) c.args.bad.now c.bad.found-index _ _ _ _ c.bad-test.true c.bad.invariant c.in_ok-append_instance.ensures
