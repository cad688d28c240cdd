use Rattle.use_info.specs.States.{link_line}
use Rattle.use_info.proofs.Pieces.{grown}
use Rattle.use_info.proofs.state_info.append_links.Goals as goal

pub pairs-preserved : goal.pairs-preserved
pairs-preserved g c =
    grown (link_line c.args.model.now (g.S.StateReader.held c.args.state.now).state c.args.assoc) c.as_slice-pair-items.result.now c.pairs.pair-index _ _ _ _
    c.pairs-test.true c.pairs.invariant c.in_ok-append_link.ensures
