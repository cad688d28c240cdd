use Rattle.soil_changes.proofs.Agreeing.{setting_agrees}
use Rattle.soil_changes.proofs.proposals.setting.Goals as goal

pub returns-clause-agrees : goal.returns-clause-agrees
returns-clause-agrees c =
    setting_agrees c.args.store.now.layout c.args.store.now.state c.state_is_valid.ensures c.args.number c.args.attr c.args.old c.args.new c.requires.there
    c.requires.well_made
