use Rattle.std.proofs.Common.{sym, ap, ◌∙◌}
use Rattle.std.specs.Option.{option_copied}
use Rattle.soil_exec.proofs.Dispatched.{live_class}
use Rattle.soil_exec.proofs.calls.chosen.Goals as goal

pub chosen_for-requires-clause-class : goal.chosen_for-requires-clause-class
chosen_for-requires-clause-class c =
    let d = c.args.store.now in
    live_class c.args.model.now d.layout d.state c.in-Obj.number c.in-Some.live.now c.requires.of_model c.state_is_valid.ensures
    (sym c.object.ensures ∙ ap option_copied c.in-Some.is)
