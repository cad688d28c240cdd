use Rattle.std.proofs.Common.{sym, ap, ◌∙◌}
use Rattle.object_state.specs.declared.change.Change.{Change}
use Rattle.object_state.specs.Changes.{apply}
use Rattle.object_state.specs.Looks.{look}
use Rattle.entry_states.specs.Frames.{entered}
use Rattle.soil_changes.proofs.transaction.take_one_back.Goals as goal

pub returns-clause-noted : goal.returns-clause-noted
returns-clause-noted c =
    let d = c.args.store.now in
    record {
      same = ap (λ (x : Change). entered c.note.new.self (look d.layout (apply d.layout d.state x))) (sym c.inverse-back.ensures) ∙ c.in_ok-note.ensures.keeps;
      grown = c.in_ok-note.ensures.grown;
    }
