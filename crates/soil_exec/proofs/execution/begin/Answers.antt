use Rattle.std.proofs.Common.{◌≡◌, refl, ap, subst, ◌∙◌}
use Rattle.class_model.specs.InRange.{IsInRange}
use Rattle.object_state.specs.State.{Diagram}
use Rattle.soil_changes.specs.Progress.{Progress, begun}
use Rattle.soil_exec.specs.declared.machine.Machine.{Machine as Kept}
use Rattle.soil_exec.specs.Machine.{max_statements}
use Rattle.soil_exec.proofs.Begun.{few_assocs, first_current, first_stand}
use Rattle.soil_exec.proofs.execution.begin.Goals as goal

pub begin-requires : goal.begin-requires
begin-requires c =
    few_assocs c.args.program.now.model c.replace-taken.result.layout (ap (λ (d : Diagram). d.layout) c.replace-taken.ensures.value ∙ c.requires.of_model)
    (subst IsInRange c.model.ensures c.has_numbers_in_range.ensures)

pub returns-clause-started : goal.returns-clause-started
returns-clause-started c = λ bound env.
    let k : Kept = record { alloc = c.args.alloc; transaction = c.begin.result; shell = c.args.shell; env = c.args.env; left = max_statements } in
    let progress : k.transaction ≡ begun c.args.store.now c.args.frames.now = c.begin.ensures ∙ (λ i. begun (c.replace-taken.ensures.value i) (c.replace-open.ensures.value i)) in (
      (λ steps. first_stand c.args.store.now c.args.shell bound c.args.frames.now k progress refl env steps refl),
      first_current c.args.store.now c.args.shell bound c.args.frames.now k progress refl env,
    )

pub returns-clause-of_model : goal.returns-clause-of_model
returns-clause-of_model c =
    ap (λ (p : Progress). p.layout) c.begin.ensures ∙ ap (λ (d : Diagram). d.layout) c.replace-taken.ensures.value ∙ c.requires.of_model
