use Rattle.std.specs.List.{list_all}
use Rattle.class_model.specs.Features.{declarations, overrides}
use Rattle.class_model.proofs.Overriding.{found_passes, found_some, found_there}
use Rattle.class_model.proofs.class_model.ClassModel.operations_override_all_others.Goals as goal

pub returns-clause-met : goal.returns-clause-met
returns-clause-met c =
    let m = c.args.self.now in
    let ds = declarations m c.args.class c.args.name.now in
    found_there (λ o. list_all (overrides m o) ds) ds

pub returns-clause-overriding : goal.returns-clause-overriding
returns-clause-overriding c =
    let m = c.args.self.now in
    let ds = declarations m c.args.class c.args.name.now in
    found_passes (λ o. list_all (overrides m o) ds) ds

pub returns-clause-there : goal.returns-clause-there
returns-clause-there c =
    let m = c.args.self.now in
    let ds = declarations m c.args.class c.args.name.now in
    found_some (λ o. list_all (overrides m o) ds) ds
