use Rattle.std.proofs.Common.{refl}
use Rattle.ocl_scope.proofs.Told.{AtName, property_gives}
use Rattle.ocl_scope.proofs.laws.properties_are_in_range.Goals as goal

pub returns : goal.returns
returns c =
    property_gives c.args.model.now c.args.size c.has_numbers_in_range.ensures (AtName c.args.name.now) c.args.name.now.place (λ d. refl) c.args.is_post
    c.args.is_before c.args.name.now.text c.args.source.now c.requires
