use Rattle.std.proofs.Common.{◌≡◌, subst}
use Rattle.ocl_values.specs.Shape.{canonical}
use Rattle.ocl_collections.proofs.Stays.{from_set}
use Rattle.ocl_collections.proofs.conversion.stay.Goals as goal

pub returns-in-Set-default : goal.returns-in-Set-default
returns-in-Set-default c = λ xs _ is. from_set c.args.to xs (subst (λ k. canonical k xs ≡ xs) c.in-Set-default.is-0 is)
