use Rattle.ocl_values.proofs.Exact.{value_exact}
use Rattle.ocl_collections.proofs.making.canonical.Goals as goal

pub set-requires : goal.set-requires
set-requires c = record { exact = value_exact }
