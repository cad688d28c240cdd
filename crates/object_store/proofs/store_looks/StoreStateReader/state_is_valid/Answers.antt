use Rattle.std.proofs.Common.{subst}
use Rattle.object_state.specs.State.{Diagram}
use Rattle.object_state.specs.Valid.{IsValid}
use Rattle.object_store.proofs.store_looks.StoreStateReader.state_is_valid.Goals as goal

pub returns : goal.returns
returns c = subst (λ (d : Diagram). IsValid d.layout d.state) c.self.view_is c.self.invariant.valid
