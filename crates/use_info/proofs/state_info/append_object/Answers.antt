use Rattle.std.proofs.Common.{◌<◌, length, subst, sym}
use Rattle.std.specs.List.{All}
use Rattle.use_info.proofs.Numbers.{attrs-among}
use Rattle.use_info.proofs.state_info.append_object.Goals as goal

pub append_slots-requires : goal.append_slots-requires
append_slots-requires g c =
    subst (All (λ a. a < length c.args.model.now.attrs)) (sym c.attrs.ensures) (attrs-among c.args.model.now c.args.object.now.class)
