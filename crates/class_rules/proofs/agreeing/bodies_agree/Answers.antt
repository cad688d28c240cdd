use Rattle.std.proofs.Common.{refl}
use Rattle.class_rules.proofs.agreeing.bodies_agree.Goals as goal

pub returns : goal.returns
returns c =
    rw (
      c.in_ok-agree.ensures,
      c.as_slice-3.ensures.value,
      c.as_slice-4.ensures.value,
      c.in_ok-queries.ensures,
      c.in_ok-soils.ensures,
      c.as_slice.ensures.value,
      c.as_slice-2.ensures.value,
      c.in_ok-ops.ensures,
    ) refl
