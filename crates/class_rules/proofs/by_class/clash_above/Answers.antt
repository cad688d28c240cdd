use Rattle.std.proofs.Common.{refl}
use Rattle.class_rules.proofs.by_class.clash_above.Goals as goal

pub returns : goal.returns
returns c = rw (c.in_ok-found.ensures, c.as_slice.ensures.value, c.in_ok-above.ensures) refl
