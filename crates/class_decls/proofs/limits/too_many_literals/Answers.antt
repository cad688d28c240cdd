use Rattle.std.proofs.Common.{refl}
use Rattle.std.proofs.lemmas.List.{take_min}
use Rattle.class_decls.proofs.limits.too_many_literals.Goals as goal

pub returns : goal.returns
returns c =
    rw (c.or.ensures, c.first_excess_literal.ensures, c.place_past.ensures, c.min-most.ensures, c.as_slice-enums.ensures, take_min) refl
