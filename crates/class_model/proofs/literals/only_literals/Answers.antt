use Rattle.std.proofs.Common.{◌∙◌, sym, ap, Some, take}
use Rattle.std.specs.Option.{option_and_then}
use Rattle.class_model.specs.Features.{literal_in, literals_in}
use Rattle.class_model.specs.Indexes.{one_or_several}
use Rattle.class_model.proofs.OnlyLiterals.{several_next}
use Rattle.class_model.proofs.literals.only_literals.Goals as goal

pub enums-preserved : goal.enums-preserved
enums-preserved c = λ t.
    c.in_ok-add_literals.ensures t
    ∙ rw (c.enums.invariant t, c.as_slice-literals.ensures) (several_next c.args.enums.now c.enums.i _ t c.enums-test.true c.index-enums-i.is)
