use Rattle.std.proofs.Common.{◌≡◌, take}
use Rattle.class_model.specs.Features.{numbers_of}
use Rattle.class_model.specs.Indexes.{above}
use Rattle.class_model.proofs.class_index.attributes.Given as goal

abbrev pub invariant-attrs : goal.invariant-attrs
invariant-attrs l = l.numbers.items ≡ numbers_of (λ a. above l.rows l.class a.class) (take l.i l.attrs)
