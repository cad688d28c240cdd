use Rattle.std.proofs.Common.{◌≡◌, ◌-◌, ◌^◌, min, take}
use Rattle.use_text.specs.Pieces.{digits_value}
use Rattle.use_text.proofs.piece.digits_value.Given as goal

abbrev pub invariant-digits : goal.invariant-digits
invariant-digits l = l.value ≡ min (digits_value (take l.digit-index l.digits)) (2 ^ 128 - 1)
