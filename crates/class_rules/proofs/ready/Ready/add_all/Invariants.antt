use Rattle.std.proofs.Common.{◌≡◌, ◌||◌, ℕ, take}
use Rattle.class_rules.specs.Numbering.{is_among}
use Rattle.class_rules.specs.Ready.{is_ready}
use Rattle.class_rules.proofs.ready.Ready.add_all.Given as goal

abbrev pub invariant-places : goal.invariant-places
invariant-places l = (i : ℕ) → is_ready l.self i ≡ (is_ready l.fn.self i || is_among (take l.place-index l.places) i)
