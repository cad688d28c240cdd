use Rattle.std.proofs.Common.{◌≡◌, ◌++◌, take}
use Rattle.class_rules.proofs.features.add_copies.Given as goal

abbrev pub invariant-copied : goal.invariant-copied
invariant-copied l = l.texts.items ≡ l.fn.texts.items ++ take l.text-index l.copied
