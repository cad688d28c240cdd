use Rattle.std.proofs.Common.{◌≡◌, length}
use Rattle.class_rules.specs.Shared.{AreJoined}
use Rattle.class_rules.proofs.sharing.joined_all.Given as goal

abbrev pub invariant-numbers : goal.invariant-numbers
invariant-numbers l = (length l.all.items ≡ l.number) × AreJoined l.rule l.index l.groups l.all.items
