use Rattle.std.proofs.Common.{◌≡◌, List, ℕ, map, take}
use Rattle.class_decls.specs.Texts.{has_text}
use Rattle.class_rules.proofs.contracts.class_names.Given as goal

abbrev pub invariant-classes : goal.invariant-classes
invariant-classes l = (t : List ℕ) → has_text l.names t ≡ has_text (map (λ c. c.now.name.text) (take l.class-index l.classes)) t
