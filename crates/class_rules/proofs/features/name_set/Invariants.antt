use Rattle.std.proofs.Common.{◌≡◌, List, ℕ, take}
use Rattle.class_decls.specs.Texts.{has_text}
use Rattle.class_rules.proofs.features.name_set.Given as goal

abbrev pub invariant-names : goal.invariant-names
invariant-names l = (t : List ℕ) → has_text l.found t ≡ has_text (take l.name-index l.names) t
