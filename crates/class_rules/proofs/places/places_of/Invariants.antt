use Rattle.std.proofs.Common.{◌≡◌, take}
use Rattle.std.proofs.Common.{List, ℕ}
use Rattle.class_rules.specs.Numbering.{place_in}
use Rattle.std.specs.List.{position_from}
use Rattle.class_decls.specs.Texts.{same_text}
use Rattle.class_rules.proofs.places.places_of.Given as goal

abbrev pub invariant-classes : goal.invariant-classes
invariant-classes l = (t : List ℕ) → place_in l.places t ≡ position_from (λ c. same_text c.name.text t) 0 (take l.i l.classes)
