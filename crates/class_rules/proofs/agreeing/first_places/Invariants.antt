use Rattle.std.proofs.Common.{◌≡◌, List, ℕ, map, take}
use Rattle.class_rules.specs.Numbering.{place_in}
use Rattle.std.specs.List.{position_from}
use Rattle.class_decls.specs.Texts.{same_text}
use Rattle.class_rules.proofs.agreeing.first_places.Given as goal

abbrev pub invariant-ops : goal.invariant-ops
invariant-ops l = (t : List ℕ) → place_in l.places t ≡ position_from (λ op. same_text op.name.text t) 0 (map (λ op. op.now) (take l.i l.ops))
