use Rattle.std.proofs.Common.{◌≡◌, List, ℕ, map, take, true}
use Rattle.class_decls.specs.Different.{all_differ}
use Rattle.class_decls.specs.Texts.{has_text}
use Rattle.class_decls.proofs.different.all_differ.Given as goal

abbrev pub invariant-texts : goal.invariant-texts
invariant-texts l = ((t : List ℕ) → has_text l.met t ≡ has_text (map (λ x. x.now) (take l.text-index l.texts)) t)
    × (all_differ (map (λ x. x.now) (take l.text-index l.texts)) ≡ true)
