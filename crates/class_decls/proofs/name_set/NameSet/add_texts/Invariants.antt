use Rattle.std.proofs.Common.{◌≡◌, ◌||◌, List, ℕ, map, take}
use Rattle.class_decls.specs.Texts.{has_text}
use Rattle.class_decls.proofs.name_set.NameSet.add_texts.Given as goal

abbrev pub invariant-texts : goal.invariant-texts
invariant-texts l = (t : List ℕ) → has_text l.self t ≡ (has_text l.fn.self t || has_text (map (λ x. x.now) (take l.text-index l.texts)) t)
