use Rattle.std.proofs.Common.{◌≡◌, ◌||◌, List, ℕ, take}
use Rattle.std.specs.List.{list_any}
use Rattle.class_decls.specs.Texts.{has_text, same_text}
use Rattle.class_decls.proofs.name_set.NameSet.add_names.Given as goal

abbrev pub invariant-items : goal.invariant-items
invariant-items g l = (t : List ℕ) → has_text l.self t ≡ (has_text l.fn.self t || list_any (λ x. same_text (g.T.Named.name_of x).text t) (take l.item-index l.items))
