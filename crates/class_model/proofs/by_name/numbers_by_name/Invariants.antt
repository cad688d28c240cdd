use Rattle.std.proofs.Common.{◌≡◌, ℕ, List, take}
use Rattle.std.specs.HashMap.{get_by_text}
use Rattle.std.specs.List.{position_from}
use Rattle.class_decls.specs.Texts.{same_text}
use Rattle.class_model.proofs.by_name.numbers_by_name.Given as goal

abbrev pub invariant-items : goal.invariant-items
invariant-items g l = (t : List ℕ) → get_by_text l.map t ≡ position_from (λ x. same_text (g.T.Titled.title x) t) 0 (take l.i l.items)
