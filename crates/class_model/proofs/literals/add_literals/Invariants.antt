use Rattle.std.proofs.Common.{◌≡◌, ℕ, List, Some, take}
use Rattle.std.specs.HashMap.{get_by_text}
use Rattle.std.specs.List.{position_from}
use Rattle.std.specs.Option.{option_and_then}
use Rattle.class_decls.specs.Texts.{same_text}
use Rattle.class_model.specs.Indexes.{one_more}
use Rattle.class_model.proofs.literals.add_literals.Given as goal

abbrev pub invariant-literals : goal.invariant-literals
invariant-literals l =
    (t : List ℕ) → get_by_text l.map t ≡ one_more (get_by_text l.fn.map t)
    (option_and_then (λ x. Some (l.number, x)) (position_from (λ x. same_text x t) 0 (take l.i l.literals)))
