use Rattle.std.proofs.Common.{◌≡◌, ℕ, List, Some, take}
use Rattle.std.specs.HashMap.{get_by_text}
use Rattle.std.specs.Option.{option_and_then}
use Rattle.class_decls.specs.Texts.{first_numbered}
use Rattle.class_model.specs.Features.{end_seen}
use Rattle.class_model.specs.Indexes.{above}
use Rattle.class_model.proofs.class_index.roles_by_name.Given as goal

abbrev pub invariant-assocs : goal.invariant-assocs
invariant-assocs l = (t : List ℕ) → get_by_text l.map t ≡ first_numbered
    (λ number a. option_and_then (λ e. Some (number, e)) (end_seen (above l.rows l.class) t a)) 0 (take l.i l.assocs)
