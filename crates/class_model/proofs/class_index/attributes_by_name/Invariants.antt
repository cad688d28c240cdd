use Rattle.std.proofs.Common.{◌≡◌, ◌&&◌, ℕ, List, take}
use Rattle.std.specs.HashMap.{get_by_text}
use Rattle.std.specs.List.{position_from}
use Rattle.class_decls.specs.Texts.{same_text}
use Rattle.class_model.specs.Indexes.{above}
use Rattle.class_model.proofs.class_index.attributes_by_name.Given as goal

abbrev pub invariant-attrs : goal.invariant-attrs
invariant-attrs l = (t : List ℕ) → get_by_text l.map t ≡ position_from (λ a. above l.rows l.class a.class && same_text a.name t) 0 (take l.i l.attrs)
