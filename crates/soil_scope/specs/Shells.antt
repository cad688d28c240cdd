-- The names that a command takes from the shell.
use Rattle.std.specs.Prelude.{ℕ, if◌then◌else◌, List, [], ◌∷◌, ◌++◌, Option, is_some}
use Rattle.std.specs.List.{position_from}
use Rattle.class_decls.specs.Texts.{same_text}

-- the number of the value that stands for a name: its place among the names
abbrev pub slot_of : List (List ℕ) → List ℕ → Option ℕ
slot_of names name = position_from (λ n. same_text n name) 0 names

-- a name more, unless it is there
abbrev pub with_name : List (List ℕ) → List ℕ → List (List ℕ)
with_name names name = if is_some (slot_of names name) then names else names ++ name ∷ []
