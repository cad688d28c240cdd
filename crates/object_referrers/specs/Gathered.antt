-- The links of an object, association by association; no definition of a result rests on it.
use Rattle.std.specs.Prelude.{ℕ, zero, suc, List, [], ◌++◌, filter}
use Rattle.class_model.specs.declared.numbers.End.TheVariants.{First, Second}
use Rattle.object_state.specs.Looks.{has_at}

-- those that have it at the first end and then those that have it at the second, of so many associations
abbrev pub links_among : List ((ℕ × ℕ) × (ℕ × ℕ)) → ℕ → ℕ → List ((ℕ × ℕ) × (ℕ × ℕ))
links_among links o zero = []
links_among links o (suc n) = (links_among links o n ++ filter (has_at n First o) links) ++ filter (has_at n Second o) links
