-- How the contracts of operations are found: by declaration, and declarations by name.
use Rattle.std.specs.Prelude.{ℕ, if◌then◌else◌, List, [], ◌∷◌, Option, Some, None, slice_get, unwrap_or}
use Rattle.std.specs.List.{enumerate_from, filter_map}
use Rattle.class_decls.specs.Texts.{same_text}
use Rattle.class_model.specs.declared.object_model.Operation.{Operation}

abbrev pub row_at : {A : Type 0} → List (List A) → ℕ → List A
row_at rows i = unwrap_or (slice_get rows i) []

-- the declarations of a name, each with its class
abbrev pub declared : List ℕ → List Operation → List (ℕ × ℕ)
declared name ops = filter_map (λ p. if same_text p.1.name name then Some (p.1.class, p.0) else None) (enumerate_from 0 ops)
