-- Productions that are one part and a repetition.
use Rattle.std.specs.Prelude.{ℕ, Bool, true, false, if◌then◌else◌, List, [], ◌∷◌, map, Option, Some, None, slice_get}
use Rattle.grammar_core.specs.declared.table.Table.{Table}
use Rattle.grammar_core.specs.declared.table.Prod.{Prod}
use Rattle.grammar_core.specs.declared.table.Prod.TheVariants.{Tok, Call, Seq, Case, Star}
use Rattle.grammar_core.specs.declared.repeated.Parts.{Parts}

abbrev pub is_star : Option Prod → Bool
is_star None = false
is_star (Some (Tok k)) = false
is_star (Some (Call r)) = false
is_star (Some (Seq ps)) = false
is_star (Some (Case bs other)) = false
is_star (Some (Star firsts q)) = true

-- one part and a repetition
abbrev pub two_parts : Table → List ℕ → Option Parts
two_parts g [] = None
two_parts g (p ∷ []) = None
two_parts g (p ∷ (q ∷ [])) = if is_star (slice_get g.prods q) then Some (record { first = p; repeated = q }) else None
two_parts g (p ∷ (q ∷ (x ∷ more))) = None

abbrev pub parts_in : Table → Option Prod → Option Parts
parts_in g None = None
parts_in g (Some (Tok k)) = None
parts_in g (Some (Call r)) = None
parts_in g (Some (Seq ps)) = two_parts g ps
parts_in g (Some (Case bs other)) = None
parts_in g (Some (Star firsts q)) = None

-- the parts of a production that is one part and a repetition
abbrev pub repeated_parts : Table → ℕ → Option Parts
repeated_parts g p = parts_in g (slice_get g.prods p)

-- the parts of each production
abbrev pub all_parts : Table → List (Option Parts)
all_parts g = map (λ x. parts_in g (Some x)) g.prods
