-- The tests of a production, as they compute.
use Rattle.std.specs.Prelude.{ℕ, Bool, true, false, List, [], ◌∷◌, length, nat_le, if◌then◌else◌}
use Rattle.grammar_core.specs.declared.table.Table.{Table}
use Rattle.grammar_core.specs.declared.table.Prod.{Prod}
use Rattle.grammar_core.specs.declared.table.Prod.TheVariants.{Tok, Call, Seq, Case, Star}
use Rattle.grammar_core.specs.Paths.{is_marked}
use Rattle.grammar_core.specs.Tables.{choices}

-- some number is not below n
abbrev pub any_past : ℕ → List ℕ → Bool
any_past n [] = false
any_past n (q ∷ qs) = if nat_le n q then true else any_past n qs

-- some number of the production is outside its table
abbrev pub outside_by : Table → Prod → Bool
outside_by g (Tok k) = false
outside_by g (Call r) = nat_le (length g.rules) r
outside_by g (Seq ps) = any_past (length g.prods) ps
outside_by g (Case bs other) = any_past (length g.prods) (choices bs other)
outside_by g (Star firsts q) = any_past (length g.prods) (q ∷ [])

-- it is a Star whose body is marked
abbrev pub empty_body_by : List Bool → Prod → Bool
empty_body_by seen (Tok k) = false
empty_body_by seen (Call r) = false
empty_body_by seen (Seq ps) = false
empty_body_by seen (Case bs other) = false
empty_body_by seen (Star firsts q) = is_marked seen q
