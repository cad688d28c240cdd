-- The rules of a table, and what a production is made of.
use Rattle.std.specs.Prelude.{ℕ, Bool, List, [], ◌∷◌, Option, Some, None, slice_get, map, if◌then◌else◌}
use Rattle.grammar_core.specs.declared.table.Table.{Table}
use Rattle.grammar_core.specs.declared.table.Branch.{Branch}
use Rattle.grammar_core.specs.declared.table.Rule.{Rule}
use Rattle.grammar_core.specs.declared.table.Prod.{Prod}
use Rattle.grammar_core.specs.declared.table.Prod.TheVariants.{Tok, Call, Seq, Case, Star}

abbrev pub table_of : List Prod → List ℕ → List Bool → Table
table_of prods rules nests = record { prods = prods; rules = rules; nests = nests }

abbrev pub rule_from : Option ℕ → Option Bool → Option Rule
rule_from None nests = None
rule_from (Some to) None = None
rule_from (Some to) (Some nests) = Some (record { to = to; nests = nests })

-- a rule, by its number
abbrev pub rule_at : Table → ℕ → Option Rule
rule_at g r = rule_from (slice_get g.rules r) (slice_get g.nests r)

-- the productions of the branches, and the other one
abbrev pub choices : List Branch → Option ℕ → List ℕ
choices [] None = []
choices [] (Some q) = q ∷ []
choices (b ∷ bs) other = b.to ∷ choices bs other

-- the production of a rule that does not nest
abbrev pub unnested : Option Rule → List ℕ
unnested None = []
unnested (Some rule) = if rule.nests then [] else rule.to ∷ []

-- the productions that a production names, and with `calls` also the one that it calls without nesting
abbrev pub next_prods : Bool → Table → Prod → List ℕ
next_prods calls g (Tok k) = []
next_prods calls g (Call r) = if calls then unnested (rule_at g r) else []
next_prods calls g (Seq ps) = ps
next_prods calls g (Case bs other) = choices bs other
next_prods calls g (Star firsts q) = q ∷ []

-- these, for each production
abbrev pub graph_of : Bool → Table → List (List ℕ)
graph_of calls g = map (λ x. next_prods calls g x) g.prods
