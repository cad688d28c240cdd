-- Rules that begin one as the first part of another.
use Rattle.std.specs.Prelude.{◌≡◌, ℕ, false, List, [], ◌∷◌, Some, slice_get}
use Rattle.grammar_core.specs.declared.table.Table.{Table}
use Rattle.grammar_core.specs.declared.table.Prod.TheVariants.{Call}
use Rattle.grammar_core.specs.declared.chains.Chain.{Chain}
use Rattle.grammar_core.specs.declared.chains.Link.{Link}
use Rattle.grammar_core.specs.Repetitions.{repeated_parts}
use Rattle.grammar_core.specs.Tables.{rule_at}

-- a rule that does not nest and is one part and a repetition, and what it reads first
pub record IsLink (g : Table) (l : Link) (first : ℕ) : Type 0 where
  pub to : ℕ
  pub rule : rule_at g l.rule ≡ Some (record { to = to; nests = false })
  pub parts : repeated_parts g to ≡ Some (record { first = first; repeated = l.repeated })

-- such a rule that a production calls
pub record IsLinkAt (g : Table) (p : ℕ) (l : Link) (first : ℕ) : Type 0 where
  pub calls : slice_get g.prods p ≡ Some (Call l.rule)
  pub link : IsLink g l first

-- from a production such rules lead to another
abbrev pub Leads : Table → ℕ → List Link → ℕ → Type 0
Leads g p [] end = p ≡ end
Leads g p (l ∷ ls) end = (first : ℕ) × IsLinkAt g p l first × Leads g first ls end

-- the rules that each production begins
abbrev pub AreChains : Table → List Chain → Type 0
AreChains g chains = (p : ℕ) (c : Chain) → slice_get chains p ≡ Some c → Leads g p c.links c.end
