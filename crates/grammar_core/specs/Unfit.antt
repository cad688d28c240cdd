-- Which productions are unfit: those with which a parse need not end with exactly one answer.
use Rattle.std.specs.Prelude.{◌≡◌, ℕ, ◌<◌, ◌≤◌, Bool, true, false, List, [], ◌∷◌, length, Some, slice_get, nat_lt, if◌then◌else◌, IsTrue}
use Rattle.grammar_core.specs.declared.table.Table.{Table}
use Rattle.grammar_core.specs.declared.table.Prod.{Prod}
use Rattle.grammar_core.specs.declared.table.Prod.TheVariants.{Call, Star}
use Rattle.grammar_core.specs.declared.fault.GrammarFault.{GrammarFault}
use Rattle.grammar_core.specs.declared.fault.GrammarFault.TheVariants.{Memory}
use Rattle.grammar_core.specs.declared.fault.GrammarFault.TheVariants as fault
use Rattle.grammar_core.specs.Paths.{IsIn, Path}
use Rattle.grammar_core.specs.Empty.{MayBeEmpty}
use Rattle.grammar_core.specs.Tables.{next_prods, graph_of}

-- some number of the production is outside its table
pub data IsOutside (g : Table) : Prod → Type 0 where
  rule : (r : ℕ) → length g.rules ≤ r → IsOutside g (Call r)
  part : (x : Prod) (q : ℕ) → IsIn q (next_prods false g x) → length g.prods ≤ q → IsOutside g x

-- the production at p is unfit
pub data Unfit (g : Table) (p : ℕ) : Type 0 where
  -- a number of it is outside its table
  outside : (x : Prod) → slice_get g.prods p ≡ Some x → IsOutside g x → Unfit g p
  -- it is a Star whose body may derive no token
  empty_body : (firsts : List ℕ) (q : ℕ) → slice_get g.prods p ≡ Some (Star firsts q) → MayBeEmpty g q → Unfit g p
  -- it comes back to itself without a Call
  own_part : Path (graph_of false g) p p → Unfit g p
  -- it is a Call of a rule that does not nest, and that rule's production comes back to itself without a rule that nests
  own_call : (r q : ℕ) → slice_get g.prods p ≡ Some (Call r) → slice_get g.rules r ≡ Some q → slice_get g.nests r ≡ Some false → Path (graph_of true g) q q
      → Unfit g p

-- each entry is a place in a table of this length
abbrev pub all_inside : ℕ → List ℕ → Bool
all_inside n [] = true
all_inside n (q ∷ qs) = if nat_lt q n then all_inside n qs else false

-- what is asked of a table that is to be tested
pub record IsTable (g : Table) : Type 0 where
  pub few : length g.prods ≤ 65536
  pub paired : length g.nests ≡ length g.rules
  pub inside : IsTrue (all_inside (length g.prods) g.rules)

-- no production is unfit
pub record IsFit (g : Table) : Type 0 where
  pub table : IsTable g
  pub fit : (p : ℕ) → Unfit g p → ⊥

-- p is unfit, and none before it is
pub record IsFirstUnfit (g : Table) (p : ℕ) : Type 0 where
  pub unfit : Unfit g p
  pub before : (q : ℕ) → q < p → Unfit g q → ⊥

-- a fault names the first unfit production; want of memory may always come
abbrev pub IsGrammarFault : Table → GrammarFault → Type 0
IsGrammarFault g Memory = Unit {0}
IsGrammarFault g (fault.Unfit p) = IsFirstUnfit g p
