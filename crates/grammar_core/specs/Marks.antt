-- The test of a table as it goes: marks of places, and how they are filled in. Only proofs use these words.
use Rattle.std.specs.Prelude.{◌≡◌, ℕ, ◌+◌, ◌<◌, ◌≤◌, Bool, true, false, List, [], ◌∷◌, length, Option, Some, None, zero, suc, if◌then◌else◌}
use Rattle.grammar_core.specs.declared.table.Table.{Table}
use Rattle.grammar_core.specs.declared.table.Rule.{Rule}
use Rattle.grammar_core.specs.declared.table.Prod.{Prod}
use Rattle.grammar_core.specs.declared.table.Prod.TheVariants.{Tok, Call, Seq, Case, Star}
use Rattle.grammar_core.specs.Paths.{Path, is_marked}
use Rattle.grammar_core.specs.Empty.{MayBeEmpty, empty_by}
use Rattle.grammar_core.specs.Tables.{graph_of, rule_at}
use Rattle.grammar_core.specs.Unfit.{IsFirstUnfit, Unfit}

abbrev pub unmarked : List Bool → ℕ
unmarked [] = 0
unmarked (true ∷ bs) = unmarked bs
unmarked (false ∷ bs) = suc (unmarked bs)

-- with q marked, if it is there
abbrev pub set_mark : List Bool → ℕ → List Bool
set_mark [] q = []
set_mark (b ∷ bs) zero = true ∷ bs
set_mark (b ∷ bs) (suc q) = b ∷ set_mark bs q

abbrev pub mark_all : List Bool → List ℕ → List Bool
mark_all seen [] = seen
mark_all seen (q ∷ qs) = mark_all (set_mark seen q) qs

-- with the places next to those marked marked, the first row being that of i
abbrev pub sweep : List Bool → ℕ → List (List ℕ) → List Bool
sweep seen i [] = seen
sweep seen i (row ∷ rows) = sweep (if is_marked seen i then mark_all seen row else seen) (i + 1) rows

-- the row marks exactly what p leads to
pub record IsRow (graph : List (List ℕ)) (p : ℕ) (row : List Bool) : Type 0 where
  pub long : length row ≡ length graph
  pub sound : (q : ℕ) → is_marked row q ≡ true → Path graph p q
  pub complete : (q : ℕ) → Path graph p q → is_marked row q ≡ true

-- a step from one list of marks to another, which `grew` tells
pub record Grows (old new : List Bool) (grew : Bool) : Type 0 where
  pub fewer : unmarked new ≤ unmarked old
  pub less : grew ≡ true → unmarked new < unmarked old
  pub same : grew ≡ false → new ≡ old

-- with those marked that may derive no token where those marked may, the first being at i
abbrev pub empty_sweep : List ℕ → List Bool → ℕ → List Prod → List Bool
empty_sweep rules seen i [] = seen
empty_sweep rules seen i (x ∷ xs) = empty_sweep rules (if empty_by rules seen x then set_mark seen i else seen) (i + 1) xs

-- the marks are exactly the productions that may derive no token
pub record MarksEmpty (g : Table) (seen : List Bool) : Type 0 where
  pub sound : (p : ℕ) → is_marked seen p ≡ true → MayBeEmpty g p
  pub complete : (p : ℕ) → MayBeEmpty g p → is_marked seen p ≡ true

abbrev pub ComesBack : Table → ℕ → Bool → Type 0
ComesBack g q true = ⊥
ComesBack g q false = Path (graph_of true g) q q

abbrev pub RuleComesBack : Table → Option Rule → Type 0
RuleComesBack g None = ⊥
RuleComesBack g (Some rule) = ComesBack g rule.to rule.nests

-- it is a Call of a rule that does not nest and comes back to itself without one that nests
abbrev pub CallComesBack : Table → Prod → Type 0
CallComesBack g (Tok k) = ⊥
CallComesBack g (Call r) = RuleComesBack g (rule_at g r)
CallComesBack g (Seq ps) = ⊥
CallComesBack g (Case bs other) = ⊥
CallComesBack g (Star firsts q) = ⊥

-- what the test of a table says of the first unfit production
abbrev pub IsFirstOf : Table → Option ℕ → Type 0
IsFirstOf g None = (p : ℕ) → Unfit g p → ⊥
IsFirstOf g (Some p) = IsFirstUnfit g p
