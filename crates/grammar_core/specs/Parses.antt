-- What the parser answers.
use Rattle.std.specs.Prelude.{◌≡◌, ◌≤◌, ◌==◌, ℕ, if◌then◌else◌, List, [], ◌∷◌, length, Option, Some, None, Result, Ok, Err}
use Rattle.grammar_core.specs.declared.table.Table.{Table}
use Rattle.grammar_core.specs.declared.table.Prod.TheVariants.{Call}
use Rattle.grammar_core.specs.declared.node.Node.{Node}
use Rattle.grammar_core.specs.declared.fault.ParseFault.{ParseFault}
use Rattle.grammar_core.specs.declared.fault.ParseFault.TheVariants as fault
use Rattle.grammar_core.specs.Arena.{root_tree}
use Rattle.grammar_core.specs.Answers.{of_production, outcome_of, whole}
use Rattle.grammar_core.specs.Derives.{Outcome, Verdict, derived, stuck, deep, Stuck, Deep}
use Rattle.grammar_core.specs.Trees.{ParseTree, leaf}

-- a fault names the place where the tokens are stuck or too deep; want of memory may always come
abbrev pub IsFaultOf : Table → List ℕ → ℕ → ParseFault → Type 0
IsFaultOf g ks r fault.Memory = Unit {0}
IsFaultOf g ks r (fault.Stuck at) = Stuck g ks r at
IsFaultOf g ks r (fault.Deep at) = Deep g ks r at

-- the place is not past the end of so many tokens
abbrev pub IsWithin : ℕ → ParseFault → Type 0
IsWithin n fault.Memory = Unit {0}
IsWithin n (fault.Stuck at) = at ≤ n
IsWithin n (fault.Deep at) = at ≤ n

-- the parser's answer is this verdict, unless memory ran out
abbrev pub Tells : Result (List Node) ParseFault → Verdict → Type 0
Tells (Ok nodes) (derived tree) = root_tree nodes ≡ tree
Tells (Ok nodes) (stuck at) = ⊥
Tells (Ok nodes) (deep at) = ⊥
Tells (Err fault.Memory) v = Unit {0}
Tells (Err (fault.Stuck x)) (derived tree) = ⊥
Tells (Err (fault.Stuck x)) (stuck at) = x ≡ at
Tells (Err (fault.Stuck x)) (deep at) = ⊥
Tells (Err (fault.Deep x)) (derived tree) = ⊥
Tells (Err (fault.Deep x)) (stuck at) = ⊥
Tells (Err (fault.Deep x)) (deep at) = x ≡ at

abbrev pub first_tree : List ParseTree → ParseTree
first_tree [] = leaf 0 0
first_tree (tree ∷ trees) = tree

-- what the outcome of the start rule says of so many tokens
abbrev pub verdict_of : ℕ → Option Outcome → Verdict
verdict_of n None = stuck 0
verdict_of n (Some (Outcome.ends to trees)) = if to == n then derived (first_tree trees) else stuck to
verdict_of n (Some (Outcome.stuck at)) = stuck at
verdict_of n (Some (Outcome.deep at)) = deep at

-- what comes of a whole list as a rule of a fit table, computed
unfoldable pub verdict : Table → List ℕ → ℕ → Verdict
verdict g ks r = verdict_of (length ks) (outcome_of (of_production g ks (λ q l from so_far m. whole g ks q l from so_far m) 0 (Some (Call r)) 0 [] 0))
