-- The parts that each rule requires, as tests of the row below a node. Where the row passes them, the node has its parts.
use Rattle.std.proofs.Common.{◌≡◌, ◌<◌, ◌==◌, ℕ, zero, suc, ◌+◌, length, subst, arith, Bool, true, List, [], ◌∷◌, filter, Option, Some, None, is_some, slice_get, refl}
use Rattle.grammar_core.specs.Trees.{ParseTree, node, Row, trees_of}
use Rattle.use_text.specs.declared.token.TokenKind.{TokenKind}
use Rattle.use_text.specs.declared.token.TokenKind.TheVariants as k
use Rattle.use_syntax.specs.declared.rule.Rule.{Rule}
use Rattle.use_syntax.specs.declared.rule.Rule.TheVariants as r
use Rattle.use_syntax.specs.Numbers.{number_of_rule}
use Rattle.use_syntax.proofs.Ranked.{both, both_left, both_right}
use Rattle.use_nodes.specs.declared.parts.Select.{Select}
use Rattle.use_nodes.specs.declared.parts.Select.TheVariants as s
use Rattle.use_nodes.specs.Nodes.{and_then, next_to, selects}
use Rattle.use_nodes.specs.Whole.{has_parts}

-- a part that a rule requires: the one at a place, one behind a token, or one that is sought
pub data Need : Type 0 where
  nth : ℕ → Need
  after : TokenKind → Need
  some_of : Select → Need

-- the row has it
abbrev pub is_met : Need → List ParseTree → Bool
is_met (nth i) ts = is_some (slice_get ts i)
is_met (after kind) ts = is_some (next_to kind ts)
is_met (some_of select) ts = is_some (slice_get (filter (selects select) ts) 0)

abbrev pub are_met : List Need → List ParseTree → Bool
are_met [] ts = true
are_met (need ∷ needs) ts = both (is_met need ts) (are_met needs ts)

abbrev pub needs : Rule → List Need
needs r.File = after k.Model ∷ []
needs r.Command = []
needs r.Names = []
needs r.Type = nth 0 ∷ []
needs r.Item = nth 0 ∷ []
needs r.Args = []
needs r.Part = nth 0 ∷ []
needs r.Collection = nth 0 ∷ []
needs r.Named = nth 0 ∷ []
needs r.Literal = after k.Hash ∷ []
needs r.Group = after k.LeftParen ∷ []
needs r.Choice = after k.If ∷ after k.Then ∷ after k.Else ∷ []
needs r.Primary = nth 0 ∷ []
needs r.Dot = after k.Dot ∷ []
needs r.Arrow = after k.Arrow ∷ []
needs r.Postfix = nth 0 ∷ []
needs r.Bind = nth 0 ∷ after k.Equal ∷ []
needs r.Let = after k.In ∷ []
needs r.Unary = some_of s.Rules ∷ []
needs r.Muls = []
needs r.Sums = []
needs r.Rels = []
needs r.Eqs = []
needs r.Ands = []
needs r.Ors = []
needs r.Xors = []
needs r.Expr = []
needs r.Block = []
needs r.New = after k.New ∷ []
needs r.Rhs = nth 0 ∷ []
needs r.Create = after k.Create ∷ after k.Colon ∷ []
needs r.Set = after k.SetWord ∷ after k.Assign ∷ []
needs r.Destroy = []
needs r.Insert = after k.LeftParen ∷ after k.Comma ∷ after k.Into ∷ []
needs r.Delete = after k.LeftParen ∷ after k.Comma ∷ after k.From ∷ []
needs r.Declare = after k.Declare ∷ after k.Colon ∷ []
needs r.Branch = after k.If ∷ after k.Then ∷ []
needs r.For = after k.For ∷ after k.In ∷ after k.Do ∷ []
needs r.While = after k.While ∷ after k.Do ∷ []
needs r.Assign = nth 0 ∷ []
needs r.Stmt = nth 0 ∷ []
needs r.Enter = nth 1 ∷ nth 2 ∷ some_of (s.Rule r.Args) ∷ []
needs r.Exit = []
needs r.Execute = after k.Bang ∷ []
needs r.Query = some_of (s.Rule r.Expr) ∷ []
needs r.Check = []
needs r.Info = nth 1 ∷ []
needs r.View = nth 1 ∷ some_of (s.Token k.Int) ∷ []
needs r.Enum = after k.Enum ∷ after k.LeftBrace ∷ []
needs r.Param = nth 0 ∷ after k.Colon ∷ []
needs r.Params = []
needs r.Head = nth 0 ∷ []
needs r.Cond = nth 0 ∷ after k.Colon ∷ []
needs r.Inv = after k.Colon ∷ []
needs r.Oper = nth 0 ∷ []
needs r.Attribute = nth 0 ∷ after k.Colon ∷ []
needs r.Parents = after k.Less ∷ []
needs r.Class = after k.Class ∷ []
needs r.Mult = nth 0 ∷ []
needs r.AssocEnd = nth 0 ∷ []
needs r.Assoc = nth 0 ∷ nth 1 ∷ after k.Between ∷ nth 4 ∷ []
needs r.Context = after k.Context ∷ []
needs r.Constraints = []

-- the rules in the order of their numbers
abbrev pub all_rules : List Rule
all_rules = r.File ∷ r.Command ∷ r.Names ∷ r.Type ∷ r.Item ∷ r.Args ∷ r.Part ∷ r.Collection ∷ r.Named
    ∷ r.Literal ∷ r.Group ∷ r.Choice ∷ r.Primary ∷ r.Dot ∷ r.Arrow ∷ r.Postfix ∷ r.Bind ∷ r.Let
    ∷ r.Unary ∷ r.Muls ∷ r.Sums ∷ r.Rels ∷ r.Eqs ∷ r.Ands ∷ r.Ors ∷ r.Xors ∷ r.Expr ∷ r.Block ∷ r.New
    ∷ r.Rhs ∷ r.Create ∷ r.Set ∷ r.Destroy ∷ r.Insert ∷ r.Delete ∷ r.Declare ∷ r.Branch ∷ r.For
    ∷ r.While ∷ r.Assign ∷ r.Stmt ∷ r.Enter ∷ r.Exit ∷ r.Execute ∷ r.Query ∷ r.Check ∷ r.Info ∷ r.View ∷ r.Enum
    ∷ r.Param ∷ r.Params ∷ r.Head ∷ r.Cond ∷ r.Inv ∷ r.Oper ∷ r.Attribute ∷ r.Parents ∷ r.Class ∷ r.Mult ∷ r.AssocEnd ∷ r.Assoc ∷ r.Context ∷ r.Constraints ∷ []

pub rule_there : (rule : Rule) → slice_get all_rules (number_of_rule rule) ≡ Some rule
rule_there r.File = refl
rule_there r.Command = refl
rule_there r.Names = refl
rule_there r.Type = refl
rule_there r.Item = refl
rule_there r.Args = refl
rule_there r.Part = refl
rule_there r.Collection = refl
rule_there r.Named = refl
rule_there r.Literal = refl
rule_there r.Group = refl
rule_there r.Choice = refl
rule_there r.Primary = refl
rule_there r.Dot = refl
rule_there r.Arrow = refl
rule_there r.Postfix = refl
rule_there r.Bind = refl
rule_there r.Let = refl
rule_there r.Unary = refl
rule_there r.Muls = refl
rule_there r.Sums = refl
rule_there r.Rels = refl
rule_there r.Eqs = refl
rule_there r.Ands = refl
rule_there r.Ors = refl
rule_there r.Xors = refl
rule_there r.Expr = refl
rule_there r.Block = refl
rule_there r.New = refl
rule_there r.Rhs = refl
rule_there r.Create = refl
rule_there r.Set = refl
rule_there r.Destroy = refl
rule_there r.Insert = refl
rule_there r.Delete = refl
rule_there r.Declare = refl
rule_there r.Branch = refl
rule_there r.For = refl
rule_there r.While = refl
rule_there r.Assign = refl
rule_there r.Stmt = refl
rule_there r.Enter = refl
rule_there r.Exit = refl
rule_there r.Execute = refl
rule_there r.Query = refl
rule_there r.Check = refl
rule_there r.Info = refl
rule_there r.View = refl
rule_there r.Enum = refl
rule_there r.Param = refl
rule_there r.Params = refl
rule_there r.Head = refl
rule_there r.Cond = refl
rule_there r.Inv = refl
rule_there r.Oper = refl
rule_there r.Attribute = refl
rule_there r.Parents = refl
rule_there r.Class = refl
rule_there r.Mult = refl
rule_there r.AssocEnd = refl
rule_there r.Assoc = refl
rule_there r.Context = refl
rule_there r.Constraints = refl

-- the rules from i on
abbrev are_numbered : ℕ → List Rule → Bool
are_numbered i [] = true
are_numbered i (rule ∷ rules) = both (i == number_of_rule rule) (are_numbered (suc i) rules)

numbered_from : (i : ℕ) (rules : List Rule) → are_numbered i rules ≡ true → (n : ℕ) → n < length rules → (rule : Rule) × ((n + i == number_of_rule rule) ≡ true)
numbered_from i [] e n low = absurd (omega (arith, low))
numbered_from i (x ∷ xs) e zero low = let z : i ≡ 0 + i = omega arith in
    (x, subst (λ (m : ℕ). (m == number_of_rule x) ≡ true) z (both_left (i == number_of_rule x) (are_numbered (suc i) xs) e))
numbered_from i (x ∷ xs) e (suc n) low =
    let later = numbered_from (suc i) xs (both_right (i == number_of_rule x) (are_numbered (suc i) xs) e) n (omega (arith, low)) in
    let z : n + suc i ≡ suc n + i = omega arith in
    (later.0, subst (λ (m : ℕ). (m == number_of_rule later.0) ≡ true) z later.1)

-- each number below 63 is that of a rule
pub rule_numbered : (n : ℕ) → n < 63 → (rule : Rule) × ((n == number_of_rule rule) ≡ true)
rule_numbered n low = let found = numbered_from 0 all_rules refl n low in let z : n + 0 ≡ n = omega arith in
    (found.0, subst (λ (m : ℕ). (m == number_of_rule found.0) ≡ true) z found.1)

-- where the parts are there, so is what is made of them
module _ {X : Type 0} where
  one : (p : Option ParseTree) (make : ParseTree → X) → both (is_some p) true ≡ true → is_some (and_then p (λ a. Some (make a))) ≡ true
  one None make h = absurd (cc)
  one (Some a) make h = refl

  two : (p q : Option ParseTree) (make : ParseTree → ParseTree → X) → both (is_some p) (both (is_some q) true) ≡ true
      → is_some (and_then p (λ a. and_then q (λ b. Some (make a b)))) ≡ true
  two None q make h = absurd (cc)
  two (Some a) q make h = one q (make a) h

  three : (p q s : Option ParseTree) (make : ParseTree → ParseTree → ParseTree → X) → both (is_some p) (both (is_some q) (both (is_some s) true)) ≡ true
      → is_some (and_then p (λ a. and_then q (λ b. and_then s (λ c. Some (make a b c))))) ≡ true
  three None q s make h = absurd (cc)
  three (Some a) q s make h = two q s (make a) h

  four : (p q s u : Option ParseTree) (make : ParseTree → ParseTree → ParseTree → ParseTree → X)
      → both (is_some p) (both (is_some q) (both (is_some s) (both (is_some u) true))) ≡ true
      → is_some (and_then p (λ a. and_then q (λ b. and_then s (λ c. and_then u (λ d. Some (make a b c d)))))) ≡ true
  four None q s u make h = absurd (cc)
  four (Some a) q s u make h = three q s u (make a) h

pub met_has_parts : (rule : Rule) (row : Row) → are_met (needs rule) (trees_of row) ≡ true → has_parts rule (node (number_of_rule rule) row) ≡ true
met_has_parts r.File row h = one (next_to k.Model (trees_of row)) _ h
met_has_parts r.Command row h = refl
met_has_parts r.Names row h = refl
met_has_parts r.Type row h = one (slice_get (trees_of row) 0) _ h
met_has_parts r.Item row h = one (slice_get (trees_of row) 0) _ h
met_has_parts r.Args row h = refl
met_has_parts r.Part row h = one (slice_get (trees_of row) 0) _ h
met_has_parts r.Collection row h = one (slice_get (trees_of row) 0) _ h
met_has_parts r.Named row h = one (slice_get (trees_of row) 0) _ h
met_has_parts r.Literal row h = one (next_to k.Hash (trees_of row)) _ h
met_has_parts r.Group row h = one (next_to k.LeftParen (trees_of row)) _ h
met_has_parts r.Choice row h = three (next_to k.If (trees_of row)) (next_to k.Then (trees_of row)) (next_to k.Else (trees_of row)) _ h
met_has_parts r.Primary row h = one (slice_get (trees_of row) 0) _ h
met_has_parts r.Dot row h = one (next_to k.Dot (trees_of row)) _ h
met_has_parts r.Arrow row h = one (next_to k.Arrow (trees_of row)) _ h
met_has_parts r.Postfix row h = one (slice_get (trees_of row) 0) _ h
met_has_parts r.Bind row h = two (slice_get (trees_of row) 0) (next_to k.Equal (trees_of row)) _ h
met_has_parts r.Let row h = one (next_to k.In (trees_of row)) _ h
met_has_parts r.Unary row h = one (slice_get (filter (selects s.Rules) (trees_of row)) 0) _ h
met_has_parts r.Muls row h = refl
met_has_parts r.Sums row h = refl
met_has_parts r.Rels row h = refl
met_has_parts r.Eqs row h = refl
met_has_parts r.Ands row h = refl
met_has_parts r.Ors row h = refl
met_has_parts r.Xors row h = refl
met_has_parts r.Expr row h = refl
met_has_parts r.Block row h = refl
met_has_parts r.New row h = one (next_to k.New (trees_of row)) _ h
met_has_parts r.Rhs row h = one (slice_get (trees_of row) 0) _ h
met_has_parts r.Create row h = two (next_to k.Create (trees_of row)) (next_to k.Colon (trees_of row)) _ h
met_has_parts r.Set row h = two (next_to k.SetWord (trees_of row)) (next_to k.Assign (trees_of row)) _ h
met_has_parts r.Destroy row h = refl
met_has_parts r.Insert row h = three (next_to k.LeftParen (trees_of row)) (next_to k.Comma (trees_of row)) (next_to k.Into (trees_of row)) _ h
met_has_parts r.Delete row h = three (next_to k.LeftParen (trees_of row)) (next_to k.Comma (trees_of row)) (next_to k.From (trees_of row)) _ h
met_has_parts r.Declare row h = two (next_to k.Declare (trees_of row)) (next_to k.Colon (trees_of row)) _ h
met_has_parts r.Branch row h = two (next_to k.If (trees_of row)) (next_to k.Then (trees_of row)) _ h
met_has_parts r.For row h = three (next_to k.For (trees_of row)) (next_to k.In (trees_of row)) (next_to k.Do (trees_of row)) _ h
met_has_parts r.While row h = two (next_to k.While (trees_of row)) (next_to k.Do (trees_of row)) _ h
met_has_parts r.Assign row h = one (slice_get (trees_of row) 0) _ h
met_has_parts r.Stmt row h = one (slice_get (trees_of row) 0) _ h
met_has_parts r.Enter row h =
    three (slice_get (trees_of row) 1) (slice_get (trees_of row) 2) (slice_get (filter (selects (s.Rule r.Args)) (trees_of row)) 0) _ h
met_has_parts r.Exit row h = refl
met_has_parts r.Execute row h = one (next_to k.Bang (trees_of row)) _ h
met_has_parts r.Query row h = one (slice_get (filter (selects (s.Rule r.Expr)) (trees_of row)) 0) _ h
met_has_parts r.Check row h = refl
met_has_parts r.Info row h = one (slice_get (trees_of row) 1) _ h
met_has_parts r.View row h = two (slice_get (trees_of row) 1) (slice_get (filter (selects (s.Token k.Int)) (trees_of row)) 0) _ h
met_has_parts r.Enum row h = two (next_to k.Enum (trees_of row)) (next_to k.LeftBrace (trees_of row)) _ h
met_has_parts r.Param row h = two (slice_get (trees_of row) 0) (next_to k.Colon (trees_of row)) _ h
met_has_parts r.Params row h = refl
met_has_parts r.Head row h = one (slice_get (trees_of row) 0) _ h
met_has_parts r.Cond row h = two (slice_get (trees_of row) 0) (next_to k.Colon (trees_of row)) _ h
met_has_parts r.Inv row h = one (next_to k.Colon (trees_of row)) _ h
met_has_parts r.Oper row h = one (slice_get (trees_of row) 0) _ h
met_has_parts r.Attribute row h = two (slice_get (trees_of row) 0) (next_to k.Colon (trees_of row)) _ h
met_has_parts r.Parents row h = one (next_to k.Less (trees_of row)) _ h
met_has_parts r.Class row h = one (next_to k.Class (trees_of row)) _ h
met_has_parts r.Mult row h = one (slice_get (trees_of row) 0) _ h
met_has_parts r.AssocEnd row h = one (slice_get (trees_of row) 0) _ h
met_has_parts r.Assoc row h = four (slice_get (trees_of row) 0) (slice_get (trees_of row) 1) (next_to k.Between (trees_of row)) (slice_get (trees_of row) 4) _ h
met_has_parts r.Context row h = one (next_to k.Context (trees_of row)) _ h
met_has_parts r.Constraints row h = refl
