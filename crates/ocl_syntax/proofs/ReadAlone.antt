-- In a tree that was read, the node that is meant by another passes nothing on: it has an operator, a step or a token below it.
use Rattle.std.proofs.Common.{◌≡◌, ◌≤◌, ◌==◌, ◌&&◌, ◌||◌, ℕ, suc, if◌then◌else◌, Bool, true, false, List, [], ◌∷◌, ◌++◌, length, filter, map, Option, Some, None, is_some, slice_get, refl, sym, subst, ap, arith}
use Rattle.std.proofs.Math.Nat.{le-max_left}
use Rattle.std.specs.List.{AllByRecursion}
use Rattle.std.proofs.lemmas.Bool.Decides.{nat_tests}
use Rattle.use_text.specs.declared.token.Token.{Token}
use Rattle.use_text.specs.declared.token.TokenKind.{TokenKind}
use Rattle.use_text.specs.declared.token.TokenKind.TheVariants as k
use Rattle.grammar_core.specs.Trees.{ParseTree, leaf, node, below, Row, row_leaves, trees_of}
use Rattle.use_syntax.specs.declared.rule.Rule.{Rule}
use Rattle.use_syntax.specs.declared.rule.Rule.TheVariants as r
use Rattle.use_nodes.specs.declared.parts.Select.{Select}
use Rattle.use_nodes.specs.declared.parts.Select.TheVariants as s
use Rattle.use_nodes.specs.Depth.{depth, nests, one_more_if}
use Rattle.use_nodes.specs.Nodes.{and_then, is_node, is_rule, parts, selects}
use Rattle.use_nodes.specs.ExpressionNodes.{is_chain}
use Rattle.use_nodes.specs.Typed.{Fact, a_rule, a_token, are_all, are_so, at_most_one, chain, each, first_of, is_at_most_one, is_one_of, maybe, nth, one_more, there}
use Rattle.use_nodes.proofs.Sure.{or_map}
use Rattle.ocl_syntax.specs.InTexts.{expression_rules, is_expression}
use Rattle.ocl_syntax.specs.Plain.{may_pass, next_of, plain, plain_in}
use Rattle.ocl_syntax.proofs.ReadTrees.{IsLeafOf, IsRead, are_among, depth_inside, each_is, expression_sort, facts_there, first_fact, more_facts, one_more_or_less}

not_one : (n : ℕ) → (suc (suc n) == 1) ≡ false
not_one n = grind (arith, nat_tests)

-- ---- rows of one node

-- one node, and nothing else
pub record IsAlone (xs : List ParseTree) : Type 0 where
  pub tree : ParseTree
  pub is : xs ≡ tree ∷ []
  pub node : is_node tree ≡ true

abbrev passed_if : Bool → ParseTree → Option ParseTree
passed_if b x = if b then Some x else None

-- what a node over such a row passes on
abbrev next_among : Bool → List ParseTree → Option ParseTree
next_among passes xs = and_then (slice_get xs 0) (λ next. if (length xs == 1) && is_node next && passes then Some next else None)

passes_one : (b c : Bool) (x : ParseTree) → b ≡ true → c ≡ true → passed_if (b && c) x ≡ None → ⊥
passes_one true true x h k e = cc
passes_one true false x h k e = cc
passes_one false c x h k e = cc

passes_alone : (passes : Bool) (xs : List ParseTree) → passes ≡ true → next_among passes xs ≡ None → IsAlone xs → ⊥
passes_alone passes xs h none alone =
    passes_one (is_node alone.tree) passes alone.tree alone.node h (subst (λ (ys : List ParseTree). next_among passes ys ≡ None) alone.is none)

-- where a node passes nothing on though it may, what is below it is not one node alone
pub not_alone : (t : ParseTree) → may_pass t ≡ true → next_of t ≡ None → IsAlone (below t) → ⊥
not_alone t h none alone = passes_alone (may_pass t) (below t) h none alone

-- no tokens, and one node at most and at least
pub alone_by_nodes : (xs : List ParseTree) → slice_get (filter (selects s.Tokens) xs) 0 ≡ None → is_at_most_one (filter (is_one_of (s.Rules ∷ [])) xs) ≡ true
    → is_some (slice_get (filter (selects s.Rules) xs) 0) ≡ true → IsAlone xs
alone_by_nodes [] none most some = absurd (cc)
alone_by_nodes (leaf kind at ∷ xs) none most some = absurd (cc)
alone_by_nodes (node q row ∷ []) none most some = record { tree = node q row; is = refl; node = refl }
alone_by_nodes (node q row ∷ leaf kind at ∷ xs) none most some = absurd (cc)
alone_by_nodes (node q row ∷ node p low ∷ xs) none most some = absurd (cc)

abbrev pub steps_sorts : List Select
steps_sorts = s.Rule r.Primary ∷ s.Rule r.Dot ∷ s.Rule r.Arrow ∷ []

-- no tokens, and one node
pub alone_by_count : (xs : List ParseTree) → filter (selects s.Tokens) xs ≡ [] → length (filter (selects s.Rules) xs) ≡ 1 → IsAlone xs
alone_by_count [] none one = absurd (omega (arith, one))
alone_by_count (leaf kind at ∷ xs) none one = absurd (cc)
alone_by_count (node q row ∷ []) none one = record { tree = node q row; is = refl; node = refl }
alone_by_count (node q row ∷ leaf kind at ∷ xs) none one = absurd (cc)
alone_by_count (node q row ∷ node p low ∷ xs) none one = absurd (omega (arith, one))

-- a row of primaries, dots and arrows, one primary at most, and no dot or arrow
pub alone_by_steps : (xs : List ParseTree) → are_all [] (filter (selects s.Tokens) xs) ≡ true
    → are_all steps_sorts (filter (selects s.Rules) xs) ≡ true
    → is_at_most_one (filter (is_one_of (s.Rule r.Primary ∷ [])) xs) ≡ true → (x : ParseTree) → slice_get xs 0 ≡ Some x → is_rule r.Primary x ≡ true
    → filter (selects s.Steps) xs ≡ [] → IsAlone xs
alone_by_steps [] tokens nodes most x first is none = absurd (cc)
alone_by_steps (leaf kind at ∷ xs) tokens nodes most x first is none = absurd (cc)
alone_by_steps (node q row ∷ []) tokens nodes most x first is none = record { tree = node q row; is = refl; node = refl }
alone_by_steps (node q row ∷ leaf kind at ∷ xs) tokens nodes most x first is none = absurd (cc)
alone_by_steps (node q row ∷ node p low ∷ xs) tokens nodes most x first is none =
    let same : node q row ≡ x = cc in
    absurd
    (here (is_rule r.Primary (node q row)) (is_rule r.Primary (node p low)) (is_rule r.Dot (node p low)) (is_rule r.Arrow (node p low))
    (filter (selects s.Steps) xs) (filter (is_one_of (s.Rule r.Primary ∷ [])) xs)
    (subst (λ (y : ParseTree). is_rule r.Primary y ≡ true) (sym same) is) (sorted (is_one_of steps_sorts (node q row)) (is_one_of steps_sorts (node p low)) (are_all steps_sorts (filter (selects s.Rules) xs)) nodes)
    (later (selects s.Steps (node q row)) (filter (selects s.Steps) (node p low ∷ xs)) none) most)
  where
    sorted : (a b c : Bool) → (a && (b && c)) ≡ true → b ≡ true
    sorted true true c e = refl
    sorted true false c e = cc
    sorted false b c e = absurd (cc)

    later : (b : Bool) (ys : List ParseTree) → (if b then node q row ∷ ys else ys) ≡ [] → ys ≡ []
    later true ys e = cc
    later false ys e = e

    here : (a b c d : Bool) (steps ones : List ParseTree) → a ≡ true → (b || (c || (d || false))) ≡ true
        → (if c || d then node p low ∷ steps else steps) ≡ []
        → is_at_most_one (if a || false then node q row ∷ (if b || false then node p low ∷ ones else ones) else (if b || false then node p low ∷ ones else ones)) ≡ true → ⊥
    here true true c d steps ones h e none most = cc
    here true false true d steps ones h e none most = cc
    here true false false true steps ones h e none most = cc
    here true false false false steps ones h e none most = cc
    here false b c d steps ones h e none most = cc

-- a row of one tree at most
pub alone_at_most : (xs : List ParseTree) → is_at_most_one (filter (is_one_of (s.Rules ∷ s.Tokens ∷ [])) xs) ≡ true
    → (x : ParseTree) → slice_get xs 0 ≡ Some x → is_node x ≡ true → IsAlone xs
alone_at_most [] most x first is = absurd (cc)
alone_at_most (y ∷ []) most x first is = let same : x ≡ y = cc in record { tree = y; is = refl; node = subst (λ (z : ParseTree). is_node z ≡ true) same is }
alone_at_most (leaf a i ∷ leaf b j ∷ xs) most x first is = absurd (cc)
alone_at_most (leaf a i ∷ node q row ∷ xs) most x first is = absurd (cc)
alone_at_most (node q row ∷ leaf b j ∷ xs) most x first is = absurd (cc)
alone_at_most (node q row ∷ node p low ∷ xs) most x first is = absurd (cc)

-- ---- chains

-- operands and operators as the grammar has them
pub record IsChain (t : ParseTree) : Type 0 where
  pub operands : AllByRecursion (λ c. is_expression c ≡ true) (parts s.Rules t)
  pub more : length (parts s.Rules t) ≡ suc (length (parts s.Tokens t))

same_number : (n m : ℕ) → (n == m) ≡ true → n ≡ m
same_number n m e = grind (arith, nat_tests)

each_weaker : (P Q : ParseTree → Type 0) → ((t : ParseTree) → P t → Q t) → (xs : List ParseTree) → AllByRecursion P xs → AllByRecursion Q xs
each_weaker P Q f [] h = tt
each_weaker P Q f (x ∷ xs) h = (f x h.0, each_weaker P Q f xs h.1)

chain_of_facts : (operand : Rule) (operators : List TokenKind) (t : ParseTree) → are_among expression_rules (a_rule operand) ≡ true
    → are_so (chain operand operators) t ≡ true → IsChain t
chain_of_facts operand operators t among e =
    let tokens = each s.Tokens (map s.Token operators) in
    let nodes = each s.Rules (a_rule operand) in
    let all = first_fact nodes (tokens ∷ one_more ∷ []) t e in
    let rest = more_facts tokens (one_more ∷ []) t (more_facts nodes (tokens ∷ one_more ∷ []) t e) in
    record {
      operands = each_weaker (λ c. is_one_of (a_rule operand) c ≡ true) (λ c. is_expression c ≡ true) (λ c h. expression_sort (a_rule operand) c among h)
          (parts s.Rules t) (each_is (a_rule operand) (parts s.Rules t) all);
      more = same_number (length (parts s.Rules t)) (suc (length (parts s.Tokens t))) (first_fact one_more [] t rest);
    }

module _ (ts : List Token) (t : ParseTree) (read : IsRead ts t) where
  pub chain_there : is_chain t ≡ true → IsChain t
  chain_there e =
      or_map _ (is_rule r.Expr t)
      (or_map _ (is_rule r.Xors t)
      (or_map _ (is_rule r.Ors t)
      (or_map _ (is_rule r.Ands t)
      (or_map _ (is_rule r.Eqs t)
      (or_map _ (is_rule r.Rels t)
      (or_map (is_rule r.Muls t) (is_rule r.Sums t)
      (λ is. chain_of_facts r.Unary (k.Star ∷ k.Div ∷ k.Mod ∷ []) t refl (facts_there ts r.Muls t read is))
      (λ is. chain_of_facts r.Muls (k.Plus ∷ k.Minus ∷ []) t refl (facts_there ts r.Sums t read is)))
      (λ is. chain_of_facts r.Sums (k.Less ∷ k.LessEqual ∷ k.Greater ∷ k.GreaterEqual ∷ []) t refl (facts_there ts r.Rels t read is)))
      (λ is. chain_of_facts r.Rels (k.Equal ∷ k.NotEqual ∷ []) t refl (facts_there ts r.Eqs t read is)))
      (λ is. chain_of_facts r.Eqs (k.And ∷ []) t refl (facts_there ts r.Ands t read is)))
      (λ is. chain_of_facts r.Ands (k.Or ∷ []) t refl (facts_there ts r.Ors t read is)))
      (λ is. chain_of_facts r.Ors (k.Xor ∷ []) t refl (facts_there ts r.Xors t read is)))
      (λ is. chain_of_facts r.Xors (k.Implies ∷ []) t refl (facts_there ts r.Expr t read is)) e

-- ---- what is passed on

-- the sorts of what stands in a unary, and in a primary
abbrev pub in_unary : List Select
in_unary = a_rule r.Unary ++ a_rule r.Let ++ a_rule r.Postfix

abbrev pub rules_in_primary : List Select
rules_in_primary = a_rule r.Literal ++ a_rule r.Collection ++ a_rule r.Named ++ a_rule r.Group ++ a_rule r.Choice

abbrev pub in_primary : List Select
in_primary = map s.Token (k.Int ∷ k.Str ∷ k.True ∷ k.False ∷ k.Null ∷ k.Undefined ∷ k.Invalid ∷ []) ++ rules_in_primary

-- the other facts on a unary, on a postfix and on a primary
abbrev pub behind_operand : List Fact
behind_operand = maybe (first_of s.Tokens) (a_token k.Not ++ a_token k.Minus) ∷ at_most_one (s.Rules ∷ []) ∷ []

abbrev pub behind_source : List Fact
behind_source = at_most_one (a_rule r.Primary) ∷ each s.Rules steps_sorts ∷ each s.Tokens [] ∷ []

abbrev pub behind_form : List Fact
behind_form = at_most_one (s.Rules ∷ s.Tokens ∷ []) ∷ []

module _ (ts : List Token) where
  -- a node over one other alone
  module _ (q p : ℕ) (low : Row) (read : IsRead ts (node q (Row.rule p low Row.none))) where
    abbrev over : ParseTree
    over = node q (Row.rule p low Row.none)

    in_chain : is_chain over ≡ true → is_expression (node p low) ≡ true
    in_chain is = (chain_there ts over read is).operands.0

    of_unary : is_rule r.Unary over ≡ true → is_expression (node p low) ≡ true
    of_unary is =
        expression_sort in_unary (node p low) refl (first_fact (there (first_of s.Rules) in_unary) behind_operand over (facts_there ts r.Unary over read is))

    of_postfix : is_rule r.Postfix over ≡ true → is_expression (node p low) ≡ true
    of_postfix is =
        expression_sort (a_rule r.Primary) (node p low) refl (first_fact (there (nth 0) (a_rule r.Primary)) behind_source over (facts_there ts r.Postfix over read is))

    of_primary : is_rule r.Primary over ≡ true → is_expression (node p low) ≡ true
    of_primary is =
        expression_sort rules_in_primary (node p low) refl (first_fact (there (nth 0) in_primary) behind_form over (facts_there ts r.Primary over read is))

    passed_expression : may_pass over ≡ true → is_expression (node p low) ≡ true
    passed_expression e =
        or_map _ (is_rule r.Primary over)
        (or_map _ (is_rule r.Postfix over) (or_map (is_chain over) (is_rule r.Unary over) in_chain of_unary) of_postfix) of_primary e

    below_read : IsRead ts (node p low)
    below_read = record { typed = (read.typed.1.0, read.typed.1.1, tt); tokens = left_leaves (row_leaves low) read.tokens }
      where
        left_leaves : (xs : List (ℕ × ℕ)) → AllByRecursion (IsLeafOf ts) (xs ++ []) → AllByRecursion (IsLeafOf ts) xs
        left_leaves [] h = tt
        left_leaves (x ∷ xs) h = (h.0, left_leaves xs h.1)

  -- a node that is meant: it is as deep inside at most, and passes nothing on
  pub record IsMeant (n : ℕ) (t : ParseTree) : Type 0 where
    pub read : IsRead ts t
    pub expression : is_expression t ≡ true
    pub within : depth_inside t ≤ n
    pub stays : next_of t ≡ None

  stays_if : (b c : Bool) (x : ParseTree) → c ≡ false → passed_if (b && c) x ≡ None
  stays_if true c x e = ap (λ (d : Bool). passed_if d x) e
  stays_if false c x e = refl

  of_two : (b c d : Bool) (x : ParseTree) → b ≡ false → passed_if (b && c && d) x ≡ None
  of_two true c d x e = absurd (cc)
  of_two false c d x e = refl

  of_token : (b d : Bool) (x : ParseTree) → passed_if (b && false && d) x ≡ None
  of_token true d x = refl
  of_token false d x = refl

  meant_in : (q : ℕ) (row : Row) (n : ℕ) → IsRead ts (node q row) → is_expression (node q row) ≡ true → depth row ≤ n → IsMeant n (plain_in q row)
  meant_in q Row.none n read is low = record { read = read; expression = is; within = low; stays = refl }
  meant_in q (Row.token kind at row) n read is low =
      record {
        read = read;
        expression = is;
        within = low;
        stays = of_token (suc (length (trees_of row)) == 1) (may_pass (node q Row.none)) (leaf kind at);
      }
  meant_in q (Row.rule p low Row.none) n read is deep =
      here (may_pass (node q Row.none)) refl
      (λ e.
      let left = le-max_left (one_more_if (nests (node p low)) (depth low)) 0 in
      let more = one_more_or_less (nests (node p low)) (depth low) in
      meant_in p low n (below_read q p low read) (passed_expression q p low read e) (omega (arith, deep, left, more)))
    where
      here : (b : Bool) → may_pass (node q Row.none) ≡ b → (may_pass (node q Row.none) ≡ true → IsMeant n (plain_in p low))
          → IsMeant n (if b then plain_in p low else node q (Row.rule p low Row.none))
      here true e later = later e
      here false e later = record { read = read; expression = is; within = deep; stays = stays_if true (may_pass (node q Row.none)) (node p low) e }
  meant_in q (Row.rule p lower (Row.token kind at row)) n read is low =
      record {
        read = read;
        expression = is;
        within = low;
        stays = of_two (suc (suc (length (trees_of row))) == 1) true (may_pass (node q Row.none)) (node p lower) (not_one (length (trees_of row)));
      }
  meant_in q (Row.rule p lower (Row.rule m last row)) n read is low =
      record {
        read = read;
        expression = is;
        within = low;
        stays = of_two (suc (suc (length (trees_of row))) == 1) true (may_pass (node q Row.none)) (node p lower) (not_one (length (trees_of row)));
      }

  pub meant : (t : ParseTree) (n : ℕ) → IsRead ts t → is_expression t ≡ true → depth_inside t ≤ n → IsMeant n (plain t)
  meant (leaf kind at) n read is low = record { read = read; expression = is; within = low; stays = refl }
  meant (node q row) n read is low = meant_in q row n read is low
