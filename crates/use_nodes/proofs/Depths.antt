-- A tree that the grammar derives has at most so many nodes of rules that nest one in another as rules may be open.
use Rattle.std.proofs.Common.{◌≡◌, ◌≤◌, ◌<◌, ℕ, ◌+◌, ◌-◌, ◌==◌, if◌then◌else◌, nat_lt, Bool, true, false, List, [], ◌∷◌, ◌++◌, length, Option, Some, None, refl, subst, arith}
use Rattle.std.proofs.Math.Nat.{le-max_left, le-max_right, max-le, max-zero}
use Rattle.std.proofs.lemmas.Bool.{ltb-true}
use Rattle.std.proofs.lemmas.Bool.Decides.{nat_tests}
use Rattle.grammar_core.specs.declared.table.Rule.{Rule as TableRule}
use Rattle.grammar_core.specs.declared.table.Prod.{Prod}
use Rattle.grammar_core.specs.declared.table.Prod.TheVariants.{Call}
use Rattle.grammar_core.specs.Tables.{rule_at}
use Rattle.grammar_core.specs.Trees.{ParseTree, leaf, node, Row, row_of}
use Rattle.grammar_core.specs.Derives.{Outcome, before, below_rule, level_in, max_level, Stops, Derives, Gives, GivesProd, GivesAll, GivesTimes}
use Rattle.use_syntax.specs.declared.rule.Rule.{Rule}
use Rattle.use_syntax.specs.declared.rule.Rule.TheVariants as r
use Rattle.use_syntax.specs.Language.{bodies, language, nests as nest_flags}
use Rattle.use_syntax.specs.Numbers.{number_of_rule}
use Rattle.use_nodes.specs.Nodes.{is_rule}
use Rattle.use_nodes.specs.Depth.{IsShallow, depth, nests, one_more_if}
use Rattle.use_nodes.proofs.Sure.{or_map}

-- ---- rows

depth_append : (ts us : List ParseTree) (n : ℕ) → depth (row_of ts) ≤ n → depth (row_of us) ≤ n → depth (row_of (ts ++ us)) ≤ n
depth_append [] us n h k = k
depth_append (leaf m at ∷ ts) us n h k = depth_append ts us n h k
depth_append (node m row ∷ ts) us n h k =
    let first = one_more_if (nests (node m row)) (depth row) in
    let l = le-max_left first (depth (row_of ts)) in
    let r = le-max_right first (depth (row_of ts)) in
    max-le (omega (arith, h, l)) (depth_append ts us n (omega (arith, h, r)) k)

-- ---- the rules that nest

-- where there is a rule, it nests
abbrev it_nests : Option TableRule → Type 0
it_nests o = (rule : TableRule) → o ≡ Some rule → rule.nests ≡ true

same_number : (n m : ℕ) → (n == m) ≡ true → m ≡ n
same_number n m e = grind (arith, nat_tests)

rule_nests : (rule : Rule) → it_nests (rule_at language (number_of_rule rule)) → (n : ℕ) → is_rule rule (node n Row.none) ≡ true → it_nests (rule_at language n)
rule_nests rule h n e = subst (λ (m : ℕ). it_nests (rule_at language m)) (same_number n (number_of_rule rule) e) h

type_nests : it_nests (rule_at language (number_of_rule r.Type))
unfolding bodies nest_flags language
type_nests rule e = (cc)

unary_nests : it_nests (rule_at language (number_of_rule r.Unary))
unfolding bodies nest_flags language
unary_nests rule e = (cc)

expr_nests : it_nests (rule_at language (number_of_rule r.Expr))
unfolding bodies nest_flags language
expr_nests rule e = (cc)

stmt_nests : it_nests (rule_at language (number_of_rule r.Stmt))
unfolding bodies nest_flags language
stmt_nests rule e = (cc)

nests_there : (n : ℕ) → nests (node n Row.none) ≡ true → it_nests (rule_at language n)
nests_there n e =
    or_map _ (is_rule r.Stmt (node n Row.none))
    (or_map _ (is_rule r.Expr (node n Row.none))
    (or_map (is_rule r.Type (node n Row.none)) (is_rule r.Unary (node n Row.none)) (rule_nests r.Type type_nests n) (rule_nests r.Unary unary_nests n))
    (rule_nests r.Expr expr_nests n))
    (rule_nests r.Stmt stmt_nests n) e

-- ---- levels

some_same : (m k : ℕ) → Some m ≡ Some k → m ≡ k
some_same m k e = cc

-- the level inside a rule
module _ (level inner : ℕ) where
  inside_open : (b : Bool) → nat_lt level max_level ≡ b → (if b then Some (level + 1) else None) ≡ Some inner → inner ≤ max_level
  inside_open true e h = let low : level < max_level = ltb-true level max_level e in let s : level + 1 ≡ inner = some_same (level + 1) inner h in omega (arith, low, s)
  inside_open false e h = absurd (cc)

  within_by : (b : Bool) → (if b then (if nat_lt level max_level then Some (level + 1) else None) else Some level) ≡ Some inner → level ≤ max_level → inner ≤ max_level
  within_by true h low = inside_open (nat_lt level max_level) refl h
  within_by false h low = let s : level ≡ inner = some_same level inner h in omega (arith, low, s)

  opened : (b : Bool) → (if b then Some (level + 1) else None) ≡ Some inner → level + 1 ≡ inner
  opened true h = some_same (level + 1) inner h
  opened false h = absurd (cc)

  -- a node that nests counts one, and so does its rule
  counted_by : (b c : Bool) → (if b then (if nat_lt level max_level then Some (level + 1) else None) else Some level) ≡ Some inner → (c ≡ true → b ≡ true)
      → (n : ℕ) → inner + n ≤ max_level → level + one_more_if c n ≤ max_level
  counted_by true true h f n e = let s : level + 1 ≡ inner = opened (nat_lt level max_level) h in omega (arith, e, s)
  counted_by true false h f n e = let s : level + 1 ≡ inner = opened (nat_lt level max_level) h in omega (arith, e, s)
  counted_by false true h f n e = let wrong : false ≡ true = f refl in absurd (cc)
  counted_by false false h f n e = let s : level ≡ inner = some_same level inner h in omega (arith, e, s)

-- ---- the trees of an outcome at a level

abbrev AreShallow : ℕ → Outcome → Type 0
AreShallow level (Outcome.ends to trees) = level + depth (row_of trees) ≤ max_level
AreShallow level (Outcome.stuck at) = Unit {0}
AreShallow level (Outcome.deep at) = Unit {0}

shallow_before : (level : ℕ) (trees : List ParseTree) (a : Outcome) → level + depth (row_of trees) ≤ max_level → AreShallow level a → AreShallow level (before trees a)
shallow_before level trees (Outcome.ends to more) h k =
    let all = depth_append trees more (max_level - level) (omega (arith, h)) (omega (arith, k)) in omega (arith, all, h)
shallow_before level trees (Outcome.stuck at) h k = tt
shallow_before level trees (Outcome.deep at) h k = tt

shallow_stop : (level : ℕ) (a : Outcome) → Stops a → AreShallow level a
shallow_stop level (Outcome.ends to trees) s = absurd s
shallow_stop level (Outcome.stuck at) s = tt
shallow_stop level (Outcome.deep at) s = tt

module _ (ks : List ℕ) where
  shallow_below : (n : ℕ) (rule : TableRule) (level inner : ℕ) (a : Outcome) → rule_at language n ≡ Some rule → level_in rule level ≡ Some inner
      → AreShallow inner a → AreShallow level (below_rule n a)
  shallow_below n rule level inner (Outcome.ends to trees) e f h =
      let one = counted_by level inner rule.nests (nests (node n (row_of trees))) f (λ c. nests_there n c rule e) (depth (row_of trees)) h in
      let alone = max-zero (one_more_if (nests (node n (row_of trees))) (depth (row_of trees))) in
      omega (arith, one, alone)
  shallow_below n rule level inner (Outcome.stuck x) e f h = tt
  shallow_below n rule level inner (Outcome.deep x) e f h = tt

  mutual
    shallow : (p level at : ℕ) (a : Outcome) → Gives language ks p level at a → level ≤ max_level → AreShallow level a
    shallow _ _ _ _ (Gives.production p level at x a e of) low = shallow_prod x level at a of low

    shallow_prod : (x : Prod) (level at : ℕ) (a : Outcome) → GivesProd language ks x level at a → level ≤ max_level → AreShallow level a
    shallow_prod _ _ _ _ (GivesProd.token k level at e) low = omega (arith, low)
    shallow_prod _ _ _ _ (GivesProd.no_token k level at e) low = tt
    shallow_prod _ _ _ _ (GivesProd.rule n rule level inner at a e f of) low =
        shallow_below n rule level inner a e f (shallow rule.to inner at a of (within_by level inner rule.nests f low))
    shallow_prod _ _ _ _ (GivesProd.too_deep n rule level at e f) low = tt
    shallow_prod _ _ _ _ (GivesProd.parts ps level at a all) low = shallow_all ps level at a all low
    shallow_prod _ _ _ _ (GivesProd.branch bs other q level at a e of) low = shallow q level at a of low
    shallow_prod _ _ _ _ (GivesProd.no_branch bs other level at e) low = tt
    shallow_prod _ _ _ _ (GivesProd.times firsts q level at a all) low = shallow_times firsts q level at a all low

    shallow_all : (ps : List ℕ) (level at : ℕ) (a : Outcome) → GivesAll language ks ps level at a → level ≤ max_level → AreShallow level a
    shallow_all _ _ _ _ (GivesAll.all_done level at) low = omega (arith, low)
    shallow_all _ _ _ _ (GivesAll.then p ps level at to trees a of all) low =
        shallow_before level trees a (shallow p level at (Outcome.ends to trees) of low) (shallow_all ps level to a all low)
    shallow_all _ _ _ _ (GivesAll.stop p ps level at a of s) low = shallow_stop level a s

    shallow_times : (firsts : List ℕ) (q level at : ℕ) (a : Outcome) → GivesTimes language ks firsts q level at a → level ≤ max_level → AreShallow level a
    shallow_times _ _ _ _ _ (GivesTimes.no_more firsts q level at e) low = omega (arith, low)
    shallow_times _ _ _ _ _ (GivesTimes.once_more firsts q level at to trees a e of all) low =
        shallow_before level trees a (shallow q level at (Outcome.ends to trees) of low) (shallow_times firsts q level to a all low)
    shallow_times _ _ _ _ _ (GivesTimes.stop_in firsts q level at a e of s) low = shallow_stop level a s

  pub derived_shallow : (start : Rule) (tree : ParseTree) → Derives language ks (number_of_rule start) tree → IsShallow tree
  derived_shallow start tree of =
      let h = shallow_prod (Call (number_of_rule start)) 0 0 (Outcome.ends (length ks) (tree ∷ [])) of (omega arith) in omega (arith, h)
