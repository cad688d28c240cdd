-- Trees that were read: their nodes have what the grammar gives them, their leaves are tokens, and they are shallow.
use Rattle.std.proofs.Common.{◌≡◌, ◌≤◌, ◌==◌, ◌&&◌, ◌||◌, ℕ, zero, suc, max, if◌then◌else◌, Bool, true, false, List, [], ◌∷◌, ◌++◌, map, filter, Option, Some, None, slice_get, refl, subst, ap, arith}
use Rattle.std.proofs.Math.Nat.{le-max_left, le-max_right, max-le}
use Rattle.std.specs.List.{AllByRecursion}
use Rattle.std.proofs.lemmas.Bool.Decides.{nat_tests}
use Rattle.use_text.specs.declared.token.Token.{Token}
use Rattle.use_text.specs.declared.token.TokenKind.{TokenKind}
use Rattle.grammar_core.specs.Trees.{ParseTree, leaf, node, onto, below, leaves, Row, row_leaves, trees_of}
use Rattle.use_syntax.specs.declared.rule.Rule.{Rule}
use Rattle.use_syntax.specs.Numbers.{number_of_rule}
use Rattle.use_nodes.specs.declared.parts.Select.{Select}
use Rattle.use_nodes.specs.declared.parts.Select.TheVariants as s
use Rattle.use_nodes.specs.Depth.{depth, nests, one_more_if}
use Rattle.use_nodes.specs.Nodes.{EachNode, is_node, is_rule, is_token, next_to}
use Rattle.use_nodes.specs.Typed.{Fact, HasItsSorts, IsTyped, are_all, are_so, facts, is_if_there, is_one_of, is_so, is_there}
use Rattle.use_nodes.proofs.Sure.{or_map}
use Rattle.ocl_syntax.specs.InTexts.{expression_rules, is_expression}

-- ---- lists

pub every_left : {X : Type 0} (P : X → Type 0) (xs ys : List X) → AllByRecursion P (xs ++ ys) → AllByRecursion P xs
every_left P [] ys h = tt
every_left P (x ∷ xs) ys h = (h.0, every_left P xs ys h.1)

pub every_right : {X : Type 0} (P : X → Type 0) (xs ys : List X) → AllByRecursion P (xs ++ ys) → AllByRecursion P ys
every_right P [] ys h = h
every_right P (x ∷ xs) ys h = every_right P xs ys h.1

pub every_weaker : {X : Type 0} (P Q : X → Type 0) → ((x : X) → P x → Q x) → (xs : List X) → AllByRecursion P xs → AllByRecursion Q xs
every_weaker P Q f [] h = tt
every_weaker P Q f (x ∷ xs) h = (f x h.0, every_weaker P Q f xs h.1)

module _ (P : ParseTree → Type 0) where
  pub held_at : (xs : List ParseTree) → AllByRecursion P xs → (i : ℕ) (x : ParseTree) → slice_get xs i ≡ Some x → P x
  held_at [] h i x e = absurd (cc)
  held_at (y ∷ xs) h zero x e = let same : y ≡ x = cc in subst P same h.0
  held_at (y ∷ xs) h (suc i) x e = held_at xs h.1 i x e

  pub held_next : (kind : TokenKind) (xs : List ParseTree) → AllByRecursion P xs → (x : ParseTree) → next_to kind xs ≡ Some x → P x
  held_next kind [] h x e = absurd (cc)
  held_next kind (y ∷ xs) h x e = here (is_token kind y) e (held_next kind xs h.1 x)
    where
      here : (b : Bool) → (if b then slice_get xs 0 else next_to kind xs) ≡ Some x → (next_to kind xs ≡ Some x → P x) → P x
      here true k later = held_at xs h.1 0 x k
      here false k later = later k

  pub held_sought : (f : ParseTree → Bool) (xs : List ParseTree) → AllByRecursion P xs → AllByRecursion P (filter f xs)
  held_sought f [] h = tt
  held_sought f (x ∷ xs) h = here (f x) (held_sought f xs h.1)
    where
      here : (b : Bool) → AllByRecursion P (filter f xs) → AllByRecursion P (if b then x ∷ filter f xs else filter f xs)
      here true later = (h.0, later)
      here false later = later

pub sought_pass : (f : ParseTree → Bool) (xs : List ParseTree) → AllByRecursion (λ x. f x ≡ true) (filter f xs)
sought_pass f [] = tt
sought_pass f (x ∷ xs) = here (f x) refl (sought_pass f xs)
  where
    here : (b : Bool) → f x ≡ b → AllByRecursion (λ y. f y ≡ true) (filter f xs) → AllByRecursion (λ y. f y ≡ true) (if b then x ∷ filter f xs else filter f xs)
    here true e later = (e, later)
    here false e later = later

pub every_both : (P Q : ParseTree → Type 0) (xs : List ParseTree) → AllByRecursion P xs → AllByRecursion Q xs → AllByRecursion (λ x. P x × Q x) xs
every_both P Q [] h k = tt
every_both P Q (x ∷ xs) h k = ((h.0, k.0), every_both P Q xs h.1 k.1)

-- ---- sorts of trees

and_left : (a b : Bool) → (a && b) ≡ true → a ≡ true
and_left true b e = refl
and_left false b e = absurd (cc)

and_right : (a b : Bool) → (a && b) ≡ true → b ≡ true
and_right true b e = e
and_right false b e = absurd (cc)

-- sorts of tokens alone
abbrev pub are_tokens : List Select → Bool
are_tokens [] = true
are_tokens (s.Token kind ∷ more) = are_tokens more
are_tokens (x ∷ more) = false

pub token_of : (sorts : List Select) (t : ParseTree) → are_tokens sorts ≡ true → is_one_of sorts t ≡ true → is_node t ≡ false
token_of sorts (leaf k at) h e = refl
token_of [] (node q row) h e = absurd (cc)
token_of (s.Token kind ∷ more) (node q row) h e = token_of more (node q row) h e
token_of (s.Rule rule ∷ more) (node q row) h e = absurd (cc)
token_of (s.Rules ∷ more) (node q row) h e = absurd (cc)
token_of (s.Steps ∷ more) (node q row) h e = absurd (cc)
token_of (s.Tokens ∷ more) (node q row) h e = absurd (cc)
token_of (s.Except kind ∷ more) (node q row) h e = absurd (cc)

-- the number of a rule among those of others
abbrev is_among : ℕ → List Rule → Bool
is_among n [] = false
is_among n (rule ∷ rules) = (n == number_of_rule rule) || is_among n rules

-- sorts of nodes of these rules alone
abbrev pub are_among : List Rule → List Select → Bool
are_among rules [] = true
are_among rules (s.Rule rule ∷ more) = is_among (number_of_rule rule) rules && are_among rules more
are_among rules (x ∷ more) = false

same_number : (n m : ℕ) → (n == m) ≡ true → n ≡ m
same_number n m e = grind (arith, nat_tests)

or_first : (a b : Bool) → a ≡ true → (a || b) ≡ true
or_first true b e = refl
or_first false b e = absurd (cc)

or_second : (a b : Bool) → b ≡ true → (a || b) ≡ true
or_second true b e = refl
or_second false b e = e

one_among : (n : ℕ) (rules : List Rule) (t : ParseTree) → is_among n rules ≡ true → ((rule : Rule) → n ≡ number_of_rule rule → is_rule rule t ≡ true)
    → is_one_of (map s.Rule rules) t ≡ true
one_among n [] t h f = absurd (cc)
one_among n (rule ∷ rules) t h f =
    or_map (n == number_of_rule rule) (is_among n rules)
    (λ e. or_first (is_rule rule t) (is_one_of (map s.Rule rules) t) (f rule (same_number n (number_of_rule rule) e)))
    (λ e. or_second (is_rule rule t) (is_one_of (map s.Rule rules) t) (one_among n rules t e f)) h

rule_by_number : (rule other : Rule) (t : ParseTree) → is_rule rule t ≡ true → number_of_rule rule ≡ number_of_rule other → is_rule other t ≡ true
rule_by_number rule other (leaf k at) h e = absurd (cc)
rule_by_number rule other (node n row) h e = subst (λ (m : ℕ). (n == m) ≡ true) e h

pub among_of : (rules : List Rule) (sorts : List Select) (t : ParseTree) → are_among rules sorts ≡ true → is_one_of sorts t ≡ true
    → is_one_of (map s.Rule rules) t ≡ true
among_of rules [] t h e = absurd (cc)
among_of rules (s.Rule rule ∷ more) t h e =
    or_map (is_rule rule t) (is_one_of more t)
    (λ is. one_among (number_of_rule rule) rules t (and_left (is_among (number_of_rule rule) rules) (are_among rules more) h)
    (λ other same. rule_by_number rule other t is same))
    (λ later. among_of rules more t (and_right (is_among (number_of_rule rule) rules) (are_among rules more) h) later) e
among_of rules (s.Rules ∷ more) t h e = absurd (cc)
among_of rules (s.Steps ∷ more) t h e = absurd (cc)
among_of rules (s.Token kind ∷ more) t h e = absurd (cc)
among_of rules (s.Tokens ∷ more) t h e = absurd (cc)
among_of rules (s.Except kind ∷ more) t h e = absurd (cc)

-- an expression
pub expression_sort : (sorts : List Select) (t : ParseTree) → are_among expression_rules sorts ≡ true → is_one_of sorts t ≡ true → is_expression t ≡ true
expression_sort sorts t h e = among_of expression_rules sorts t h e

-- of one rule
pub rule_sort : (rule : Rule) (t : ParseTree) → is_one_of (s.Rule rule ∷ []) t ≡ true → is_rule rule t ≡ true
rule_sort rule t e = or_map (is_rule rule t) false (λ is. is) (λ none. absurd (cc)) e

pub as_sort : (rule : Rule) (t : ParseTree) → is_rule rule t ≡ true → is_one_of (s.Rule rule ∷ []) t ≡ true
as_sort rule t e = or_first (is_rule rule t) false e

-- ---- facts

pub first_fact : (fact : Fact) (more : List Fact) (t : ParseTree) → are_so (fact ∷ more) t ≡ true → is_so fact t ≡ true
first_fact fact more t e = and_left (is_so fact t) (are_so more t) e

pub more_facts : (fact : Fact) (more : List Fact) (t : ParseTree) → are_so (fact ∷ more) t ≡ true → are_so more t ≡ true
more_facts fact more t e = and_right (is_so fact t) (are_so more t) e

-- a part that is there
pub record IsThere (sorts : List Select) (o : Option ParseTree) : Type 0 where
  pub tree : ParseTree
  pub there : o ≡ Some tree
  pub sort : is_one_of sorts tree ≡ true

pub it_is_there : (sorts : List Select) (o : Option ParseTree) → is_there sorts o ≡ true → IsThere sorts o
it_is_there sorts None e = absurd (cc)
it_is_there sorts (Some t) e = record { tree = t; there = refl; sort = e }

pub if_it_is_there : (sorts : List Select) (o : Option ParseTree) (t : ParseTree) → is_if_there sorts o ≡ true → o ≡ Some t → is_one_of sorts t ≡ true
if_it_is_there sorts None t e h = absurd (cc)
if_it_is_there sorts (Some x) t e h = let same : x ≡ t = cc in subst (λ (y : ParseTree). is_one_of sorts y ≡ true) same e

pub each_is : (sorts : List Select) (xs : List ParseTree) → are_all sorts xs ≡ true → AllByRecursion (λ t. is_one_of sorts t ≡ true) xs
each_is sorts [] e = tt
each_is sorts (t ∷ ts) e = (and_left (is_one_of sorts t) (are_all sorts ts) e, each_is sorts ts (and_right (is_one_of sorts t) (are_all sorts ts) e))

-- ---- trees

-- the token that a leaf is
pub record IsLeafOf (ts : List Token) (label : ℕ × ℕ) : Type 0 where
  pub token : Token
  pub there : slice_get ts label.1 ≡ Some token
  pub kind : token.kind ≡ label.0

-- how many nodes that nest stand one in another inside a tree
abbrev pub depth_inside : ParseTree → ℕ
depth_inside (leaf k at) = 0
depth_inside (node q row) = depth row

abbrev pub depth_of : ParseTree → ℕ
depth_of t = depth (onto t Row.none)

pub one_more_or_less : (b : Bool) (n : ℕ) → n ≤ one_more_if b n
one_more_or_less true n = omega arith
one_more_or_less false n = omega arith

pub inside_below : (t : ParseTree) → depth_inside t ≤ depth_of t
inside_below (leaf k at) = omega arith
inside_below (node q row) =
    let m = one_more_or_less (nests (node q row)) (depth row) in
    let l = le-max_left (one_more_if (nests (node q row)) (depth row)) 0 in
    omega (arith, m, l)

-- what nests is one deeper than what is inside
pub nests_deeper : (t : ParseTree) → nests t ≡ true → suc (depth_inside t) ≤ depth_of t
nests_deeper (leaf k at) e = absurd (cc)
nests_deeper (node q row) e =
    let l = le-max_left (one_more_if (nests (node q row)) (depth row)) 0 in
    let one : one_more_if (nests (node q row)) (depth row) ≡ suc (depth row) = ap (λ (b : Bool). one_more_if b (depth row)) e in
    omega (arith, l, one)

module _ (ts : List Token) where
  pub record IsRead (t : ParseTree) : Type 0 where
    pub typed : IsTyped t
    pub tokens : AllByRecursion (IsLeafOf ts) (leaves t)

  -- a tree of at most such a depth
  pub record IsReadWithin (n : ℕ) (t : ParseTree) : Type 0 where
    pub read : IsRead t
    pub within : depth_of t ≤ n

  pub deeper_within : (m n : ℕ) → m ≤ n → (t : ParseTree) → IsReadWithin m t → IsReadWithin n t
  deeper_within m n low t h = let w = h.within in record { read = h.read; within = omega (arith, low, w) }

  max_alone : (a n : ℕ) → a ≤ n → max a 0 ≤ n
  max_alone a n h = max-le h (omega arith)

  row_parts : (row : Row) (n : ℕ) → EachNode HasItsSorts row → AllByRecursion (IsLeafOf ts) (row_leaves row) → depth row ≤ n
      → AllByRecursion (IsReadWithin n) (trees_of row)
  row_parts Row.none n h k low = tt
  row_parts (Row.token kind at row) n h k low =
      (record { read = record { typed = tt; tokens = (k.0, tt) }; within = omega arith }, row_parts row n h k.1 low)
  row_parts (Row.rule q below row) n h k low =
      let one = one_more_if (nests (node q below)) (depth below) in
      let l = le-max_left one (depth row) in
      let r = le-max_right one (depth row) in (
        record {
          read = record { typed = (h.0, h.1, tt); tokens = every_left (IsLeafOf ts) (row_leaves below) (row_leaves row) k };
          within = max_alone one n (omega (arith, l, low));
        },
        row_parts row n h.2 (every_right (IsLeafOf ts) (row_leaves below) (row_leaves row) k) (omega (arith, r, low)),
      )

  -- the trees right below one
  pub parts_read : (t : ParseTree) → IsRead t → AllByRecursion (IsReadWithin (depth_inside t)) (below t)
  parts_read (leaf k at) h = tt
  parts_read (node q row) h = row_parts row (depth row) h.typed.1 h.tokens (omega arith)

  pub parts_within : (n : ℕ) (t : ParseTree) → IsRead t → depth_inside t ≤ n → AllByRecursion (IsReadWithin n) (below t)
  parts_within n t h low =
      every_weaker (IsReadWithin (depth_inside t)) (IsReadWithin n) (deeper_within (depth_inside t) n low) (below t) (parts_read t h)

  pub facts_there : (rule : Rule) (t : ParseTree) → IsRead t → is_rule rule t ≡ true → are_so (facts rule) t ≡ true
  facts_there rule (leaf k at) h e = absurd (cc)
  facts_there rule (node q row) h e = h.typed.0.facts rule e
