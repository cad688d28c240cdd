-- What a production derives, where it is stuck and where it is too deep: one relation, by cases on the production.
use Rattle.std.specs.Prelude.{◌≡◌, ◌≢◌, ℕ, ◌+◌, ◌==◌, Bool, true, false, if◌then◌else◌, nat_lt, List, [], ◌∷◌, ◌++◌, length, map, Option, Some, None, slice_get}
use Rattle.use_text.specs.declared.token.Token.{Token}
use Rattle.grammar_core.specs.declared.table.Table.{Table}
use Rattle.grammar_core.specs.declared.table.Branch.{Branch}
use Rattle.grammar_core.specs.declared.table.Rule.{Rule}
use Rattle.grammar_core.specs.declared.table.Prod.{Prod}
use Rattle.grammar_core.specs.declared.table.Prod.TheVariants.{Tok, Call, Seq, Case, Star}
use Rattle.grammar_core.specs.Tables.{rule_at}
use Rattle.grammar_core.specs.Trees.{ParseTree, leaf, node, row_of}

-- the kinds of tokens
abbrev pub kinds : List Token → List ℕ
kinds tokens = map (λ t. t.kind) tokens

abbrev pub is_kind : Option ℕ → ℕ → Bool
is_kind None kind = false
is_kind (Some k) kind = k == kind

-- the next token is of this kind. Past the end no token is
abbrev pub next_is : List ℕ → ℕ → ℕ → Bool
next_is ks at kind = is_kind (slice_get ks at) kind

-- the next token is of one of these kinds
abbrev pub begins : List ℕ → ℕ → List ℕ → Bool
begins ks at [] = false
begins ks at (kind ∷ more) = if next_is ks at kind then true else begins ks at more

-- the production of the first branch that lists the next token, or else the other one
abbrev pub branch_of : List ℕ → ℕ → List Branch → Option ℕ → Option ℕ
branch_of ks at [] other = other
branch_of ks at (b ∷ bs) other = if begins ks at b.firsts then Some b.to else branch_of ks at bs other

-- the most rules that nest that may be open
abbrev pub max_level : ℕ
max_level = 200

-- the level inside a rule, if there is one
abbrev pub level_in : Rule → ℕ → Option ℕ
level_in rule level = if rule.nests then (if nat_lt level max_level then Some (level + 1) else None) else Some level

-- A front was derived, up to a place and with these trees; or the place of the token that no branch allows, or at which a rule would nest too deep.
pub data Outcome : Type 0 where
  ends : ℕ → List ParseTree → Outcome
  stuck : ℕ → Outcome
  deep : ℕ → Outcome

-- nothing more is derived
abbrev pub Stops : Outcome → Type 0
Stops (Outcome.ends to trees) = ⊥
Stops (Outcome.stuck at) = Unit {0}
Stops (Outcome.deep at) = Unit {0}

-- with these trees before its own
abbrev pub before : List ParseTree → Outcome → Outcome
before trees (Outcome.ends to more) = Outcome.ends to (trees ++ more)
before trees (Outcome.stuck at) = Outcome.stuck at
before trees (Outcome.deep at) = Outcome.deep at

-- its trees below a rule
abbrev pub below_rule : ℕ → Outcome → Outcome
below_rule r (Outcome.ends to trees) = Outcome.ends to (node r (row_of trees) ∷ [])
below_rule r (Outcome.stuck at) = Outcome.stuck at
below_rule r (Outcome.deep at) = Outcome.deep at

-- over the kinds of the tokens: a production, a level of nesting and a place give an outcome
mutual
  -- the production of this number
  pub data Gives (g : Table) (ks : List ℕ) : ℕ → ℕ → ℕ → Outcome → Type 0 where
    production : (p level at : ℕ) (x : Prod) (a : Outcome) → slice_get g.prods p ≡ Some x → GivesProd g ks x level at a → Gives g ks p level at a

  pub data GivesProd (g : Table) (ks : List ℕ) : Prod → ℕ → ℕ → Outcome → Type 0 where
    token : (k level at : ℕ) → next_is ks at k ≡ true → GivesProd g ks (Tok k) level at (Outcome.ends (at + 1) (leaf k at ∷ []))
    no_token : (k level at : ℕ) → next_is ks at k ≡ false → GivesProd g ks (Tok k) level at (Outcome.stuck at)
    rule : (r : ℕ) (rule : Rule) (level inner at : ℕ) (a : Outcome) → rule_at g r ≡ Some rule → level_in rule level ≡ Some inner
        → Gives g ks rule.to inner at a → GivesProd g ks (Call r) level at (below_rule r a)
    too_deep : (r : ℕ) (rule : Rule) (level at : ℕ) → rule_at g r ≡ Some rule → level_in rule level ≡ None → GivesProd g ks (Call r) level at (Outcome.deep at)
    parts : (ps : List ℕ) (level at : ℕ) (a : Outcome) → GivesAll g ks ps level at a → GivesProd g ks (Seq ps) level at a
    branch : (bs : List Branch) (other : Option ℕ) (q level at : ℕ) (a : Outcome) → branch_of ks at bs other ≡ Some q → Gives g ks q level at a
        → GivesProd g ks (Case bs other) level at a
    no_branch : (bs : List Branch) (other : Option ℕ) (level at : ℕ) → branch_of ks at bs other ≡ None
        → GivesProd g ks (Case bs other) level at (Outcome.stuck at)
    times : (firsts : List ℕ) (q level at : ℕ) (a : Outcome) → GivesTimes g ks firsts q level at a → GivesProd g ks (Star firsts q) level at a

  -- each production in turn
  pub data GivesAll (g : Table) (ks : List ℕ) : List ℕ → ℕ → ℕ → Outcome → Type 0 where
    all_done : (level at : ℕ) → GivesAll g ks [] level at (Outcome.ends at [])
    then : (p : ℕ) (ps : List ℕ) (level at to : ℕ) (trees : List ParseTree) (a : Outcome) → Gives g ks p level at (Outcome.ends to trees)
        → GivesAll g ks ps level to a → GivesAll g ks (p ∷ ps) level at (before trees a)
    stop : (p : ℕ) (ps : List ℕ) (level at : ℕ) (a : Outcome) → Gives g ks p level at a → Stops a → GivesAll g ks (p ∷ ps) level at a

  -- a production as often as the next token is of one of these kinds
  pub data GivesTimes (g : Table) (ks : List ℕ) : List ℕ → ℕ → ℕ → ℕ → Outcome → Type 0 where
    no_more : (firsts : List ℕ) (q level at : ℕ) → begins ks at firsts ≡ false → GivesTimes g ks firsts q level at (Outcome.ends at [])
    once_more : (firsts : List ℕ) (q level at to : ℕ) (trees : List ParseTree) (a : Outcome) → begins ks at firsts ≡ true
        → Gives g ks q level at (Outcome.ends to trees) → GivesTimes g ks firsts q level to a → GivesTimes g ks firsts q level at (before trees a)
    stop_in : (firsts : List ℕ) (q level at : ℕ) (a : Outcome) → begins ks at firsts ≡ true → Gives g ks q level at a → Stops a
        → GivesTimes g ks firsts q level at a

-- the rule r derives the whole list, with this tree
abbrev pub Derives : Table → List ℕ → ℕ → ParseTree → Type 0
Derives g ks r tree = GivesProd g ks (Call r) 0 0 (Outcome.ends (length ks) (tree ∷ []))

-- no branch allows the token at this place
pub data Stuck (g : Table) (ks : List ℕ) (r : ℕ) : ℕ → Type 0 where
  inside : (at : ℕ) → GivesProd g ks (Call r) 0 0 (Outcome.stuck at) → Stuck g ks r at
  -- the rule derives a proper front, which ends here
  behind : (at : ℕ) (trees : List ParseTree) → GivesProd g ks (Call r) 0 0 (Outcome.ends at trees) → at ≢ length ks → Stuck g ks r at

-- a rule that nests would be one too many at this place
abbrev pub Deep : Table → List ℕ → ℕ → ℕ → Type 0
Deep g ks r at = GivesProd g ks (Call r) 0 0 (Outcome.deep at)

-- what comes of a whole list
pub data Verdict : Type 0 where
  derived : ParseTree → Verdict
  stuck : ℕ → Verdict
  deep : ℕ → Verdict

abbrev pub Holds : Table → List ℕ → ℕ → Verdict → Type 0
Holds g ks r (Verdict.derived tree) = Derives g ks r tree
Holds g ks r (Verdict.stuck at) = Stuck g ks r at
Holds g ks r (Verdict.deep at) = Deep g ks r at

-- exactly one of the three holds, for one tree or one place
pub record HoldsOnce (g : Table) (ks : List ℕ) (r : ℕ) : Type 0 where
  pub it : Verdict
  pub holds : Holds g ks r it
  pub only : (v : Verdict) → Holds g ks r v → it ≡ v

-- a production gives exactly one outcome
pub record GivesOnce (g : Table) (ks : List ℕ) (p level at : ℕ) : Type 0 where
  pub it : Outcome
  pub gives : Gives g ks p level at it
  pub only : (a : Outcome) → Gives g ks p level at a → it ≡ a
