-- Which productions may derive no token: the least relation, and a table of marks that is filled up to it.
use Rattle.std.specs.Prelude.{◌≡◌, ℕ, Bool, true, false, List, [], ◌∷◌, Option, Some, None, slice_get, if◌then◌else◌}
use Rattle.grammar_core.specs.declared.table.Table.{Table}
use Rattle.grammar_core.specs.declared.table.Branch.{Branch}
use Rattle.grammar_core.specs.declared.table.Prod.{Prod}
use Rattle.grammar_core.specs.declared.table.Prod.TheVariants.{Tok, Call, Seq, Case, Star}
use Rattle.grammar_core.specs.Paths.{IsIn, is_marked}
use Rattle.grammar_core.specs.Tables.{choices}

mutual
  -- the production at a place may derive no token
  pub data MayBeEmpty (g : Table) : ℕ → Type 0 where
    production : (p : ℕ) (x : Prod) → slice_get g.prods p ≡ Some x → IsEmptyProd g x → MayBeEmpty g p

  pub data IsEmptyProd (g : Table) : Prod → Type 0 where
    call : (r q : ℕ) → slice_get g.rules r ≡ Some q → MayBeEmpty g q → IsEmptyProd g (Call r)
    all : (ps : List ℕ) → AllMayBeEmpty g ps → IsEmptyProd g (Seq ps)
    branch : (bs : List Branch) (other : Option ℕ) (q : ℕ) → IsIn q (choices bs other) → MayBeEmpty g q → IsEmptyProd g (Case bs other)
    no_times : (firsts : List ℕ) (q : ℕ) → IsEmptyProd g (Star firsts q)

  pub data AllMayBeEmpty (g : Table) : List ℕ → Type 0 where
    none : AllMayBeEmpty g []
    and : (q : ℕ) (qs : List ℕ) → MayBeEmpty g q → AllMayBeEmpty g qs → AllMayBeEmpty g (q ∷ qs)

abbrev pub is_marked_option : List Bool → Option ℕ → Bool
is_marked_option seen None = false
is_marked_option seen (Some q) = is_marked seen q

abbrev pub all_marked : List Bool → List ℕ → Bool
all_marked seen [] = true
all_marked seen (q ∷ qs) = if is_marked seen q then all_marked seen qs else false

abbrev pub any_marked : List Bool → List ℕ → Bool
any_marked seen [] = false
any_marked seen (q ∷ qs) = if is_marked seen q then true else any_marked seen qs

-- whether a production may derive no token, where those marked may
abbrev pub empty_by : List ℕ → List Bool → Prod → Bool
empty_by rules seen (Tok k) = false
empty_by rules seen (Call r) = is_marked_option seen (slice_get rules r)
empty_by rules seen (Seq ps) = all_marked seen ps
empty_by rules seen (Case bs other) = any_marked seen (choices bs other)
empty_by rules seen (Star firsts q) = true
