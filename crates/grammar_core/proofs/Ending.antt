-- Rules that are ended one after the other.
use Rattle.std.proofs.Common.{◌≡◌, [], ◌∷◌, ◌++◌, ℕ, List, Option, Some, None, arith, refl, ◌∙◌, slice_get, true}
use Rattle.grammar_core.specs.declared.table.Table.{Table}
use Rattle.grammar_core.specs.declared.table.Prod.{Prod}
use Rattle.grammar_core.specs.declared.table.Prod.TheVariants.{Tok, Call, Seq, Case, Star}
use Rattle.grammar_core.specs.Repetitions.{is_star}
use Rattle.grammar_core.specs.Unfit.{IsFit}
use Rattle.grammar_core.specs.declared.machine.Task.{Task}
use Rattle.grammar_core.specs.declared.machine.Task.TheVariants.{Close, Repeat}
use Rattle.grammar_core.specs.Trees.{ParseTree}
use Rattle.grammar_core.specs.Arena.{closed}
use Rattle.grammar_core.specs.Answers.{then_at}
use Rattle.grammar_core.specs.Tasks.{tasks, task, AreTasks, Counted, Ended, Ends, IsStar}
use Rattle.grammar_core.proofs.Stack.{one_step, repeat_ends}

-- at first nothing was ended
pub none_ended : (g : Table) (ks : List ℕ) (ts : List Task) (at : ℕ) (trees : List ParseTree) → AreTasks g ts → Ended g ks ts ts at trees trees
none_ended g ks ts at trees all = record { same = refl; steps = omega arith; all = all }

-- one more
pub one_ended : (g : Table) (ks : List ℕ) (old stack rest : List Task) (t : Task) (at : ℕ) (before now after : List ParseTree) → Ended g ks old stack at before now
    → stack ≡ rest ++ (t ∷ []) → AreTasks g rest → Counted g ks rest at after (then_at (task g ks t at now 0) (λ to more m. tasks g ks rest to more m))
    → Ended g ks old rest at before after
one_ended g ks old stack rest t at before now after e s all c =
    let o = one_step g ks stack rest rest t at at now after s c in
    record { same = o.0 ∙ e.same; steps = omega (arith, o.1, e.steps); all = all }

-- the end of a rule
pub close_counted : (g : Table) (ks : List ℕ) (rest : List Task) (r start at : ℕ) (now after : List ParseTree) → after ≡ closed r start now
    → Counted g ks rest at after (then_at (task g ks (Close r start) at now 0) (λ to more m. tasks g ks rest to more m))
close_counted g ks rest r start at now after e = rw e (record { more = 0; same = refl })

module _ (g : Table) (fit : IsFit g) (ks : List ℕ) (rest : List Task) (p level r start at : ℕ) (now after : List ParseTree) (all : AreTasks g rest)
    (e : after ≡ closed r start now) where
  abbrev Found : Option Prod → Type 0
  Found x = slice_get g.prods p ≡ x → is_star x ≡ true → Ends g ks p at
      → Counted g ks rest at after (then_at (task g ks (Repeat p level r start) at now 0) (λ to more m. tasks g ks rest to more m))

  found : (x : Option Prod) → Found x
  found None is star ends = absurd (cc)
  found (Some (Tok k)) is star ends = absurd (cc)
  found (Some (Call q)) is star ends = absurd (cc)
  found (Some (Seq ps)) is star ends = absurd (cc)
  found (Some (Case bs other)) is star ends = absurd (cc)
  found (Some (Star firsts q)) is star ends =
      (repeat_ends g fit ks rest rest p level r start at now after firsts q is all (ends firsts q is) refl e).0

  -- the end of a rule whose last part is a repetition that goes on no more
  pub repeat_counted : IsStar g p → Ends g ks p at
      → Counted g ks rest at after (then_at (task g ks (Repeat p level r start) at now 0) (λ to more m. tasks g ks rest to more m))
  repeat_counted star ends = found (slice_get g.prods p) refl star ends
