-- What is known of every row that a production gives, whatever sort of knowledge it is: it is put together from what is known
-- of a token, of a rule, of rows in turn, of either of two rows and of repeated rows.
use Rattle.std.proofs.Common.{ℕ, zero, suc, List, [], ◌∷◌, ◌++◌, Option, Some, None, slice_get, subst, sym, ⊎_elim}
use Rattle.grammar_core.specs.declared.table.Table.{Table}
use Rattle.grammar_core.specs.declared.table.Prod.{Prod}
use Rattle.grammar_core.specs.declared.table.Prod.TheVariants.{Tok, Call, Seq, Case, Star}
use Rattle.grammar_core.specs.Paths.{IsIn}
use Rattle.grammar_core.specs.Tables.{choices}
use Rattle.grammar_core.specs.Trees.{ParseTree, leaf, node, Row, row_of}
use Rattle.grammar_core.specs.Derives.{Outcome, before, below_rule, Stops, Gives, GivesProd, GivesAll, GivesTimes}
use Rattle.grammar_core.proofs.Fits.{branch_in}

-- the ways to put knowledge together, with that each is sound
pub record Way (D : Type 0) (IsTrueOf : D → List ParseTree → Type 0) : Type 0 where
  pub of_token : ℕ → D
  pub of_rule : ℕ → D
  pub of_none : D
  pub nothing : D
  pub in_turn : D → D → D
  pub either : D → D → D
  pub often : D → D
  pub token_true : (k at : ℕ) → IsTrueOf (of_token k) (leaf k at ∷ [])
  pub rule_true : (r : ℕ) (row : Row) → IsTrueOf (of_rule r) (node r row ∷ [])
  pub none_true : IsTrueOf of_none []
  pub nothing_true : (ts : List ParseTree) → IsTrueOf nothing ts
  pub turn_true : (d e : D) (ts us : List ParseTree) → IsTrueOf d ts → IsTrueOf e us → IsTrueOf (in_turn d e) (ts ++ us)
  pub left_true : (d e : D) (ts : List ParseTree) → IsTrueOf d ts → IsTrueOf (either d e) ts
  pub right_true : (d e : D) (ts : List ParseTree) → IsTrueOf e ts → IsTrueOf (either d e) ts
  pub never_true : (d : D) → IsTrueOf (often d) []
  pub often_true : (d : D) (ts us : List ParseTree) → IsTrueOf d ts → IsTrueOf (often d) us → IsTrueOf (often d) (ts ++ us)

module _ (D : Type 0) (IsTrueOf : D → List ParseTree → Type 0) (way : Way D IsTrueOf) (g : Table) where
  abbrev pub all_in_turn : (ℕ → D) → List ℕ → D
  all_in_turn one [] = way.of_none
  all_in_turn one (p ∷ ps) = way.in_turn (one p) (all_in_turn one ps)

  -- of whichever branch. Where there is none, no row is given
  abbrev pub any_of : (ℕ → D) → List ℕ → D
  any_of one [] = way.nothing
  any_of one (q ∷ []) = one q
  any_of one (q ∷ r ∷ qs) = way.either (one q) (any_of one (r ∷ qs))

  -- where `one` is known of others
  abbrev pub of_prod : (ℕ → D) → Option Prod → D
  of_prod one None = way.nothing
  of_prod one (Some (Tok k)) = way.of_token k
  of_prod one (Some (Call r)) = way.of_rule r
  of_prod one (Some (Seq ps)) = all_in_turn one ps
  of_prod one (Some (Case bs other)) = any_of one (choices bs other)
  of_prod one (Some (Star firsts q)) = way.often (one q)

  -- of a production, with at most so many others inside each other
  abbrev pub known_at : ℕ → ℕ → D
  known_at zero p = way.nothing
  known_at (suc n) p = of_prod (λ q. known_at n q) (slice_get g.prods p)

  abbrev IsTrueOfAll : D → Outcome → Type 0
  IsTrueOfAll d (Outcome.ends to trees) = IsTrueOf d trees
  IsTrueOfAll d (Outcome.stuck at) = Unit {0}
  IsTrueOfAll d (Outcome.deep at) = Unit {0}

  then_known : (d e : D) (trees : List ParseTree) (a : Outcome) → IsTrueOf d trees → IsTrueOfAll e a → IsTrueOfAll (way.in_turn d e) (before trees a)
  then_known d e trees (Outcome.ends to more) h k = way.turn_true d e trees more h k
  then_known d e trees (Outcome.stuck at) h k = tt
  then_known d e trees (Outcome.deep at) h k = tt

  more_known : (d : D) (trees : List ParseTree) (a : Outcome) → IsTrueOf d trees → IsTrueOfAll (way.often d) a → IsTrueOfAll (way.often d) (before trees a)
  more_known d trees (Outcome.ends to more) h k = way.often_true d trees more h k
  more_known d trees (Outcome.stuck at) h k = tt
  more_known d trees (Outcome.deep at) h k = tt

  stop_known : (d : D) (a : Outcome) → Stops a → IsTrueOfAll d a
  stop_known d (Outcome.ends to trees) s = absurd s
  stop_known d (Outcome.stuck at) s = tt
  stop_known d (Outcome.deep at) s = tt

  branch_known : (one : ℕ → D) (qs : List ℕ) (q : ℕ) → IsIn q qs → (ts : List ParseTree) → IsTrueOf (one q) ts → IsTrueOf (any_of one qs) ts
  branch_known one [] q i ts h = absurd i
  branch_known one (x ∷ []) q i ts h = ⊎_elim (λ same. subst (λ (n : ℕ). IsTrueOf (one n) ts) same h) (λ none. absurd none) i
  branch_known one (x ∷ y ∷ xs) q i ts h =
      ⊎_elim
      (λ same. way.left_true (one x) (any_of one (y ∷ xs)) ts (subst (λ (n : ℕ). IsTrueOf (one n) ts) same h))
      (λ later. way.right_true (one x) (any_of one (y ∷ xs)) ts (branch_known one (y ∷ xs) q later ts h)) i

  chosen_known : (one : ℕ → D) (qs : List ℕ) (q : ℕ) → IsIn q qs → (a : Outcome) → IsTrueOfAll (one q) a → IsTrueOfAll (any_of one qs) a
  chosen_known one qs q i (Outcome.ends to trees) h = branch_known one qs q i trees h
  chosen_known one qs q i (Outcome.stuck at) h = tt
  chosen_known one qs q i (Outcome.deep at) h = tt

  below_known : (r : ℕ) (a : Outcome) → IsTrueOfAll (way.of_rule r) (below_rule r a)
  below_known r (Outcome.ends to trees) = way.rule_true r (row_of trees)
  below_known r (Outcome.stuck at) = tt
  below_known r (Outcome.deep at) = tt

  module _ (ks : List ℕ) where
    module _ (one : ℕ → D) (sound : (q level at : ℕ) (a : Outcome) → Gives g ks q level at a → IsTrueOfAll (one q) a) where
      all_known : (ps : List ℕ) (level at : ℕ) (a : Outcome) → GivesAll g ks ps level at a → IsTrueOfAll (all_in_turn one ps) a
      all_known _ _ _ _ (GivesAll.all_done level at) = way.none_true
      all_known _ _ _ _ (GivesAll.then p ps level at to trees a of all) =
          then_known (one p) (all_in_turn one ps) trees a (sound p level at (Outcome.ends to trees) of) (all_known ps level to a all)
      all_known _ _ _ _ (GivesAll.stop p ps level at a of s) = stop_known (all_in_turn one (p ∷ ps)) a s

      times_known : (firsts : List ℕ) (q level at : ℕ) (a : Outcome) → GivesTimes g ks firsts q level at a → IsTrueOfAll (way.often (one q)) a
      times_known _ _ _ _ _ (GivesTimes.no_more firsts q level at e) = way.never_true (one q)
      times_known _ _ _ _ _ (GivesTimes.once_more firsts q level at to trees a e of all) =
          more_known (one q) trees a (sound q level at (Outcome.ends to trees) of) (times_known firsts q level to a all)
      times_known _ _ _ _ _ (GivesTimes.stop_in firsts q level at a e of s) = stop_known (way.often (one q)) a s

      prod_known : (x : Prod) (level at : ℕ) (a : Outcome) → GivesProd g ks x level at a → IsTrueOfAll (of_prod one (Some x)) a
      prod_known _ _ _ _ (GivesProd.token k level at e) = way.token_true k at
      prod_known _ _ _ _ (GivesProd.no_token k level at e) = tt
      prod_known _ _ _ _ (GivesProd.rule r rule level inner at a e f of) = below_known r a
      prod_known _ _ _ _ (GivesProd.too_deep r rule level at e f) = tt
      prod_known _ _ _ _ (GivesProd.parts ps level at a all) = all_known ps level at a all
      prod_known _ _ _ _ (GivesProd.branch bs other q level at a e of) =
          chosen_known one (choices bs other) q (branch_in ks at q bs other e) a (sound q level at a of)
      prod_known _ _ _ _ (GivesProd.no_branch bs other level at e) = tt
      prod_known _ _ _ _ (GivesProd.times firsts q level at a all) = times_known firsts q level at a all

      here_known : (p level at : ℕ) (a : Outcome) → Gives g ks p level at a → IsTrueOfAll (of_prod one (slice_get g.prods p)) a
      here_known _ _ _ _ (Gives.production p level at x a e of) =
          subst (λ (o : Option Prod). IsTrueOfAll (of_prod one o) a) (sym e) (prod_known x level at a of)

    known_sound : (n p level at : ℕ) (a : Outcome) → Gives g ks p level at a → IsTrueOfAll (known_at n p) a
    known_sound zero p level at (Outcome.ends to trees) of = way.nothing_true trees
    known_sound zero p level at (Outcome.stuck x) of = tt
    known_sound zero p level at (Outcome.deep x) of = tt
    known_sound (suc n) p level at a of = here_known (λ q. known_at n q) (λ q. known_sound n q) p level at a of

    -- what is known is true of each row that is given
    pub is_known : (n p level at to : ℕ) (trees : List ParseTree) → Gives g ks p level at (Outcome.ends to trees) → IsTrueOf (known_at n p) trees
    is_known n p level at to trees of = known_sound n p level at (Outcome.ends to trees) of
