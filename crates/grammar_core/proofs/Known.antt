-- In a fit table each production gives something, and only one thing: what is computed.
use Rattle.std.proofs.Common.{◌≡◌, ℕ, ◌+◌, ◌-◌, ◌<◌, Bool, true, false, nat_lt, List, [], ◌∷◌, ◌++◌, length, Option, Some, None, slice_get, zero, suc, refl, sym, ap, ◌∙◌, arith, subst, ⊎_elim, append-nil, ltb-true}
use Rattle.grammar_core.specs.declared.table.Table.{Table}
use Rattle.grammar_core.specs.declared.table.Branch.{Branch}
use Rattle.grammar_core.specs.declared.table.Rule.{Rule}
use Rattle.grammar_core.specs.declared.table.Prod.{Prod}
use Rattle.grammar_core.specs.declared.table.Prod.TheVariants.{Tok, Call, Seq, Case, Star}
use Rattle.grammar_core.specs.Tables.{rule_at}
use Rattle.grammar_core.specs.Trees.{ParseTree, leaf}
use Rattle.grammar_core.specs.Empty.{MayBeEmpty}
use Rattle.grammar_core.specs.Unfit.{IsFit}
use Rattle.grammar_core.specs.Derives.{Outcome, next_is, begins, branch_of, max_level, before, below_rule, level_in, Gives, GivesProd, GivesAll, GivesTimes, GivesOnce}
use Rattle.grammar_core.specs.Answers.{Answer, Reading, in_turn, again, close, of_rule, of_production, answer, most_open, whole, outcome_of}
use Rattle.grammar_core.proofs.Fits.{IsBelow, AllBelow, OtherBelow, NextFits, RuleFits, Fits, branch_below, fits_at, rule_there}
use Rattle.grammar_core.proofs.Same.{height, height_low, below, nested}
use Rattle.grammar_core.proofs.Moves.{Moved, MovedBy, moved}
use Rattle.grammar_core.proofs.Star.{begins_inside, moves_on}
use Rattle.grammar_core.proofs.Complete.{complete, complete_of, then_some, stop_some, before_before, closed_some}

-- what R gives, and f computes
abbrev pub Known : (Outcome → Type 0) → (List ParseTree → ℕ → Answer) → Type 0
Known R f = (a : Outcome) × R a × ((done : List ParseTree) (n : ℕ) → outcome_of (f done n) ≡ Some (before done a))

moved_some : (E : Type 0) (at to : ℕ) (l : List ParseTree) (a : Answer) → outcome_of a ≡ Some (Outcome.ends to l) → MovedBy E at a → Moved E at to
moved_some E at to l (Answer.ends x done n) e m = let same : x ≡ to = cc in subst (λ (y : ℕ). Moved E at y) same m
moved_some E at to l (Answer.stuck x n) e m = (cc)
moved_some E at to l (Answer.deep x n) e m = (cc)
moved_some E at to l (Answer.spent n) e m = (cc)

before_more : (done trees : List ParseTree) (r : Outcome) (z : Option Outcome) → z ≡ Some (before (done ++ trees) r) → z ≡ Some (before done (before trees r))
before_more done trees r z e = e ∙ ap (λ (x : Outcome). Some x) (before_before done trees r)

module _ (g : Table) (ks : List ℕ) (h : ℕ) (p level : ℕ) (known : (q l : ℕ) → q < length g.prods → height g q l < height g p level → (at : ℕ)
    → Known (Gives g ks q l at) (λ done n. answer g ks h q l at done n)) where
  one_known : (q : ℕ) → IsBelow g p q → (at : ℕ) → Known (Gives g ks q level at) (λ done n. answer g ks h q level at done n)
  one_known q b at = known q level b.inside (below g p q level b) at

  abbrev Of : Prod → ℕ → Type 0
  Of x at = Known (GivesProd g ks x level at) (λ done n. of_production g ks (λ q l from so_far m. answer g ks h q l from so_far m) level (Some x) at done n)

  token_known : (k at : ℕ) (v : Bool) → next_is ks at k ≡ v → Of (Tok k) at
  token_known k at true e = (Outcome.ends (at + 1) (leaf k at ∷ []), GivesProd.token k level at e, λ done n. rw e refl)
  token_known k at false e = (Outcome.stuck at, GivesProd.no_token k level at e, λ done n. rw e refl)

  abbrev All : List ℕ → ℕ → Type 0
  All ps at = Known (GivesAll g ks ps level at) (λ done n. in_turn (λ q. answer g ks h q level) ps at done n)

  then_known : (q : ℕ) (qs : List ℕ) (at : ℕ) → ((to : ℕ) → All qs to) → (a : Outcome) → Gives g ks q level at a → ((done : List ParseTree) (n : ℕ)
      → outcome_of (answer g ks h q level at done n) ≡ Some (before done a)) → All (q ∷ qs) at
  then_known q qs at rest (Outcome.ends to trees) gives is =
      let r = rest to in (
        before trees r.0,
        GivesAll.then q qs level at to trees r.0 gives r.1,
        λ done n. then_some (answer g ks h q level at done n) (λ to more m. in_turn
            (λ x. answer g ks h x level) qs to more m) to (done ++ trees) (λ b. outcome_of b ≡ Some (before done (before trees r.0))) (is done n)
            (λ m. before_more done trees r.0 (outcome_of (in_turn (λ x. answer g ks h x level) qs to (done ++ trees) m)) (r.2 (done ++ trees) m)),
      )
  then_known q qs at rest (Outcome.stuck x) gives is = (
    Outcome.stuck x,
    GivesAll.stop q qs level at (Outcome.stuck x) gives tt,
    λ done n. stop_some
        (answer g ks h q level at done n) (λ to more m. in_turn (λ x. answer g ks h x level) qs to more m) (Outcome.stuck x) tt (is done n),
  )
  then_known q qs at rest (Outcome.deep x) gives is = (
    Outcome.deep x,
    GivesAll.stop q qs level at (Outcome.deep x) gives tt,
    λ done n. stop_some
        (answer g ks h q level at done n) (λ to more m. in_turn (λ x. answer g ks h x level) qs to more m) (Outcome.deep x) tt (is done n),
  )

  all_known : (ps : List ℕ) → AllBelow g p ps → (at : ℕ) → All ps at
  all_known [] b at = (Outcome.ends at [], GivesAll.all_done level at, λ done n. ap (λ (l : List ParseTree). Some (Outcome.ends at l)) (sym (append-nil done)))
  all_known (q ∷ qs) b at = let k = one_known q b.0 at in then_known q qs at (all_known qs b.1) k.0 k.1 k.2

  chosen_known : (bs : List Branch) (other : Option ℕ) (at : ℕ) (o : Option ℕ) → branch_of ks at bs other ≡ o → OtherBelow g p o → Of (Case bs other) at
  chosen_known bs other at None e b = (Outcome.stuck at, GivesProd.no_branch bs other level at e, λ done n. rw e refl)
  chosen_known bs other at (Some q) e b = let k = one_known q b at in (k.0, GivesProd.branch bs other q level at k.0 e k.1, λ done n. rw e (k.2 done n))

  abbrev Times : List ℕ → ℕ → ℕ → ℕ → Type 0
  Times firsts q k at = Known (GivesTimes g ks firsts q level at) (λ done n. again ks firsts (λ from so_far m. answer g ks h q level from so_far m) k at done n)

  module _ (firsts : List ℕ) (q : ℕ) (b : IsBelow g p q) (never : MayBeEmpty g q → ⊥) where
    abbrev Rest : ℕ → Type 0
    Rest k = (to : ℕ) → length ks - to < k → Times firsts q k to

    more_known : (k at : ℕ) → length ks - at < suc k → Rest k → begins ks at firsts ≡ true → (a : Outcome) → Gives g ks q level at a
        → ((done : List ParseTree) (n : ℕ) → outcome_of (answer g ks h q level at done n) ≡ Some (before done a)) → Times firsts q (suc k) at
    more_known k at few rest e (Outcome.ends to trees) gives is =
        let further : at < to = moves_on (MayBeEmpty g q) at to never (moved_some (MayBeEmpty g q) at to trees (answer g ks h q level at [] 0) (is [] 0)
        (moved g ks h q level at [] 0)) in
        let inside = begins_inside ks at firsts e in
        let r = rest to (omega (arith, further, inside)) in (
          before trees r.0,
          GivesTimes.once_more firsts q level at to trees r.0 e gives r.1,
          λ done n. rw e (then_some (answer g ks h q level at done n)
              (λ to more m. again ks firsts (λ from so_far i. answer g ks h q level from so_far i) k to more (suc m)) to (done
              ++ trees) (λ b. outcome_of b ≡ Some (before done (before trees r.0))) (is done n) (λ m. before_more done trees r.0 (outcome_of (again ks firsts
              (λ from so_far i. answer g ks h q level from so_far i) k to (done ++ trees) (suc m))) (r.2 (done ++ trees) (suc m)))),
        )
    more_known k at few rest e (Outcome.stuck x) gives is = (
      Outcome.stuck x,
      GivesTimes.stop_in firsts q level at (Outcome.stuck x) e gives tt,
      λ done n. rw e
          (stop_some (answer g ks h q level at done n) (λ to more m. again ks firsts (λ from so_far i. answer g ks h q level from so_far i) k to more (suc m))
          (Outcome.stuck x) tt (is done n)),
    )
    more_known k at few rest e (Outcome.deep x) gives is = (
      Outcome.deep x,
      GivesTimes.stop_in firsts q level at (Outcome.deep x) e gives tt,
      λ done n. rw e
          (stop_some (answer g ks h q level at done n) (λ to more m. again ks firsts (λ from so_far i. answer g ks h q level from so_far i) k to more (suc m))
          (Outcome.deep x) tt (is done n)),
    )

    times_by : (k at : ℕ) → length ks - at < suc k → Rest k → (v : Bool) → begins ks at firsts ≡ v → Times firsts q (suc k) at
    times_by k at few rest true e = let o = one_known q b at in more_known k at few rest e o.0 o.1 o.2
    times_by k at few rest false e = (
      Outcome.ends at [],
      GivesTimes.no_more firsts q level at e,
      λ done n. rw e (ap (λ (l : List ParseTree). Some
          (Outcome.ends at l)) (sym (append-nil done))),
    )

    times_known : (k at : ℕ) → length ks - at < k → Times firsts q k at
    times_known zero at few = absurd (omega arith)
    times_known (suc k) at few = times_by k at few (times_known k) (begins ks at firsts) refl

-- a call, where `one` computes what its rule's production gives
module _ (g : Table) (ks : List ℕ) (one : ℕ → ℕ → Reading) (level : ℕ) (r : ℕ) (rule : Rule) (e : rule_at g r ≡ Some rule) (at : ℕ) where
  abbrev pub OfCall : Type 0
  OfCall = Known (GivesProd g ks (Call r) level at) (λ done n. of_production g ks one level (Some (Call r)) at done n)

  inner_known : (inner : ℕ) → level_in rule level ≡ Some inner → ((done : List ParseTree) (n : ℕ)
      → of_rule one r level (Some rule) at done n ≡ close r done (one rule.to inner at done n))
      → Known (Gives g ks rule.to inner at) (λ done n. one rule.to inner at done n) → OfCall
  inner_known inner f is k = (
    below_rule r k.0,
    GivesProd.rule r rule level inner at k.0 e f k.1,
    λ done n. rw e (ap (λ (z : Answer). outcome_of z) (is done n)
        ∙ closed_some r done (one rule.to inner at done n) k.0 (k.2 done n)),
  )

  pub call_known : (n v : Bool) → rule.nests ≡ n → nat_lt level max_level ≡ v → (n ≡ true → v ≡ true
      → Known (Gives g ks rule.to (level + 1) at) (λ done m. one rule.to (level + 1) at done m)) → (n ≡ false
      → Known (Gives g ks rule.to level at) (λ done m. one rule.to level at done m)) → OfCall
  call_known true true i j nest flat = inner_known (level + 1) (rw (i, j) refl) (λ done n. rw (i, j) refl) (nest refl refl)
  call_known true false i j nest flat = (Outcome.deep at, GivesProd.too_deep r rule level at e (rw (i, j) refl), λ done n. rw (e, i, j) refl)
  call_known false v i j nest flat = inner_known level (rw i refl) (λ done n. rw i refl) (flat refl)

module _ (g : Table) (ks : List ℕ) (h : ℕ) (p level : ℕ) (known : (q l : ℕ) → q < length g.prods → height g q l < height g p level → (at : ℕ)
    → Known (Gives g ks q l at) (λ done n. answer g ks h q l at done n)) where
  rule_known : (r at : ℕ) (o : Option Rule) → rule_at g r ≡ o → RuleFits g p o → Of g ks h p level known (Call r) at
  rule_known r at None e fits = absurd fits
  rule_known r at (Some rule) e fits =
      call_known g ks (λ q l from so_far m. answer g ks h q l from so_far m) level r rule e at rule.nests (nat_lt level max_level) refl refl
      (λ i j. known rule.to (level + 1) (subst (λ (n : Bool). NextFits g p rule.to n) i fits) (nested g p rule.to level (ltb-true level max_level j)) at)
      (λ i. one_known g ks h p level known rule.to (subst (λ (n : Bool). NextFits g p rule.to n) i fits) at)

  production_known : (x : Prod) → Fits g p (Some x) → (at : ℕ) → Of g ks h p level known x at
  production_known (Tok k) fits at = token_known g ks h p level known k at (next_is ks at k) refl
  production_known (Call r) fits at = rule_known r at (rule_at g r) refl fits
  production_known (Seq ps) fits at = let k = all_known g ks h p level known ps fits at in (k.0, GivesProd.parts ps level at k.0 k.1, k.2)
  production_known (Case bs other) fits at = chosen_known g ks h p level known bs other at (branch_of ks at bs other) refl
      (branch_below g ks p at bs other fits)
  production_known (Star firsts q) fits at = let k = times_known g ks h p level known firsts q fits.0 fits.1 (suc (length ks - at)) at (omega arith)
      in (k.0, GivesProd.times firsts q level at k.0 k.1, k.2)

  place_known : (at : ℕ) (o : Option Prod) → slice_get g.prods p ≡ o → Fits g p o → Known (Gives g ks p level at) (λ done n. answer g ks
      (suc h) p level at done n)
  place_known at None e fits = absurd fits
  place_known at (Some x) e fits = let k = production_known x fits at in (k.0, Gives.production p level at x k.0 e k.1, λ done n. rw e (k.2 done (suc n)))

before_none : (a : Outcome) → before [] a ≡ a
before_none (Outcome.ends to trees) = refl
before_none (Outcome.stuck at) = refl
before_none (Outcome.deep at) = refl

pub known_at : (R : Outcome → Type 0) (f : List ParseTree → ℕ → Answer) (k : Known R f) (n : ℕ) → outcome_of (f [] n) ≡ Some k.0
known_at R f k n = k.2 [] n ∙ ap (λ (x : Outcome). Some x) (before_none k.0)

-- what is computed is not spent, and what agrees with it is what is known
pub known_only : (R : Outcome → Type 0) (f : List ParseTree → ℕ → Answer) (k : Known R f) (a : Outcome) (z : Option Outcome) → z ≡ outcome_of (f [] 0)
    → (z ≡ None → ⊥) × (z ≡ Some (before [] a) → k.0 ≡ a)
known_only R f k a z s =
    let e = known_at R f k 0 in
    let b = before_none a in
    (λ h. let c : None ≡ Some k.0 = cc in (cc), λ h. let c : Some k.0 ≡ Some a = cc in cc)

module _ (g : Table) (fit : IsFit g) (ks : List ℕ) where
  known : (h p level : ℕ) → p < length g.prods → height g p level < h → (at : ℕ) → Known (Gives g ks p level at) (λ done n. answer g ks h p level at done n)
  known zero p level inside high at = absurd (omega arith)
  known (suc h) p level inside high at = place_known g ks h p level (λ q l in_q falls. known h q l in_q (omega arith)) at (slice_get g.prods p) refl
      (fits_at g fit p inside)

  pub whole_known : (p level at : ℕ) → p < length g.prods → Known (Gives g ks p level at) (λ done n. whole g ks p level at done n)
  unfolding whole
  whole_known p level at inside = known (suc (most_open g)) p level inside (omega (arith, height_low g p level)) at

  pub gives_one : (p level at : ℕ) → p < length g.prods → GivesOnce g ks p level at
  unfolding whole
  gives_one p level at inside =
      let k = whole_known p level at inside in
      record {
        it = k.0;
        gives = k.1;
        only = λ a given. let o = known_only (Gives g ks p level at) (λ done n. whole g ks p level at done n) k a (outcome_of (whole g ks p level at [] 0)) refl
            in ⊎_elim (λ s. absurd (o.0 s)) (λ s. o.1 s) (complete g ks p level at a given (suc (most_open g)) [] 0);
      }

  -- the start rule
  pub start_known : (r level at : ℕ) → r < length g.rules → Known (GivesProd g ks (Call r) level at) (λ done n. of_production g ks
      (λ q l from so_far m. whole g ks q l from so_far m) level (Some (Call r)) at done n)
  start_known r level at h =
      let there = rule_there g fit r h in
      call_known g ks (λ q l from so_far m. whole g ks q l from so_far m) level r there.0 there.1 at there.0.nests (nat_lt level max_level) refl refl
      (λ i j. whole_known there.0.to (level + 1) at there.2) (λ i. whole_known there.0.to level at there.2)

  pub start_only : (r level at : ℕ) (h : r < length g.rules) (a : Outcome) → GivesProd g ks (Call r) level at a → (start_known r level at h).0 ≡ a
  unfolding whole
  start_only r level at h a given =
      let k = start_known r level at h in
      let o = known_only (GivesProd g ks (Call r) level at) (λ done n. of_production g ks (λ q l from so_far m. whole g ks q l from so_far m) level (Some
      (Call r)) at done n) k a (outcome_of (of_production g ks (λ q l from so_far m. whole g ks q l from so_far m) level (Some (Call r)) at [] 0)) refl in
      ⊎_elim (λ s. absurd (o.0 s)) (λ s. o.1 s) (complete_of g ks (Call r) level at a given (suc (most_open g)) [] 0)
