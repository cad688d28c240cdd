-- Of a whole list exactly one verdict holds, and it is what the outcome of the start rule says.
use Rattle.std.proofs.Common.{◌≡◌, ◌≢◌, ℕ, ◌-◌, ◌<◌, List, [], ◌∷◌, length, Some, Result, Ok, Err, IfOk, IfErr, MatchResult, slice_get, refl, sym, ap, ◌∙◌, arith, subst, ⊎_elim, Bool, true, false, ◌==◌, if◌then◌else◌, Option}
use Rattle.std.proofs.lemmas.Bool.{cases_lt, eqb-true, eqb-false}
use Rattle.grammar_core.specs.declared.table.Table.{Table}
use Rattle.grammar_core.specs.declared.table.Prod.TheVariants.{Call}
use Rattle.grammar_core.specs.declared.node.Node.{Node}
use Rattle.grammar_core.specs.declared.fault.ParseFault.{ParseFault}
use Rattle.grammar_core.specs.declared.fault.ParseFault.TheVariants as fault
use Rattle.grammar_core.specs.Trees.{ParseTree, node, row_of}
use Rattle.grammar_core.specs.Arena.{root_tree}
use Rattle.grammar_core.specs.Unfit.{IsFit}
use Rattle.grammar_core.specs.Derives.{Outcome, below_rule, GivesProd, Derives, Stuck, Deep, Verdict, Holds, HoldsOnce}
use Rattle.grammar_core.specs.Answers.{Answer, of_production, whole, outcome_of}
use Rattle.grammar_core.specs.Parses.{IsFaultOf, Tells, first_tree, verdict_of, verdict as computed}
use Rattle.grammar_core.specs.Tasks.{Meets}
use Rattle.grammar_core.proofs.Known.{start_known, start_only, known_at}

-- what an outcome of the start rule means for the whole list
abbrev pub Means : ℕ → Outcome → Verdict → Type 0
Means len (Outcome.ends to trees) (Verdict.derived tree) = (to ≡ len) × (trees ≡ tree ∷ [])
Means len (Outcome.ends to trees) (Verdict.stuck at) = (to ≡ at) × (to ≢ len)
Means len (Outcome.ends to trees) (Verdict.deep at) = ⊥
Means len (Outcome.stuck x) (Verdict.derived tree) = ⊥
Means len (Outcome.stuck x) (Verdict.stuck at) = x ≡ at
Means len (Outcome.stuck x) (Verdict.deep at) = ⊥
Means len (Outcome.deep x) (Verdict.derived tree) = ⊥
Means len (Outcome.deep x) (Verdict.stuck at) = ⊥
Means len (Outcome.deep x) (Verdict.deep at) = x ≡ at

means_one : (len : ℕ) (a : Outcome) (v w : Verdict) → Means len a v → Means len a w → v ≡ w
means_one len (Outcome.ends to trees) (Verdict.derived t) (Verdict.derived u) h k = let e : t ∷ [] ≡ u ∷ [] = sym h.1 ∙ k.1 in let s : t ≡ u = cc
    in ap (λ (x : ParseTree). Verdict.derived x) s
means_one len (Outcome.ends to trees) (Verdict.derived t) (Verdict.stuck x) h k = absurd (k.1 h.0)
means_one len (Outcome.ends to trees) (Verdict.derived t) (Verdict.deep x) h k = absurd k
means_one len (Outcome.ends to trees) (Verdict.stuck x) (Verdict.derived t) h k = absurd (h.1 k.0)
means_one len (Outcome.ends to trees) (Verdict.stuck x) (Verdict.stuck y) h k = ap (λ (z : ℕ). Verdict.stuck z) (sym h.0 ∙ k.0)
means_one len (Outcome.ends to trees) (Verdict.stuck x) (Verdict.deep y) h k = absurd k
means_one len (Outcome.ends to trees) (Verdict.deep x) w h k = absurd h
means_one len (Outcome.stuck at) (Verdict.derived t) w h k = absurd h
means_one len (Outcome.stuck at) (Verdict.stuck x) (Verdict.derived t) h k = absurd k
means_one len (Outcome.stuck at) (Verdict.stuck x) (Verdict.stuck y) h k = ap (λ (z : ℕ). Verdict.stuck z) (sym h ∙ k)
means_one len (Outcome.stuck at) (Verdict.stuck x) (Verdict.deep y) h k = absurd k
means_one len (Outcome.stuck at) (Verdict.deep x) w h k = absurd h
means_one len (Outcome.deep at) (Verdict.derived t) w h k = absurd h
means_one len (Outcome.deep at) (Verdict.stuck x) w h k = absurd h
means_one len (Outcome.deep at) (Verdict.deep x) (Verdict.derived t) h k = absurd k
means_one len (Outcome.deep at) (Verdict.deep x) (Verdict.stuck y) h k = absurd k
means_one len (Outcome.deep at) (Verdict.deep x) (Verdict.deep y) h k = ap (λ (z : ℕ). Verdict.deep z) (sym h ∙ k)

-- a rule's outcome has one tree
abbrev pub IsSingle : Outcome → Type 0
IsSingle (Outcome.ends to trees) = (tree : ParseTree) × (trees ≡ tree ∷ [])
IsSingle (Outcome.stuck at) = Unit {0}
IsSingle (Outcome.deep at) = Unit {0}

below_single : (r : ℕ) (a : Outcome) → IsSingle (below_rule r a)
below_single r (Outcome.ends to trees) = (node r (row_of trees), refl)
below_single r (Outcome.stuck at) = tt
below_single r (Outcome.deep at) = tt

module _ (g : Table) (ks : List ℕ) where
  call_single : (r level at : ℕ) (a : Outcome) → GivesProd g ks (Call r) level at a → IsSingle a
  call_single _ _ _ _ (GivesProd.rule r rule level inner at a e f of) = below_single r a
  call_single _ _ _ _ (GivesProd.too_deep r rule level at e f) = tt

  meaning : (a : Outcome) → IsSingle a → (v : Verdict) × Means (length ks) a v
  meaning (Outcome.ends to trees) s =
      let front = λ (h : to ≢ length ks). let m : Means (length ks) (Outcome.ends to trees) (Verdict.stuck to) = (refl, h) in
      let r : (v : Verdict) × Means (length ks) (Outcome.ends to trees) v = (Verdict.stuck to, m) in r in
      ⊎_elim (λ l. front (λ e. omega (arith, l, e)))
      (λ l. ⊎_elim (λ m. front (λ e. omega (arith, m, e))) (λ m. let e : to ≡ length ks = omega (arith, l, m)
      in (Verdict.derived s.0, (e, s.1))) (cases_lt (length ks) to)) (cases_lt to (length ks))
  meaning (Outcome.stuck at) s = (Verdict.stuck at, refl)
  meaning (Outcome.deep at) s = (Verdict.deep at, refl)

  module _ (r : ℕ) where
    means_holds : (a : Outcome) (v : Verdict) → GivesProd g ks (Call r) 0 0 a → Means (length ks) a v → Holds g ks r v
    means_holds (Outcome.ends to trees) (Verdict.derived t) of m = subst (λ (l : List ParseTree). GivesProd g ks (Call r) 0 0 (Outcome.ends (length ks) l)) m.1
        (subst (λ (x : ℕ). GivesProd g ks (Call r) 0 0 (Outcome.ends x trees)) m.0 of)
    means_holds (Outcome.ends to trees) (Verdict.stuck at) of m = subst (λ (x : ℕ). Stuck g ks r x) m.0 (Stuck.behind to trees of m.1)
    means_holds (Outcome.ends to trees) (Verdict.deep at) of m = absurd m
    means_holds (Outcome.stuck x) (Verdict.derived t) of m = absurd m
    means_holds (Outcome.stuck x) (Verdict.stuck at) of m = subst (λ (y : ℕ). Stuck g ks r y) m (Stuck.inside x of)
    means_holds (Outcome.stuck x) (Verdict.deep at) of m = absurd m
    means_holds (Outcome.deep x) (Verdict.derived t) of m = absurd m
    means_holds (Outcome.deep x) (Verdict.stuck at) of m = absurd m
    means_holds (Outcome.deep x) (Verdict.deep at) of m = subst (λ (y : ℕ). Deep g ks r y) m of

    abbrev Given : Verdict → Type 0
    Given v = (a : Outcome) × GivesProd g ks (Call r) 0 0 a × Means (length ks) a v

    stuck_given : (at : ℕ) → Stuck g ks r at → Given (Verdict.stuck at)
    stuck_given _ (Stuck.inside at of) = (Outcome.stuck at, of, refl)
    stuck_given _ (Stuck.behind at trees of front) = (Outcome.ends at trees, of, (refl, front))

    holds_given : (v : Verdict) → Holds g ks r v → Given v
    holds_given (Verdict.derived tree) of = (Outcome.ends (length ks) (tree ∷ []), of, (refl, refl))
    holds_given (Verdict.stuck at) h = stuck_given at h
    holds_given (Verdict.deep at) of = (Outcome.deep at, of, refl)

  module _ (fit : IsFit g) (r : ℕ) (inside : r < length g.rules) where
    pub verdict : (v : Verdict) × Means (length ks) (start_known g fit ks r 0 0 inside).0 v
    verdict = let k = start_known g fit ks r 0 0 inside in meaning k.0 (call_single r 0 0 k.0 k.1)

    pub holds_one : HoldsOnce g ks r
    holds_one =
        let k = start_known g fit ks r 0 0 inside in
        let v = verdict in
        record {
          it = v.0;
          holds = means_holds r k.0 v.0 k.1 v.1;
          only = λ w h. let d = holds_given r w h in means_one (length ks) k.0 v.0 w v.1 (subst (λ (a : Outcome). Means (length ks) a w) (sym
              (start_only g fit ks r 0 0 inside d.0 d.1)) d.2);
        }

    -- what is computed for the start rule has this meaning
    pub means_computed : (a : Outcome) → outcome_of (of_production g ks (λ q l from so_far m. whole g ks q l from so_far m) 0 (Some (Call r)) 0 [] 0) ≡ Some a
        → Means (length ks) a verdict.0
    means_computed a e =
        let k = start_known g fit ks r 0 0 inside in
        let s : Some k.0 ≡ Some a = sym (known_at (GivesProd g ks (Call r) 0 0) (λ done n. of_production g ks
        (λ q l from so_far m. whole g ks q l from so_far m) 0 (Some (Call r)) 0 done n) k 0) ∙ e in
        let same : k.0 ≡ a = cc in
        subst (λ (x : Outcome). Means (length ks) x verdict.0) same verdict.1

-- a rule's outcome has the meaning that is computed from it
ends_means : (len to : ℕ) (trees : List ParseTree) (tree : ParseTree) (whole : Bool) → (to == len) ≡ whole → trees ≡ tree ∷ []
    → Means len (Outcome.ends to trees) (if whole then Verdict.derived (first_tree trees) else Verdict.stuck to)
ends_means len to trees tree true e s = (eqb-true to len e, s ∙ ap (λ (t : ParseTree). t ∷ []) (sym (ap (λ (l : List ParseTree). first_tree l) s)))
ends_means len to trees tree false e s = (refl, eqb-false to len e)

single_means : (len : ℕ) (a : Outcome) → IsSingle a → Means len a (verdict_of len (Some a))
single_means len (Outcome.ends to trees) s = ends_means len to trees s.0 (to == len) refl s.1
single_means len (Outcome.stuck at) s = refl
single_means len (Outcome.deep at) s = refl

pub computed_holds : (g : Table) (ks : List ℕ) (fit : IsFit g) (r : ℕ) (inside : r < length g.rules) → Holds g ks r (computed g ks r)
unfolding computed
computed_holds g ks fit r inside =
    let k = start_known g fit ks r 0 0 inside in
    let e = known_at (GivesProd g ks (Call r) 0 0) (λ done n. of_production g ks (λ q l from so_far m. whole g ks q l from so_far m) 0 (Some
    (Call r)) 0 done n) k 0 in
    let h : Holds g ks r (verdict_of (length ks) (Some k.0)) = means_holds g ks r k.0 (verdict_of (length ks) (Some k.0)) k.1 (single_means (length ks) k.0
    (call_single g ks r 0 0 k.0 k.1)) in
    subst (λ (o : Option Outcome). Holds g ks r (verdict_of (length ks) o)) (sym e) h

-- what the parser answers for an outcome of the start rule
pub tells_whole : (len to : ℕ) (trees : List ParseTree) (nodes : List Node) (v : Verdict) → Means len (Outcome.ends to trees) v → to ≡ len
    → slice_get trees (length trees - 1) ≡ Some (root_tree nodes) → Tells (Ok nodes) v
tells_whole len to trees nodes (Verdict.derived tree) m e r =
    let s : Some tree ≡ Some (root_tree nodes) = ap (λ (l : List ParseTree). slice_get l (length l - 1)) (sym m.1) ∙ r in
    let same : tree ≡ root_tree nodes = cc in sym same
tells_whole len to trees nodes (Verdict.stuck at) m e r = absurd (m.1 e)
tells_whole len to trees nodes (Verdict.deep at) m e r = absurd m

pub tells_front : (len to : ℕ) (trees : List ParseTree) (v : Verdict) → Means len (Outcome.ends to trees) v → to ≢ len → Tells (Err (fault.Stuck to)) v
tells_front len to trees (Verdict.derived tree) m e = absurd (e m.0)
tells_front len to trees (Verdict.stuck at) m e = m.0
tells_front len to trees (Verdict.deep at) m e = absurd m

tells_stuck : (len x : ℕ) (v : Verdict) → Means len (Outcome.stuck x) v → Tells (Err (fault.Stuck x)) v
tells_stuck len x (Verdict.derived tree) m = absurd m
tells_stuck len x (Verdict.stuck at) m = m
tells_stuck len x (Verdict.deep at) m = absurd m

tells_deep : (len x : ℕ) (v : Verdict) → Means len (Outcome.deep x) v → Tells (Err (fault.Deep x)) v
tells_deep len x (Verdict.derived tree) m = absurd m
tells_deep len x (Verdict.stuck at) m = absurd m
tells_deep len x (Verdict.deep at) m = m

-- the three clauses of the parser
pub record IsParsed (g : Table) (ks : List ℕ) (r : ℕ) (res : Result (List Node) ParseFault) : Type 0 where
  pub ok : IfOk res (λ t. Derives g ks r (root_tree t))
  pub err : IfErr res (IsFaultOf g ks r)
  pub only : (v : Verdict) → Holds g ks r v → Tells res v

ok_of : (g : Table) (ks : List ℕ) (r : ℕ) (res : Result (List Node) ParseFault) (v : Verdict) → Holds g ks r v → Tells res v
    → IfOk res (λ t. Derives g ks r (root_tree t))
ok_of g ks r (Ok nodes) (Verdict.derived tree) h t = subst (λ (x : ParseTree). Derives g ks r x) (sym t) h
ok_of g ks r (Ok nodes) (Verdict.stuck at) h t = absurd t
ok_of g ks r (Ok nodes) (Verdict.deep at) h t = absurd t
ok_of g ks r (Err e) v h t = tt

err_of : (g : Table) (ks : List ℕ) (r : ℕ) (res : Result (List Node) ParseFault) (v : Verdict) → Holds g ks r v → Tells res v → IfErr res (IsFaultOf g ks r)
err_of g ks r (Ok nodes) v h t = tt
err_of g ks r (Err fault.Memory) v h t = tt
err_of g ks r (Err (fault.Stuck x)) (Verdict.derived tree) h t = absurd t
err_of g ks r (Err (fault.Stuck x)) (Verdict.stuck at) h t = subst (λ (y : ℕ). Stuck g ks r y) (sym t) h
err_of g ks r (Err (fault.Stuck x)) (Verdict.deep at) h t = absurd t
err_of g ks r (Err (fault.Deep x)) (Verdict.derived tree) h t = absurd t
err_of g ks r (Err (fault.Deep x)) (Verdict.stuck at) h t = absurd t
err_of g ks r (Err (fault.Deep x)) (Verdict.deep at) h t = subst (λ (y : ℕ). Deep g ks r y) (sym t) h

module _ (g : Table) (ks : List ℕ) (fit : IsFit g) (r : ℕ) (inside : r < length g.rules) where
  pub parsed : (res : Result (List Node) ParseFault) → Tells res (verdict g ks fit r inside).0 → IsParsed g ks r res
  unfolding holds_one verdict
  parsed res t =
      let one = holds_one g ks fit r inside in
      let v : Verdict = one.it in
      record {
        ok = ok_of g ks r res v one.holds t;
        err = err_of g ks r res v one.holds t;
        only = λ w h. subst (λ (x : Verdict). Tells res x) (one.only w h) t;
      }

  abbrev pub Computed : Answer
  Computed = of_production g ks (λ q l from so_far m. whole g ks q l from so_far m) 0 (Some (Call r)) 0 [] 0

  -- an error of the reading
  pub parsed_err : (e : ParseFault) (trees : List ParseTree) → Meets (Err e) trees Computed → IsParsed g ks r (Err e)
  parsed_err fault.Memory trees m = parsed (Err fault.Memory) (memory (verdict g ks fit r inside).0)
    where
      memory : (v : Verdict) → Tells (Err fault.Memory) v
      memory (Verdict.derived tree) = tt
      memory (Verdict.stuck at) = tt
      memory (Verdict.deep at) = tt
  parsed_err (fault.Stuck x) trees m = parsed (Err (fault.Stuck x)) (tells_stuck (length ks) x (verdict g ks fit r inside).0 (means_computed g ks fit r inside
      (Outcome.stuck x) m))
  parsed_err (fault.Deep x) trees m = parsed (Err (fault.Deep x)) (tells_deep (length ks) x (verdict g ks fit r inside).0 (means_computed g ks fit r inside
      (Outcome.deep x) m))

  pub parsed_front : (to : ℕ) (trees : List ParseTree) → Meets (Ok to) trees Computed → to ≢ length ks → IsParsed g ks r (Err (fault.Stuck to))
  parsed_front to trees m e = parsed (Err (fault.Stuck to)) (tells_front (length ks) to trees (verdict g ks fit r inside).0 (means_computed g ks fit r inside
      (Outcome.ends to trees) m) e)

  pub parsed_whole : (to : ℕ) (trees : List ParseTree) (nodes : List Node) → Meets (Ok to) trees Computed → to ≡ length ks
      → slice_get trees (length trees - 1) ≡ Some (root_tree nodes) → IsParsed g ks r (Ok nodes)
  parsed_whole to trees nodes m e root = parsed (Ok nodes) (tells_whole (length ks) to trees nodes (verdict g ks fit r inside).0
      (means_computed g ks fit r inside (Outcome.ends to trees) m) e root)

  -- there is a tree where the reading ended
  pub some_tree : (to : ℕ) (trees : List ParseTree) → Meets (Ok to) trees Computed → 0 < length trees
  some_tree to trees m =
      let k = start_known g fit ks r 0 0 inside in
      let s : Some k.0 ≡ Some (Outcome.ends to trees) = sym (known_at (GivesProd g ks (Call r) 0 0) (λ done n. of_production g ks
      (λ q l from so_far i. whole g ks q l from so_far i) 0 (Some (Call r)) 0 done n) k 0) ∙ m in
      let same : k.0 ≡ Outcome.ends to trees = cc in
      let one : IsSingle (Outcome.ends to trees) = subst (λ (a : Outcome). IsSingle a) same (call_single g ks r 0 0 k.0 k.1) in
      let e = ap (λ (l : List ParseTree). length l) one.1 in omega (arith, e)

  pub parsed_tree : (to : ℕ) (trees : List ParseTree) (res : Result (List Node) ParseFault) → Meets (Ok to) trees Computed → to ≡ length ks
      → MatchResult res (λ t. slice_get trees (length trees - 1) ≡ Some (root_tree t)) (λ e. e ≡ fault.Memory) → IsParsed g ks r res
  parsed_tree to trees (Ok nodes) m e root = parsed_whole to trees nodes m e root
  parsed_tree to trees (Err x) m e root = rw root (parsed_err fault.Memory [] tt)
