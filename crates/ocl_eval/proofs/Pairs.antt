-- A walk over pairs is a walk for each first element.
use Rattle.std.proofs.Common.{◌≡◌, ℕ, ◌∙◌, Bool, true, false, cond, List, [], ◌∷◌, ◌++◌, map, flat_map, Some, None, refl, sym, ap, append_assoc}
use Rattle.ocl_values.specs.declared.value.Value.{Value}
use Rattle.ocl_core.specs.declared.expression.Expr.{Expr}
use Rattle.ocl_core.specs.declared.operators.IterOp.{IterOp}
use Rattle.ocl_eval.specs.declared.meter.Meter.{Meter}
use Rattle.ocl_eval.specs.declared.walks.Visited.{Visited}
use Rattle.ocl_eval.specs.Evaluations.{Evaluation, Outcome, pure, then_with, walk, ◌>>=◌}
use Rattle.ocl_operations.specs.Iterators.{bindings, ends_walk}
use Rattle.ocl_eval.specs.Nodes.{has_ended, visit, visits}
use Rattle.ocl_eval.specs.Walks.{visits_pairs, visits_with}

module _ {S A : Type 0} (stops : S → Bool) (step : S → A → Evaluation S) where
  stopped : (s : S) (bs : List A) (m : Meter) → stops s ≡ true → walk stops step s bs m ≡ (Some s, m)
  stopped s [] m e = refl
  stopped s (b ∷ bs) m e = ap (λ (t : Bool). cond t (pure s) (step s b >>= (λ u. walk stops step u bs)) m) e

  pub walk_append : (s : S) (xs bs : List A) (m : Meter) → walk stops step s (xs ++ bs) m ≡ then_with (walk stops step s xs m) (λ t. walk stops step t bs)
  walk_append s [] bs m = refl
  walk_append s (x ∷ xs) bs m =
      let by_step : (r : Outcome S) → then_with r (λ t. walk stops step t (xs ++ bs))
      ≡ then_with (then_with r (λ t. walk stops step t xs)) (λ t. walk stops step t bs) = λ r.
      elim r.0 as (λ o. then_with (o, r.1) (λ t. walk stops step t (xs ++ bs))
      ≡ then_with (then_with (o, r.1) (λ t. walk stops step t xs)) (λ t. walk stops step t bs))
      [ Some t ↦ walk_append t xs bs r.1 | None ↦ refl ] in
      let by_stop : (b : Bool) → stops s ≡ b →
      cond b (pure s) (step s x >>= (λ t. walk stops step t (xs ++ bs))) m
      ≡ then_with (cond b (pure s) (step s x >>= (λ t. walk stops step t xs)) m) (λ t. walk stops step t bs) = λ b.
      elim b as (λ b'. stops s ≡ b' → cond b' (pure s) (step s x >>= (λ t. walk stops step t (xs ++ bs))) m
      ≡ then_with (cond b' (pure s) (step s x >>= (λ t. walk stops step t xs)) m) (λ t. walk stops step t bs))
      [ true ↦ λ e. sym (stopped s bs m e) | false ↦ λ e. by_step (step s x m) ] in
      by_stop (stops s) refl

-- walks that step alike go alike
module _ {S A B : Type 0} (stops : S → Bool) (step : S → A → Evaluation S) (other : S → B → Evaluation S) (f : A → B)
    (same : (s : S) (x : A) (m : Meter) → step s x m ≡ other s (f x) m) where
  alike : (s : S) (xs : List A) (m : Meter) → walk stops step s xs m ≡ walk stops other s (map f xs) m
  alike s [] m = refl
  alike s (x ∷ xs) m =
      let by_step : (r : Outcome S) → then_with r (λ t. walk stops step t xs) ≡ then_with r (λ t. walk stops other t (map f xs)) = λ r.
      elim r.0 as (λ o. then_with (o, r.1) (λ t. walk stops step t xs) ≡ then_with (o, r.1) (λ t. walk stops other t (map f xs)))
      [ Some t ↦ alike t xs r.1 | None ↦ refl ] in
      let all : then_with (step s x m) (λ t. walk stops step t xs) ≡ then_with (other s (f x) m) (λ t. walk stops other t (map f xs)) =
      by_step (step s x m) ∙ ap (λ r. then_with r (λ t. walk stops other t (map f xs))) (same s x m) in
      elim (stops s) as (λ b. cond b (pure s) (step s x >>= (λ t. walk stops step t xs)) m
      ≡ cond b (pure s) (other s (f x) >>= (λ t. walk stops other t (map f xs))) m)
      [ true ↦ refl | false ↦ all ]

module _ (ev : List Value → Expr → Evaluation Value) (env : List Value) (op : IterOp) (body : Expr) where
  pub shifted : (before : Visited) (x : Value) (xs : List Value) (m : Meter) →
      visits ev (env ++ x ∷ []) op body before (map (λ y. y ∷ []) xs) m ≡ visits ev env op body before (map (λ y. x ∷ y ∷ []) xs) m
  unfolding visits
  shifted before x xs m =
      sym (alike has_ended (λ s y. visit ev (env ++ x ∷ []) op body s (y ∷ [])) (visit ev (env ++ x ∷ []) op body) (λ y. y ∷ []) (λ s y n. refl) before xs m)
      ∙ alike has_ended (λ s y. visit ev (env ++ x ∷ []) op body s (y ∷ [])) (visit ev env op body) (λ y. x ∷ y ∷ [])
      (λ s y n. ap (λ bound. then_with (ev bound body n) (λ v. pure (record { values = s.values ++ v ∷ []; ended = ends_walk op v }))) (append_assoc env
      (x ∷ []) (y ∷ []))) before xs m

  flat_pairs : (seen : Visited) (firsts xs : List Value) (m : Meter) →
      visits ev env op body seen (flat_map (λ x. map (λ y. x ∷ y ∷ []) xs) firsts) m ≡ visits_pairs ev env op body xs seen firsts m
  unfolding visits visits_with visits_pairs
  flat_pairs seen [] xs m = refl
  flat_pairs seen (x ∷ more) xs m =
      let by_step : (r : Outcome Visited) → then_with r (λ t. visits ev env op body t (flat_map (λ x'. map (λ y. x' ∷ y ∷ []) xs) more))
      ≡ then_with r (λ t. visits_pairs ev env op body xs t more) = λ r.
      elim r.0 as (λ o. then_with (o, r.1) (λ t. visits ev env op body t (flat_map (λ x'. map (λ y. x' ∷ y ∷ []) xs) more))
      ≡ then_with (o, r.1) (λ t. visits_pairs ev env op body xs t more))
      [ Some t ↦ flat_pairs t more xs r.1 | None ↦ refl ] in
      walk_append has_ended (visit ev env op body) seen (map (λ y. x ∷ y ∷ []) xs) (flat_map (λ x'. map (λ y. x' ∷ y ∷ []) xs) more) m
      ∙ by_step (visits ev env op body seen (map (λ y. x ∷ y ∷ []) xs) m)

  pub two_bound : (count : ℕ) (seen : Visited) (xs : List Value) (m : Meter) → count ≡ 2 →
      visits ev env op body seen (bindings count xs) m ≡ visits_pairs ev env op body xs seen xs m
  two_bound count seen xs m is = ap (λ n. visits ev env op body seen (bindings n xs) m) is ∙ flat_pairs seen xs xs m
