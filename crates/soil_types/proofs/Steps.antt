-- One thing after another, step by step.
use Rattle.std.proofs.Common.{◌≡◌, ℕ, suc, ◌-◌, ◌<◌, arith, List, [], ◌∷◌, ◌++◌, map, ap, ◌∙◌, append_assoc, Ok, Err}
use Rattle.use_text.specs.declared.refusal.Refusal.{Refusal}
use Rattle.ocl_rules.specs.Typings.{Typing}
use Rattle.ocl_shapes.specs.Combining.{◌>>=◌, each}
use Rattle.soil_scope.specs.Scenes.{each_after}
use Rattle.soil_scope.specs.declared.variables.Variables.{Variables}

pub map_step : {A B : Type 0} (f : A → B) (found : List B) (x : A) (xs : List A) →
    (found ++ f x ∷ []) ++ map f xs ≡ found ++ map f (x ∷ xs)
map_step f found x xs = append_assoc found (f x ∷ []) (map f xs)

module _ {A B : Type 0} (f : A → Typing B) (done : List B) (xs : List A) where
  pub each_ends : xs ≡ [] → each f done xs ≡ Ok done
  each_ends e = ap (each f done) e

  pub each_steps : (x : A) (rest : List A) (y : B) → xs ≡ x ∷ rest → f x ≡ Ok y → each f done xs ≡ each f (done ++ y ∷ []) rest
  each_steps x rest y e o = ap (each f done) e ∙ ap (λ r. r >>= (λ z. each f (done ++ z ∷ []) rest)) o

  pub each_stops : (x : A) (rest : List A) (r : Refusal) → xs ≡ x ∷ rest → f x ≡ Err r → each f done xs ≡ Err r
  each_stops x rest r e o = ap (each f done) e ∙ ap (λ t. t >>= (λ z. each f (done ++ z ∷ []) rest)) o

module _ {A B : Type 0} (f : Variables → A → Typing (B × Variables)) (done : List B) (vs : Variables) (xs : List A) where
  pub after_ends : xs ≡ [] → each_after f done vs xs ≡ Ok (done, vs)
  after_ends e = ap (each_after f done vs) e

  pub after_steps : (x : A) (rest : List A) (y : B) (after : Variables) → xs ≡ x ∷ rest → f vs x ≡ Ok (y, after) →
      each_after f done vs xs ≡ each_after f (done ++ y ∷ []) after rest
  after_steps x rest y after e o = ap (each_after f done vs) e ∙ ap (λ r. r >>= (λ z. each_after f (done ++ z.0 ∷ []) z.1 rest)) o

  pub after_stops : (x : A) (rest : List A) (r : Refusal) → xs ≡ x ∷ rest → f vs x ≡ Err r → each_after f done vs xs ≡ Err r
  after_stops x rest r e o = ap (each_after f done vs) e ∙ ap (λ t. t >>= (λ z. each_after f (done ++ z.0 ∷ []) z.1 rest)) o

-- blocks that may still nest
pub deeper : {X : Type 0} (f : ℕ → X) (n : ℕ) → 0 < n → f n ≡ f (suc (n - 1))
deeper f n some = let e : n ≡ suc (n - 1) = omega arith in ap f e
