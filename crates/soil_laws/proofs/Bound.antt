-- What statements bind is of the model, and what a block takes back leaves what was there.
use Rattle.std.proofs.Common.{◌≡◌, ℕ, zero, suc, ◌<◌, ◌≤◌, Bool, List, [], ◌∷◌, ◌++◌, length, slice_get, slice_set, take, All, Option, Some, None, IfSome, refl, sym, subst, arith, ⊎_elim}
use Rattle.std.specs.Prelude.{⊤}
use Rattle.std.specs.Option.{ForSome, option_map_or}
use Rattle.std.proofs.lemmas.List.Elements.{All-cons, All-nil, All-set, All-take}
use Rattle.std.proofs.lemmas.Option.{slice_get_cases}
use Rattle.class_model.specs.declared.object_model.ObjectModel.{ObjectModel}
use Rattle.class_model.specs.declared.types.OclType.{OclType}
use Rattle.class_model.specs.InRange.{IsTypeOf}
use Rattle.ocl_scope.specs.Environments.{known_as}
use Rattle.ocl_scope.specs.Ranges.{IsEnvironmentOf}
use Rattle.ocl_scope.specs.declared.environment.Environment.{Environment}
use Rattle.ocl_scope.specs.declared.environment.Variable.{Variable}
use Rattle.ocl_scope.proofs.Kept.{variable_kept}
use Rattle.soil_scope.specs.Variables.{left_to, standing, with_value}
use Rattle.soil_scope.specs.declared.variables.Role.{Role}
use Rattle.soil_scope.specs.declared.variables.Variables.{Variables}

abbrev pub EnvOf : ObjectModel → Variables → Type 0
EnvOf m vs = IsEnvironmentOf m vs.environment

-- ---- what there is, in both ways of saying it

pub some_of : {A : Type 0} (P : A → Type 0) (o : Option A) → ForSome o P → IfSome o P
some_of P None h = tt
some_of P (Some x) h = h x refl

pub for_some : {A : Type 0} (P : A → Type 0) (o : Option A) → IfSome o P → ForSome o P
for_some P None h = λ x is. absurd (cc)
for_some P (Some y) h = λ x is. let same : y ≡ x = cc in subst P same h

-- ---- values have the numbers that they had

-- the first of some variables stand for the first of some values
abbrev Outer : ℕ → ℕ → List Variable → Type 0
Outer zero n vs = ⊤
Outer (suc c) n [] = ⊥
Outer (suc c) n (v ∷ vs) = (v.number < n) × Outer c n vs

outer_push : (c n : ℕ) (vs more : List Variable) → Outer c n vs → Outer c n (vs ++ more)
outer_push zero n vs more h = tt
outer_push (suc c) n [] more h = absurd h
outer_push (suc c) n (v ∷ vs) more h = (h.0, outer_push c n vs more h.1)

outer_set : (c n : ℕ) (vs : List Variable) (at : ℕ) (x y : Variable) → slice_get vs at ≡ Some x → y.number ≡ x.number → Outer c n vs →
    Outer c n (slice_set vs at y)
outer_set zero n vs at x y is same h = tt
outer_set (suc c) n [] at x y is same h = absurd h
outer_set (suc c) n (v ∷ vs) zero x y is same h =
    let here : v ≡ x = cc in
    let below = subst (λ z. z.number < n) here h.0 in
    (subst (λ k. k < n) (sym same) below, h.1)
outer_set (suc c) n (v ∷ vs) (suc at) x y is same h = (h.0, outer_set c n vs at x y is same h.1)

outer_take : (c k n : ℕ) (vs : List Variable) → c ≤ k → Outer c n vs → Outer c n (take k vs)
outer_take zero k n vs less h = tt
outer_take (suc c) k n [] less h = absurd h
outer_take (suc c) zero n (v ∷ vs) less h = absurd (omega (arith, less))
outer_take (suc c) (suc k) n (v ∷ vs) less h = (h.0, outer_take c k n vs (omega (arith, less)) h.1)

outer_length : (c n : ℕ) (vs : List Variable) → Outer c n vs → c ≤ length vs
outer_length zero n vs h = omega arith
outer_length (suc c) n [] h = absurd h
outer_length (suc c) n (v ∷ vs) h = let l = outer_length c n vs h.1 in omega (arith, l)

all_outer : (n : ℕ) (vs : List Variable) → All (λ v. v.number < n) vs → Outer (length vs) n vs
all_outer n [] h = tt
all_outer n (v ∷ vs) h = (h 0 v (omega arith), all_outer n vs (λ i d l. h (suc i) d (omega (arith, l))))

outer_all : (c n : ℕ) (vs : List Variable) → Outer c n vs → All (λ v. v.number < n) (take c vs)
outer_all zero n vs h = All-nil _
outer_all (suc c) n [] h = absurd h
outer_all (suc c) n (v ∷ vs) h = All-cons (λ v. v.number < n) v (take c vs) h.0 (outer_all c n vs h.1)

-- some variables lead to others: those are of the model, and what stands outside is left as it was
pub record Leads (m : ObjectModel) (before after : Variables) : Type 0 where
  pub env : IsEnvironmentOf m after.environment
  pub outer : (c n : ℕ) → Outer c n before.environment.variables → Outer c n after.environment.variables

module _ (m : ObjectModel) where
  pub stay : (vs : Variables) → EnvOf m vs → Leads m vs vs
  stay vs h = record { env = h; outer = λ c n k. k }

  pub on : (a b c : Variables) → Leads m a b → Leads m b c → Leads m a c
  on a b c h k = record { env = k.env; outer = λ i n l. k.outer i n (h.outer i n l) }

  pub value_more : (role : Role) (vs : Variables) (name : Option (List ℕ)) (t : OclType) (i : Bool) → EnvOf m vs → IsTypeOf m t →
      Leads m vs (with_value role vs name t i)
  value_more role vs name t i h k = record {
    env = variable_kept m vs.environment name t i h k;
    outer = λ c n l. outer_push c n vs.environment.variables _ l;
  }

  -- another name and another type for a variable
  abbrev changed : Environment → ℕ → List ℕ → OclType → Option Variable → List Variable
  changed env at name t o = option_map_or (λ v. slice_set env.variables at (known_as name t v)) o env.variables

  changed_types : (env : Environment) (at : ℕ) (name : List ℕ) (t : OclType) (o : Option Variable) → IsEnvironmentOf m env → IsTypeOf m t →
      All (λ v. IsTypeOf m v.of_type) (changed env at name t o)
  changed_types env at name t None h k = h.types
  changed_types env at name t (Some v) h k = All-set (λ v. IsTypeOf m v.of_type) env.variables at (known_as name t v) k h.types

  changed_numbers : (env : Environment) (at : ℕ) (name : List ℕ) (t : OclType) (o : Option Variable) → IsEnvironmentOf m env →
      IfSome o (λ v. v.number < env.size) → All (λ v. v.number < env.size) (changed env at name t o)
  changed_numbers env at name t None h k = h.numbers
  changed_numbers env at name t (Some v) h k = All-set (λ v. v.number < env.size) env.variables at (known_as name t v) k h.numbers

  changed_outer : (env : Environment) (at : ℕ) (name : List ℕ) (t : OclType) (o : Option Variable) → slice_get env.variables at ≡ o → (c n : ℕ) →
      Outer c n env.variables → Outer c n (changed env at name t o)
  changed_outer env at name t None is c n h = h
  changed_outer env at name t (Some v) is c n h = outer_set c n env.variables at v (known_as name t v) is refl h

  number_there : (env : Environment) (at : ℕ) → IsEnvironmentOf m env → IfSome (slice_get env.variables at) (λ v. v.number < env.size)
  number_there env at h =
      ⊎_elim
      (λ s. subst (λ o. IfSome o (λ v. v.number < env.size)) (sym s.2) (subst (λ v. v.number < env.size) s.3 (h.numbers at s.0 s.1)))
      (λ s. subst (λ o. IfSome o (λ v. v.number < env.size)) (sym s.1) tt)
      ((slice_get_cases env.variables at).1)

  pub stands_for : (vs : Variables) (slot : ℕ) (name : List ℕ) (t : OclType) (role : Role) → EnvOf m vs → IsTypeOf m t →
      Leads m vs (standing vs slot name t role)
  stands_for vs slot name t role h k = record {
    env = record {
      types = changed_types vs.environment slot name t (slice_get vs.environment.variables slot) h k;
      numbers = changed_numbers vs.environment slot name t (slice_get vs.environment.variables slot) h (number_there vs.environment slot h);
    };
    outer = changed_outer vs.environment slot name t (slice_get vs.environment.variables slot) refl;
  }

  -- what a block added is taken back
  pub taken_back : (before after : Variables) → EnvOf m before → Leads m before after → Leads m before (left_to before after)
  taken_back before after h k = record {
    env = record {
      types = All-take (λ v. IsTypeOf m v.of_type) (length before.environment.variables) after.environment.variables k.env.types;
      numbers =
          outer_all (length before.environment.variables) before.environment.size after.environment.variables
          (k.outer (length before.environment.variables) before.environment.size
          (all_outer before.environment.size before.environment.variables h.numbers));
    };
    outer = λ c n l.
        outer_take c (length before.environment.variables) n after.environment.variables (outer_length c n before.environment.variables l) (k.outer c n l);
  }
