-- Classes, associations and results that a model has.
use Rattle.std.proofs.Common.{ℕ, suc, ◌+◌, ◌<◌, Bool, true, false, cond, List, [], ◌∷◌, length, Option, Some, None, IfSome, sym, subst, arith, ⊎_elim}
use Rattle.std.specs.List.{position_from}
use Rattle.std.specs.Option.{ForSome, option_and_then}
use Rattle.std.proofs.lemmas.Option.{IfSome_then, slice_get_cases}
use Rattle.class_decls.specs.Texts.{same_text}
use Rattle.class_model.specs.Features.{assoc_named, class_named}
use Rattle.class_model.specs.InRange.{IsInRange, IsTypeOf}
use Rattle.class_model.specs.Parts.{op_result}
use Rattle.class_model.specs.declared.object_model.ObjectModel.{ObjectModel}
use Rattle.soil_laws.proofs.Bound.{some_of}

position_by : (b : Bool) (n l : ℕ) (rest : Option ℕ) → IfSome rest (λ q. q < n + 1 + l) → IfSome (cond b (Some n) rest) (λ q. q < n + suc l)
position_by true n l rest h = omega arith
position_by false n l None h = tt
position_by false n l (Some q) h = omega arith

position_below : {A : Type 0} (test : A → Bool) (n : ℕ) (xs : List A) → IfSome (position_from test n xs) (λ q. q < n + length xs)
position_below test n [] = tt
position_below test n (x ∷ xs) = position_by (test x) n (length xs) (position_from test (n + 1) xs) (position_below test (n + 1) xs)

pub class_there : (m : ObjectModel) (name : List ℕ) → IfSome (class_named m name) (λ c. c < length m.classes)
class_there m name = IfSome_then (class_named m name) (position_below (λ c. same_text c.name name) 0 m.classes) (λ q h. omega arith)

pub assoc_there : (m : ObjectModel) (name : List ℕ) → IfSome (assoc_named m name) (λ a. a < length m.assocs)
assoc_there m name = IfSome_then (assoc_named m name) (position_below (λ a. same_text a.name name) 0 m.assocs) (λ q h. omega arith)

pub type_of_result : (m : ObjectModel) → IsInRange m → (op : ℕ) → op < length m.ops → IfSome (op_result m op) (IsTypeOf m)
type_of_result m range op there =
    ⊎_elim
    (λ s. subst (λ o. IfSome (option_and_then (λ d. d.result_type) o) (IsTypeOf m)) (sym s.2)
    (some_of (IsTypeOf m) (s.0).result_type (subst (λ x. ForSome x.result_type (IsTypeOf m)) s.3 (range.result_types op s.0 there))))
    (λ s. let past = s.0 in absurd (omega (arith, past, there)))
    ((slice_get_cases m.ops op).1)
