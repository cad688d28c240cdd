-- A class that a model finds by its name is one of its own.
use Rattle.std.proofs.Common.{◌≡◌, ℕ, suc, ◌+◌, ◌<◌, ◌&&◌, subst, sym, Bool, true, false, cond, List, [], ◌∷◌, length, Option, Some, None, IfSome, arith}
use Rattle.std.specs.List.{position_from}
use Rattle.std.proofs.lemmas.Option.{IfSome_then}
use Rattle.class_decls.specs.Texts.{same_text}
use Rattle.class_model.specs.Features.{class_named, derived}
use Rattle.class_model.specs.Inheritance.{is_a}
use Rattle.class_model.specs.declared.object_model.ObjectModel.{ObjectModel}

position_by : (b : Bool) (n l : ℕ) (rest : Option ℕ) → IfSome rest (λ q. q < n + 1 + l) → IfSome (cond b (Some n) rest) (λ q. q < n + suc l)
position_by true n l rest h = omega arith
position_by false n l None h = tt
position_by false n l (Some q) h = omega arith

position_below : {A : Type 0} (test : A → Bool) (n : ℕ) (xs : List A) → IfSome (position_from test n xs) (λ q. q < n + length xs)
position_below test n [] = tt
position_below test n (x ∷ xs) = position_by (test x) n (length xs) (position_from test (n + 1) xs) (position_below test (n + 1) xs)

pub class_there : (m : ObjectModel) (name : List ℕ) → IfSome (class_named m name) (λ c. c < length m.classes)
class_there m name = IfSome_then (class_named m name) (position_below (λ c. same_text c.name name) 0 m.classes) (λ q h. omega arith)

-- so is a derived attribute
derived_there : (m : ObjectModel) (c : ℕ) (name : List ℕ) → IfSome (derived m c name) (λ n. n < length m.derived)
derived_there m c name =
    IfSome_then (derived m c name) (position_below (λ a. is_a m c a.class && same_text a.name name) 0 m.derived) (λ q h. omega arith)

pub derived_below : (m : ObjectModel) (c : ℕ) (name : List ℕ) (n : ℕ) → Some n ≡ derived m c name → n < length m.derived
derived_below m c name n e = subst (λ (o : Option ℕ). IfSome o (λ q. q < length m.derived)) (sym e) (derived_there m c name)
