-- The parts of a model, put together.
use Rattle.std.proofs.Common.{◌≡◌, ℕ, ◌+◌, Bool, cond, List, [], ◌∷◌, map, Bor, Option, Some, refl, sym, ap, ap₂, ◌∙◌}
use Rattle.std.specs.List.{enumerate_from, position_from}
use Rattle.class_decls.specs.declared.decls.ClassDecl.{ClassDecl}
use Rattle.class_decls.specs.declared.decls.Decls.{Decls}
use Rattle.class_decls.specs.declared.decls.TypeDecl.{TypeDecl}
use Rattle.class_decls.specs.Names.{numbered}
use Rattle.class_decls.proofs.Numbered.{numbered-map}
use Rattle.class_rules.specs.Ancestors.{parent_numbers}
use Rattle.class_model.specs.declared.object_model.Association.{Association}
use Rattle.class_model.specs.declared.object_model.Attribute.{Attribute}
use Rattle.class_model.specs.declared.object_model.Class.{Class}
use Rattle.class_model.specs.declared.object_model.Enumeration.{Enumeration}
use Rattle.class_model.specs.declared.object_model.ObjectModel.{ObjectModel}
use Rattle.class_model.specs.declared.object_model.Operation.{Operation}
use Rattle.class_model.specs.declared.types.OclType.{OclType}
use Rattle.class_builder.specs.Models.{association, class_by, class_number, derived_in, enumeration, model_by, model_of, named_in, operations_in, ordered, stored_in, type_by}
use Rattle.class_builder.proofs.Steps.{each_map}

abbrev model_with : List ℕ → List Enumeration → List Class → List Attribute → List Attribute → List Operation → List Association → ObjectModel
model_with n e k a d o s = record { name = n; enums = e; classes = k; attrs = a; derived = d; ops = o; assocs = s }

-- the parts, as they were made of classes behind references
pub record IsMade (ds : Decls) (decls : List (Bor ClassDecl)) (typed : TypeDecl → OclType) (number : List ℕ → ℕ)
    (n : List ℕ) (e : List Enumeration) (k : List Class) (a d : List Attribute) (o : List Operation) (s : List Association) : Type 0 where
  pub name : n ≡ ds.name.text
  pub enums : e ≡ map enumeration ds.enums
  pub classes : k ≡ map (λ p. class_by (parent_numbers ds) p.0 p.1.now) (enumerate_from 0 decls)
  pub attrs : a ≡ numbered (λ c x. stored_in typed c x.now) decls
  pub derived : d ≡ numbered (λ c x. derived_in typed c x.now) decls
  pub ops : o ≡ numbered (λ c x. operations_in typed c x.now) decls
  pub assocs : s ≡ map (association number) ds.assocs

same_parts : (n n' : List ℕ) (e e' : List Enumeration) (k k' : List Class) (a a' d d' : List Attribute) (o o' : List Operation) (s s' : List Association) →
    n ≡ n' → e ≡ e' → k ≡ k' → a ≡ a' → d ≡ d' → o ≡ o' → s ≡ s' → model_with n e k a d o s ≡ model_with n' e' k' a' d' o' s'
same_parts n n' e e' k k' a a' d d' o o' s s' p1 p2 p3 p4 p5 p6 p7 =
    ap (λ x. model_with x e k a d o s) p1 ∙ ap (λ x. model_with n' x k a d o s) p2 ∙ ap (λ x. model_with n' e' x a d o s) p3
    ∙ ap (λ x. model_with n' e' k' x d o s) p4 ∙ ap (λ x. model_with n' e' k' a' x o s) p5 ∙ ap (λ x. model_with n' e' k' a' d' x s) p6
    ∙ ap (λ x. model_with n' e' k' a' d' o' x) p7

pub assembled : (ds : Decls) (decls : List (Bor ClassDecl)) (named : List ℕ → Option OclType) (number : List ℕ → ℕ)
    (n : List ℕ) (e : List Enumeration) (k : List Class) (a d : List Attribute) (o : List Operation) (s : List Association) →
    map (λ c. c.now) decls ≡ ordered ds → named ≡ named_in ds.enums (ordered ds) → number ≡ class_number (ordered ds) →
    IsMade ds decls (type_by named) number n e k a d o s → record { name = n; enums = e; classes = k; attrs = a; derived = d; ops = o; assocs = s }
    ≡ model_of ds
assembled ds decls named number n e k a d o s by_number names numbers made =
    let now : List ClassDecl = map (λ c. c.now) decls in
    same_parts n ds.name.text e (map enumeration ds.enums) k (map (λ p. class_by (parent_numbers ds) p.0 p.1) (enumerate_from 0 now))
    a (numbered (stored_in (type_by named)) now) d (numbered (derived_in (type_by named)) now) o (numbered (operations_in (type_by named)) now) s
    (map (association number) ds.assocs)
    made.name made.enums (made.classes ∙ each_map (λ p. class_by (parent_numbers ds) p.0 p.1) (λ c. c.now) 0 decls)
    (made.attrs ∙ numbered-map (stored_in (type_by named)) (λ c. c.now) decls)
    (made.derived ∙ numbered-map (derived_in (type_by named)) (λ c. c.now) decls)
    (made.ops ∙ numbered-map (operations_in (type_by named)) (λ c. c.now) decls)
    made.assocs
    ∙ ap (λ l. model_by ds l (parent_numbers ds) (type_by named) number) by_number
    ∙ ap₂ (λ f g. model_by ds (ordered ds) (parent_numbers ds) (type_by f) g) names numbers

pub position-map : {A B : Type 0} (test : B → Bool) (f : A → B) (n : ℕ) (xs : List A) → position_from (λ x. test (f x)) n xs ≡ position_from test n (map f xs)
position-map test f n [] = refl
position-map test f n (x ∷ xs) = ap (λ o. cond (test (f x)) (Some n) o) (position-map test f (n + 1) xs)
