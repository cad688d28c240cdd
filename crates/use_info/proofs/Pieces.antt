-- Texts that grow piece by piece.
use Rattle.std.proofs.Common.{◌≡◌, ℕ, zero, suc, ◌+◌, ◌<◌, ◌==◌, if◌then◌else◌, List, [], ◌∷◌, ◌++◌, length, map, take, get_or, refl, sym, ap, ◌∙◌, append_assoc, append-nil, arith}
use Rattle.std.specs.Prelude.{codes}
use Rattle.std.specs.List.{flat_map, join_with_byte}
use Rattle.std.proofs.lemmas.Bool.Decides.{nat_tests}
use Rattle.std.proofs.lemmas.Grind.{flat_map-append}
use Rattle.std.proofs.lemmas.List.{take_more, length-take-le}
use Rattle.class_model.specs.declared.object_model.ObjectModel.{ObjectModel}
use Rattle.class_model.specs.declared.object_model.Parameter.{Parameter}
use Rattle.class_model.specs.declared.types.OclType.{OclType}
use Rattle.class_model.specs.declared.types.OclType.TheVariants as T
use Rattle.class_model.specs.Parts.{class_name}
use Rattle.class_decls.proofs.Numbered.{take-more}
use Rattle.ocl_values.specs.declared.value.Kind.{Kind}
use Rattle.ocl_values.specs.Printing.{kind_name}
use Rattle.use_info.specs.TypeTexts.{type_text}
use Rattle.use_info.specs.Classes.{parameter_text, parameters_text, parents_text}

pub type_text-coll : (m : ObjectModel) (k : Kind) (t : OclType) → type_text m (T.Coll k t) ≡ kind_name k ++ codes "(" ++ type_text m t ++ codes ")"
unfolding Rattle.class_model.specs.declared.types.OclType.TheBlock.hidden-the_row-OclType-0 denote.Hole.Carrier.hidden
type_text-coll m k t = refl

-- what stands before an element
abbrev pub before : {A : Type 0} → List ℕ → List ℕ → List A → List ℕ
before first next [] = first
before first next (x ∷ xs) = next

before-at : {A : Type 0} (first next : List ℕ) (i : ℕ) (xs : List A) → length xs ≡ i → (if i == 0 then first else next) ≡ before first next xs
before-at first next zero [] e = refl
before-at first next (suc i) [] e = absurd (omega arith)
before-at first next zero (x ∷ xs) e = absurd (omega arith)
before-at first next (suc i) (x ∷ xs) e = grind (arith, nat_tests)

module _ (m : ObjectModel) where
  parent-more : (ps : List ℕ) (p : ℕ) → parents_text m (ps ++ p ∷ []) ≡ parents_text m ps ++ before (codes " < ") (codes ",") ps ++ class_name m p
  parent-more [] p = refl
  parent-more (q ∷ ps) p =
      ap (λ t. codes " < " ++ t) (named q ps)
      ∙ sym (append_assoc (codes " < " ++ join_with_byte 44 (map (class_name m) (q ∷ ps))) (44 ∷ []) (class_name m p))
    where
      named : (q : ℕ) (ps : List ℕ) → join_with_byte 44 (map (class_name m) ((q ∷ ps) ++ p ∷ [])) ≡ join_with_byte 44 (map (class_name m) (q ∷ ps)) ++ 44 ∷ class_name m p
      named q [] = refl
      named q (r ∷ ps) = ap (λ t. class_name m q ++ (44 ∷ t)) (named r ps)
          ∙ sym (append_assoc (class_name m q) (44 ∷ join_with_byte 44 (map (class_name m) (r ∷ ps))) (44 ∷ class_name m p))

  -- the parents up to one more
  pub parents-next : (ps : List ℕ) (i d : ℕ) → i < length ps
      → parents_text m (take (i + 1) ps) ≡ parents_text m (take i ps) ++ (if i == 0 then codes " < " else codes ",") ++ class_name m (get_or ps i d)
  parents-next ps i d h =
      ap (parents_text m) (take_more ps i d h) ∙ parent-more (take i ps) (get_or ps i d)
      ∙ ap (λ b. parents_text m (take i ps) ++ b ++ class_name m (get_or ps i d))
      (sym (before-at (codes " < ") (codes ",") i (take i ps) (length-take-le i ps (omega arith))))

  abbrev behind : Parameter → List ℕ
  behind r = codes ", " ++ parameter_text m r

  further : (ps : List Parameter) (p : Parameter) → flat_map behind (ps ++ p ∷ []) ≡ flat_map behind ps ++ behind p
  further [] p = append-nil (behind p)
  further (r ∷ ps) p = ap (λ t. behind r ++ t) (further ps p) ∙ sym (append_assoc (behind r) (flat_map behind ps) (behind p))

  parameter-more : (ps : List Parameter) (p : Parameter)
      → parameters_text m (ps ++ p ∷ []) ≡ parameters_text m ps ++ before [] (codes ", ") ps ++ parameter_text m p
  parameter-more [] p = append-nil (parameter_text m p)
  parameter-more (q ∷ ps) p =
      ap (λ t. parameter_text m q ++ t) (further ps p) ∙ sym (append_assoc (parameter_text m q) (flat_map behind ps) (behind p))
      ∙ sym (append_assoc (parameters_text m (q ∷ ps)) (codes ", ") (parameter_text m p))

  -- the parameters up to one more
  pub parameters-next : (ps : List Parameter) (i : ℕ) (p : Parameter) → i < length ps → p ≡ get_or ps i p
      → parameters_text m (take (i + 1) ps) ≡ parameters_text m (take i ps) ++ (if i == 0 then [] else codes ", ") ++ parameter_text m p
  parameters-next ps i p h e =
      ap (parameters_text m) (take-more ps i p h e) ∙ parameter-more (take i ps) p
      ∙ ap (λ b. parameters_text m (take i ps) ++ b ++ parameter_text m p) (sym (before-at [] (codes ", ") i (take i ps) (length-take-le i ps (omega arith))))

-- one element more
pub grown : {A : Type 0} (f : A → List ℕ) (xs : List A) (i : ℕ) (d : A) (o now new : List ℕ) → i < length xs → now ≡ o ++ flat_map f (take i xs)
    → new ≡ now ++ f (get_or xs i d) → new ≡ o ++ flat_map f (take (i + 1) xs)
grown f xs i d o now new h e n =
    n ∙ ap (λ t. t ++ f (get_or xs i d)) e ∙ append_assoc o (flat_map f (take i xs)) (f (get_or xs i d))
    ∙ ap (λ t. o ++ t) (more xs i d h)
  where
    more : (xs : List _) (i : ℕ) (d : _) → i < length xs → flat_map f (take i xs) ++ f (get_or xs i d) ≡ flat_map f (take (i + 1) xs)
    more xs i d h = sym (ap (flat_map f) (take_more xs i d h) ∙ flat_map-append f (take i xs) (get_or xs i d ∷ []) ∙ ap (λ t. flat_map f (take i xs) ++ t) (append-nil (f (get_or xs i d))))

-- two pieces more
pub two-more : (o t a b now mid new : List ℕ) → now ≡ o ++ t → mid ≡ now ++ a → new ≡ mid ++ b → new ≡ o ++ (t ++ a ++ b)
two-more o t a b now mid new e f g = g ∙ ap (λ x. x ++ b) (f ∙ ap (λ x. x ++ a) e) ∙ simp append_assoc

-- the model's name and its counts
pub six-more : (o k n l a b c d o1 o2 o3 o4 o5 o6 o7 : List ℕ) → o1 ≡ o ++ k → o2 ≡ o1 ++ n → o3 ≡ o2 ++ l → o4 ≡ o3 ++ a → o5 ≡ o4 ++ b → o6 ≡ o5 ++ c
    → o7 ≡ o6 ++ d → o7 ≡ o ++ (k ++ n ++ l ++ a ++ b ++ c ++ d)
six-more o k n l a b c d o1 o2 o3 o4 o5 o6 o7 e1 e2 e3 e4 e5 e6 e7 =
    e7 ∙ ap (λ x. x ++ d) (e6 ∙ ap (λ x. x ++ c) (e5 ∙ ap (λ x. x ++ b) (e4 ∙ ap (λ x. x ++ a) (e3 ∙ ap (λ x. x ++ l) (e2 ∙ ap (λ x. x ++ n) e1)))))
    ∙ simp append_assoc
