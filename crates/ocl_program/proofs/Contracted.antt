-- The contracts of an operation, found among the declarations of its name.
use Rattle.std.proofs.Common.{◌≡◌, ℕ, zero, suc, ◌+◌, ◌<◌, Bool, true, false, ◌&&◌, cond, nat_eq, List, [], ◌∷◌, ◌++◌, length, get_or, slice_get, slice_set, unwrap_or, append-nil, append_assoc, take, Option, Some, None, refl, sym, ap, ap₂, ◌∙◌, ⊎_elim, arith}
use Rattle.std.proofs.lemmas.Bool.{cases_lt}
use Rattle.std.proofs.lemmas.Bool.Decides.{eqb_tells}
use Rattle.std.proofs.lemmas.List.{get_or-set_other, get_or-set_same}
use Rattle.std.specs.Option.{option_map_or}
use Rattle.class_model.specs.declared.object_model.Operation.{Operation}
use Rattle.std.specs.List.{cons_option, enumerate_from, filter_map, flat_map}
use Rattle.class_decls.specs.Texts.{same_text}
use Rattle.class_model.specs.Features.{declarations, has_operation}
use Rattle.class_model.specs.Inheritance.{is_a}
use Rattle.class_model.specs.declared.object_model.ObjectModel.{ObjectModel}
use Rattle.class_model.proofs.Chosen.{class_is}
use Rattle.class_model.proofs.Listed.{chosen_more}
use Rattle.ocl_core.specs.declared.program.Contract.{Contract}
use Rattle.ocl_core.specs.declared.program.ProgramParts.{ProgramParts}
use Rattle.ocl_program.specs.ContractRows.{declared, row_at}
use Rattle.ocl_program.specs.Programs.{contracts_for, contracts_of}

module _ {A B C : Type 0} (test : A → Bool) (h : A → B) (f : B → List C) where
  kept : (b : Bool) (y : B) (rest : List B) → flat_map f (cons_option (cond b (Some y) None) rest) ≡ cond b (f y) [] ++ flat_map f rest
  kept true y rest = refl
  kept false y rest = refl

  fused : (xs : List A) → flat_map f (filter_map (λ p. cond (test p) (Some (h p)) None) xs) ≡ flat_map (λ p. cond (test p) (f (h p)) []) xs
  fused [] = refl
  fused (x ∷ xs) =
      kept (test x) (h x) (filter_map (λ p. cond (test p) (Some (h p)) None) xs) ∙ ap (λ l. cond (test x) (f (h x)) [] ++ l) (fused xs)

alike : {A B : Type 0} (f g : A → List B) → ((x : A) → f x ≡ g x) → (xs : List A) → flat_map f xs ≡ flat_map g xs
alike f g e [] = refl
alike f g e (x ∷ xs) = ap₂ (λ a b. a ++ b) (e x) (alike f g e xs)

both : {A : Type 0} (a b : Bool) (l k : List A) → l ≡ k → cond b (cond a l []) [] ≡ cond (a && b) k []
both true true l k e = e
both true false l k e = refl
both false true l k e = refl
both false false l k e = refl

pub found : (m : ObjectModel) (contracts : List Contract) (own : List (List ℕ)) → ((o : ℕ) → row_at own o ≡ contracts_for contracts o) →
    (c : ℕ) (name : List ℕ) →
    flat_map (λ d. cond (is_a m c d.0) (row_at own d.1) []) (declared name m.ops) ≡ flat_map (contracts_for contracts) (declarations m c name)
found m contracts own h c name =
    fused (λ p. same_text p.1.name name) (λ p. (p.1.class, p.0)) (λ d. cond (is_a m c d.0) (row_at own d.1) []) (enumerate_from 0 m.ops)
    ∙ alike (λ p. cond (same_text p.1.name name) (cond (is_a m c p.1.class) (row_at own p.0) []) [])
    (λ p. cond (is_a m c p.1.class && same_text p.1.name name) (contracts_for contracts p.0) [])
    (λ p. both (is_a m c p.1.class) (same_text p.1.name name) (row_at own p.0) (contracts_for contracts p.0) (h p.0)) (enumerate_from 0 m.ops)
    ∙ sym (fused (λ p. has_operation m c name p.1) (λ p. p.0) (contracts_for contracts) (enumerate_from 0 m.ops))

-- what is read in a map from names to lists, where one name gets another list, or none
pub put_list : {A : Type 0} (b : Bool) (d : List A) (o : Option (List A)) → unwrap_or (cond b (Some d) o) [] ≡ cond b d (unwrap_or o [])
put_list true d o = refl
put_list false d o = refl

pub left_list : {A : Type 0} (b : Bool) (o : Option (List A)) → unwrap_or (cond b None o) [] ≡ cond b [] (unwrap_or o [])
left_list true o = refl
left_list false o = refl

-- one list more of those that are empty
pub empty_more : {A : Type 0} (rows : List (List A)) → ((o : ℕ) → row_at rows o ≡ []) → (o : ℕ) → row_at (rows ++ [] ∷ []) o ≡ []
empty_more [] h zero = refl
empty_more [] h (suc o) = refl
empty_more (r ∷ rs) h zero = h 0
empty_more (r ∷ rs) h (suc o) = empty_more rs (λ p. h (suc p)) o

-- a list by its place
pub row_is : {A : Type 0} (rows : List (List A)) (o : ℕ) → row_at rows o ≡ get_or rows o []
row_is [] o = refl
row_is (r ∷ rs) zero = refl
row_is (r ∷ rs) (suc o) = row_is rs o

-- one more at the end of one list
pub longer : (rows : List (List ℕ)) (i n : ℕ) (row : List ℕ) → i < length rows → row ≡ get_or rows i [] ++ n ∷ [] → (o : ℕ) →
    row_at (slice_set rows i row) o ≡ row_at rows o ++ cond (nat_eq i o) (n ∷ []) []
longer rows i n row low is o =
    ⊎_elim
    (λ t.
    ap (row_at (slice_set rows i row)) (sym t.1) ∙ row_is (slice_set rows i row) i ∙ get_or-set_same rows i row [] low ∙ is
    ∙ ap (λ l. l ++ n ∷ []) (sym (row_is rows i) ∙ ap (row_at rows) t.1)
    ∙ ap (λ b. row_at rows o ++ cond b (n ∷ []) []) (sym t.0))
    (λ t.
    row_is (slice_set rows i row) o ∙ get_or-set_other rows i o row [] (λ e. t.1 (sym e)) ∙ sym (row_is rows o) ∙ sym (append-nil (row_at rows o))
    ∙ ap (λ b. row_at rows o ++ cond b (n ∷ []) []) (sym t.0))
    (eqb_tells i o)

-- one list more at the end
pub row_before : {A : Type 0} (rows : List (List A)) (row : List A) (o : ℕ) → o < length rows → row_at (rows ++ row ∷ []) o ≡ row_at rows o
row_before [] row o h = absurd (omega arith)
row_before (r ∷ rs) row zero h = refl
row_before (r ∷ rs) row (suc o) h = row_before rs row o (omega arith)

pub row_last : {A : Type 0} (rows : List (List A)) (row : List A) → row_at (rows ++ row ∷ []) (length rows) ≡ row
row_last [] row = refl
row_last (r ∷ rs) row = row_last rs row

-- the name of an operation by its number
pub name_is : (ops : List Operation) (i : ℕ) (op : Operation) → i < length ops → op ≡ get_or ops i op → option_map_or (λ d. d.name) (slice_get ops i) [] ≡ op.name
name_is [] i op h e = absurd (omega arith)
name_is (o ∷ os) zero op h e = ap (λ x. x.name) (sym e)
name_is (o ∷ os) (suc i) op h e = name_is os i op (omega arith) e

-- what each of some operations has, of which one more is known
pub rows_more : {A : Type 0} (want : ℕ → List A) (rows : List (List A)) (n : ℕ) (row : List A) → length rows ≡ n →
    ((o : ℕ) → o < n → row_at rows o ≡ want o) → row ≡ want n → (o : ℕ) → o < n + 1 → row_at (rows ++ row ∷ []) o ≡ want o
rows_more want rows n row size before here o h =
    ⊎_elim
    (λ low. row_before rows row o (omega arith) ∙ before o low)
    (λ high.
    let e : o ≡ length rows = omega arith in
    ap (row_at (rows ++ row ∷ [])) e ∙ row_last rows row ∙ here ∙ ap want (sym size ∙ sym e))
    (cases_lt o n)

-- what one more element gives
pub joined_more : {A B : Type 0} (f : A → List B) (xs : List A) (i : ℕ) (d : A) → i < length xs →
    flat_map f (take (i + 1) xs) ≡ flat_map f (take i xs) ++ f (get_or xs i d)
joined_more f [] i d h = absurd (omega arith)
joined_more f (y ∷ ys) zero d h = append-nil (f y)
joined_more f (y ∷ ys) (suc i) d h =
    let k : suc i + 1 ≡ suc (i + 1) = omega arith in
    rw k (ap (λ l. f y ++ l) (joined_more f ys i d (omega arith)) ∙ sym (append_assoc (f y) (flat_map f (take i ys)) (f (get_or ys i d))))

one_kept : {A : Type 0} (b : Bool) (x : A) → cons_option (cond b (Some x) None) [] ≡ cond b (x ∷ []) []
one_kept true x = refl
one_kept false x = refl

-- the declarations of a name, of which one more is known
pub declared_more : (name : List ℕ) (ops : List Operation) (i : ℕ) (op : Operation) → i < length ops → op ≡ get_or ops i op →
    declared name (take (i + 1) ops) ≡ declared name (take i ops) ++ cond (same_text op.name name) ((op.class, i) ∷ []) []
declared_more name ops i op h e =
    let z : 0 + i ≡ i = omega arith in
    rw z at (chosen_more {B = ℕ × ℕ} (λ p. cond (same_text p.1.name name) (Some (p.1.class, p.0)) None) 0 ops i op h e)
    ∙ ap (λ l. declared name (take i ops) ++ l) (one_kept (same_text op.name name) (op.class, i))

-- the contracts of an operation, from its class and its name
pub row_found : (p : ProgramParts) (own : List (List ℕ)) → ((o : ℕ) → row_at own o ≡ contracts_for p.contracts o) →
    (i : ℕ) (op : Operation) → i < length p.model.ops → op ≡ get_or p.model.ops i op →
    flat_map (λ d. cond (is_a p.model op.class d.0) (row_at own d.1) []) (declared op.name p.model.ops) ≡ contracts_of p i
row_found p own h i op low is =
    found p.model p.contracts own h op.class op.name
    ∙ ap₂ (λ c n. flat_map (contracts_for p.contracts) (declarations p.model c n)) (sym (class_is p.model.ops i op low is)) (sym (name_is p.model.ops i op low is))
