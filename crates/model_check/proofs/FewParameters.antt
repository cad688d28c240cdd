-- No operation of well-formed declarations has more parameters than it may.
use Rattle.std.proofs.Common.{◌≡◌, ℕ, zero, suc, ◌+◌, ◌≤◌, Bool, true, false, ◌||◌, cond, nat_lt, List, [], ◌∷◌, ◌++◌, length, map, slice_get, Option, Some, None, IfSome, refl, sym, subst, arith, true≢false}
use Rattle.std.specs.List.{AllByRecursion, cons_option, enumerate_from, filter_map, find, flat_map}
use Rattle.std.specs.Option.{option_map, option_or}
use Rattle.std.proofs.lemmas.Bool.Decides.{nat_tests}
use Rattle.std.proofs.lemmas.List.{length-map}
use Rattle.std.proofs.lemmas.List.Elements.{All-from_recursion}
use Rattle.class_decls.specs.declared.decls.ClassDecl.{ClassDecl}
use Rattle.class_decls.specs.declared.decls.Decls.{Decls}
use Rattle.class_decls.specs.declared.decls.OpDecl.{OpDecl}
use Rattle.class_decls.specs.declared.decls.TypeDecl.{TypeDecl}
use Rattle.class_decls.specs.Limits.{too_many_literals}
use Rattle.class_decls.specs.Names.{numbered}
use Rattle.class_decls.specs.Texts.{first_numbered}
use Rattle.class_rules.specs.declared.by_class.ClassRule.TheVariants as r
use Rattle.class_rules.specs.Ancestors.{above}
use Rattle.class_rules.specs.ClassRules.{broken_by, first_broken, first_op}
use Rattle.class_rules.specs.Numbering.{inheritance_cycle, numbering, parent_places}
use Rattle.class_rules.specs.Operations.{contract_count}
use Rattle.class_rules.specs.WellFormed.{broken_at, broken_counts, broken_features, broken_names, broken_overriding, broken_parts, broken_rule, broken_sizes, first_refusal}
use Rattle.class_model.specs.declared.object_model.Operation.{Operation}
use Rattle.class_model.specs.declared.types.OclType.{OclType}
use Rattle.class_builder.specs.Models.{model_of, operation, operations_in, ordered, parameter, type_of}
use Rattle.class_builder.proofs.Unbroken.{map_none, none_left, none_right}
use Rattle.model_check.specs.Few.{HasFewParameters, max_parameters}

-- M17 is among the rules
counts_unbroken : (ds : Decls) → broken_rule ds ≡ None → broken_counts ds ≡ None
counts_unbroken ds e =
    none_left (broken_counts ds) None
    (none_right (broken_sizes ds) (first_refusal (broken_counts ds ∷ []))
    (none_right (broken_parts ds) (first_refusal (broken_sizes ds ∷ broken_counts ds ∷ []))
    (none_right (broken_overriding ds) (first_refusal (broken_parts ds ∷ broken_sizes ds ∷ broken_counts ds ∷ []))
    (none_right (broken_features ds) (first_refusal (broken_overriding ds ∷ broken_parts ds ∷ broken_sizes ds ∷ broken_counts ds ∷ []))
    (none_right (broken_at 4 (inheritance_cycle ds))
    (first_refusal (broken_features ds ∷ broken_overriding ds ∷ broken_parts ds ∷ broken_sizes ds ∷ broken_counts ds ∷ []))
    (none_right (broken_names ds)
    (first_refusal (broken_at 4 (inheritance_cycle ds) ∷ broken_features ds ∷ broken_overriding ds ∷ broken_parts ds ∷ broken_sizes ds ∷ broken_counts ds ∷ []))
    e))))))

contracts_unbroken : (ds : Decls) → broken_rule ds ≡ None → first_broken r.TooManyContracts ds ≡ None
contracts_unbroken ds e =
    map_none _ (first_broken r.TooManyContracts ds)
    (none_left (broken_at 17 (first_broken r.TooManyContracts ds)) (first_refusal (broken_at 18 (too_many_literals ds) ∷ [])) (counts_unbroken ds e))

-- each operation of a class that breaks no such rule
abbrev FewDecl : OpDecl → Type 0
FewDecl op = length op.params ≤ max_parameters

or_false : (a b : Bool) → (a || b) ≡ false → a ≡ false
or_false true b e = absurd (true≢false e)
or_false false b e = refl

not_above : (n m : ℕ) → nat_lt n m ≡ false → m ≤ n
not_above n m e = grind (arith, nat_tests, e)

few_by_test : (n : ℕ) (b : Bool) → (nat_lt 16 n || b) ≡ false → n ≤ 16
few_by_test n b e = not_above 16 n (or_false (nat_lt 16 n) b e)

none_by : {A : Type 0} (P : A → Type 0) (test : A → Bool) → ((x : A) → test x ≡ false → P x) → (x : A) (o : Option A) (b : Bool) → test x ≡ b →
    cond b (Some x) o ≡ None → P x × (o ≡ None)
none_by P test h x o true k e = absurd (cc)
none_by P test h x o false k e = (h x k, e)

none_passes : {A : Type 0} (P : A → Type 0) (test : A → Bool) → ((x : A) → test x ≡ false → P x) → (xs : List A) → find test xs ≡ None → AllByRecursion P xs
none_passes P test h [] e = tt
none_passes P test h (x ∷ xs) e = let both = none_by P test h x (find test xs) (test x) refl e in (both.0, none_passes P test h xs both.1)

module _ (ds : Decls) where
  abbrev Few : ClassDecl → Type 0
  Few d = AllByRecursion FewDecl d.ops

  class_few : (i : ℕ) (d : ClassDecl) → broken_by r.TooManyContracts ds i d ≡ None → Few d
  class_few i d e =
      none_passes FewDecl (λ op. nat_lt 16 (length op.params) || nat_lt 64 (contract_count ds (above ds i) op))
      (λ op k. few_by_test (length op.params) (nat_lt 64 (contract_count ds (above ds i) op)) k) d.ops
      (map_none _ (find (λ op. nat_lt 16 (length op.params) || nat_lt 64 (contract_count ds (above ds i) op)) d.ops) e)

  classes_few : (n : ℕ) (xs : List ClassDecl) → first_numbered (broken_by r.TooManyContracts ds) n xs ≡ None → AllByRecursion Few xs
  classes_few n [] e = tt
  classes_few n (d ∷ xs) e = (
    class_few n d (none_left (broken_by r.TooManyContracts ds n d) (first_numbered (broken_by r.TooManyContracts ds) (n + 1) xs) e),
    classes_few (n + 1) xs (none_right (broken_by r.TooManyContracts ds n d) (first_numbered (broken_by r.TooManyContracts ds) (n + 1) xs) e),
  )

  -- the same in the order of their numbers
  taken_few : (xs : List ClassDecl) → AllByRecursion Few xs → (i : ℕ) → IfSome (slice_get xs i) Few
  taken_few [] h i = tt
  taken_few (d ∷ xs) h zero = h.0
  taken_few (d ∷ xs) h (suc i) = taken_few xs h.1 i

  more_few : (o : Option ClassDecl) (xs : List ClassDecl) → IfSome o Few → AllByRecursion Few xs → AllByRecursion Few (cons_option o xs)
  more_few None xs h k = k
  more_few (Some d) xs h k = (h, k)

  ordered_few : (classes : List ClassDecl) → AllByRecursion Few classes → (ns : List ℕ) → AllByRecursion Few (filter_map (slice_get classes) ns)
  ordered_few classes h [] = tt
  ordered_few classes h (n ∷ ns) = more_few (slice_get classes n) (filter_map (slice_get classes) ns) (taken_few classes h n) (ordered_few classes h ns)

-- so it is of the operations that they give
abbrev FewOp : Operation → Type 0
FewOp op = length op.params ≤ max_parameters

op_few : (typed : TypeDecl → OclType) (c : ℕ) (op : OpDecl) → FewDecl op → FewOp (operation typed c op)
op_few typed c op h = let same = length-map op.params (parameter typed) in omega arith

ops_few : (typed : TypeDecl → OclType) (c : ℕ) (ops : List OpDecl) (rest : List Operation) → AllByRecursion FewDecl ops → AllByRecursion FewOp rest →
    AllByRecursion FewOp (map (operation typed c) ops ++ rest)
ops_few typed c [] rest h k = k
ops_few typed c (op ∷ ops) rest h k = (op_few typed c op h.0, ops_few typed c ops rest h.1 k)

all_few : (typed : TypeDecl → OclType) (n : ℕ) (classes : List ClassDecl) → AllByRecursion (λ d. AllByRecursion FewDecl d.ops) classes →
    AllByRecursion FewOp (flat_map (λ p. operations_in typed p.0 p.1) (enumerate_from n classes))
all_few typed n [] h = tt
all_few typed n (d ∷ classes) h =
    ops_few typed n d.ops (flat_map (λ p. operations_in typed p.0 p.1) (enumerate_from (n + 1) classes)) h.0 (all_few typed (n + 1) classes h.1)

pub few_parameters : (ds : Decls) → broken_rule ds ≡ None → HasFewParameters (model_of ds)
few_parameters ds e =
    All-from_recursion FewOp (model_of ds).ops
    (all_few (type_of ds) 0 (ordered ds) (ordered_few ds ds.classes (classes_few ds 0 ds.classes (contracts_unbroken ds e)) (numbering (parent_places ds))))
