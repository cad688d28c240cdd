-- How many values bodies, invariants and contracts see: few enough.
use Rattle.std.proofs.Common.{◌≡◌, ℕ, ◌+◌, ◌<◌, ◌≤◌, ◌^◌, Bool, true, false, List, [], ◌∷◌, length, Option, Some, None, refl, sym, subst, arith}
use Rattle.class_model.specs.declared.object_model.ObjectModel.{ObjectModel}
use Rattle.class_model.specs.declared.object_model.Parameter.{Parameter}
use Rattle.class_model.specs.declared.types.OclType.{OclType}
use Rattle.class_model.specs.Parts.{op_class, op_params, op_result}
use Rattle.soil_scope.specs.Variables.{with_fixed}
use Rattle.soil_scope.specs.declared.variables.Variables.{Variables}
use Rattle.model_check.specs.Seen.{also_named, seen_by_contract, seen_by_invariant, seen_by_query, seen_by_statements, seen_in_class, with_params, with_result}

abbrev Size : Variables → ℕ
Size vs = vs.environment.size

params_size : (vs : Variables) (ns : List (List ℕ)) (ps : List Parameter) → Size (with_params vs ns ps) ≤ Size vs + length ps
params_size vs [] ps = omega arith
params_size vs (n ∷ ns) [] = omega arith
params_size vs (n ∷ ns) (p ∷ ps) = let h = params_size (with_fixed vs n p.of_type) ns ps in omega (arith, h)

result_size : (vs : Variables) (o : Option OclType) → Size (with_result vs o) ≤ Size vs + 1
result_size vs None = omega arith
result_size vs (Some t) = omega arith

pub query_size : (m : ObjectModel) (op : ℕ) (names : List (List ℕ)) → length (op_params m op) ≤ 16 → Size (seen_by_query m op names) ≤ 17
query_size m op names few = let h = params_size (seen_in_class (op_class m op)) names (op_params m op) in omega (arith, h, few)

pub statements_size : (m : ObjectModel) (op : ℕ) (names : List (List ℕ)) → length (op_params m op) ≤ 16 → Size (seen_by_statements m op names) ≤ 18
statements_size m op names few =
    let h = result_size (seen_by_query m op names) (op_result m op) in
    let k = query_size m op names few in
    omega (arith, h, k)

pub contract_size : (m : ObjectModel) (op : ℕ) (names : List (List ℕ)) (is_post : Bool) → length (op_params m op) ≤ 16 →
    Size (seen_by_contract m op names is_post) ≤ 18
contract_size m op names true few = statements_size m op names few
contract_size m op names false few = let h = query_size m op names few in omega (arith, h)

pub invariant_size : (class : ℕ) (variable : Option (List ℕ)) → Size (seen_by_invariant class variable) ≤ 1
invariant_size class None = omega arith
invariant_size class (Some name) = omega arith

-- so there is room for the values of an expression, and for one more
pub class_room : (vs : Variables) (class : ℕ) → vs ≡ seen_in_class class → Size vs < 2 ^ 31
class_room vs class e = subst (λ (v : Variables). Size v < 2 ^ 31) (sym e) (omega arith)

pub params_room : (vs : Variables) (class n : ℕ) → vs ≡ seen_in_class class → n ≤ 16 → Size vs + n < 2 ^ 32
params_room vs class n e few = subst (λ (v : Variables). Size v + n < 2 ^ 32) (sym e) (omega (arith, few))

pub query_room : (vs : Variables) (m : ObjectModel) (op : ℕ) (names : List (List ℕ)) → vs ≡ seen_by_query m op names → length (op_params m op) ≤ 16 →
    Size vs < 2 ^ 31
query_room vs m op names e few = subst (λ (v : Variables). Size v < 2 ^ 31) (sym e) (let h = query_size m op names few in omega (arith, h))

pub result_room : (vs : Variables) (m : ObjectModel) (op : ℕ) (names : List (List ℕ)) → vs ≡ seen_by_query m op names → length (op_params m op) ≤ 16 →
    Size vs + 1 < 2 ^ 32
result_room vs m op names e few = let h = query_room vs m op names e few in omega (arith, h)

pub contract_room : (vs : Variables) (m : ObjectModel) (op : ℕ) (names : List (List ℕ)) (is_post : Bool) → vs ≡ seen_by_contract m op names is_post →
    length (op_params m op) ≤ 16 → Size vs < 2 ^ 31
contract_room vs m op names is_post e few =
    subst (λ (v : Variables). Size v < 2 ^ 31) (sym e) (let h = contract_size m op names is_post few in omega (arith, h))

pub invariant_room : (vs : Variables) (class : ℕ) (variable : Option (List ℕ)) → vs ≡ seen_by_invariant class variable → Size vs < 2 ^ 31
invariant_room vs class variable e =
    subst (λ (v : Variables). Size v < 2 ^ 31) (sym e) (let h = invariant_size class variable in omega (arith, h))

-- parameters under names, one after another
pub no_more_params : (vs : Variables) (ns : List (List ℕ)) → with_params vs ns [] ≡ vs
no_more_params vs [] = refl
no_more_params vs (n ∷ ns) = refl
