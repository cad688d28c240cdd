-- Levels of collections: a node that passes the rule of levels nests no more collections than it may.
use Rattle.std.proofs.Common.{◌≡◌, ℕ, ◌<◌, suc, ◌≤◌, Bool, true, false, nat_lt, cond, arith, refl, subst}
use Rattle.std.proofs.lemmas.Bool.Decides.{nat_tests}
use Rattle.std.specs.Prelude.{Err, IfOk, Ok, Result}
use Rattle.use_text.specs.declared.place.Place.{Place}
use Rattle.class_model.specs.declared.types.OclType.{OclType, more_of-OclType}
use Rattle.class_model.specs.declared.types.OclType.TheVariants as T
use Rattle.ocl_rules.specs.declared.fault.TypeFault.{TypeFault}
use Rattle.ocl_rules.specs.declared.typed.Typed.{Typed}
use Rattle.ocl_rules.specs.Forms.{level_rule, levels, max_levels}
use Rattle.ocl_rules.specs.Typings.{Tells, Typing, breaks_t, typed}
use Rattle.ocl_scope.specs.Calls.{is_collection}
use Rattle.ocl_types.specs.Parts.{IsShallow}

by_test : (place : Place) (x y : Typed) (b : Bool) → nat_lt max_levels (levels x.of_type) ≡ b →
    cond b (breaks_t 16 place) (typed x.expr x.of_type) ≡ Ok y → IsShallow y
by_test place x y true e is = absurd (cc)
by_test place x y false e is =
    let low : levels x.of_type ≤ 256 = grind (arith, nat_tests, e) in
    let same : record { expr = x.expr; of_type = x.of_type } ≡ y = cc in
    subst IsShallow same low

pub shallow_told : (place : Place) (x : Typed) (r : Result Typed TypeFault) → Tells (level_rule place x) r → IfOk r IsShallow
shallow_told place x (Ok y) e = by_test place x y (nat_lt max_levels (levels x.of_type)) refl e
shallow_told place x (Err f) e = tt
