-- What the rules of declarations look up by name.
use Rattle.std.specs.Prelude.{◌≡◌, ℕ, List}
use Rattle.std.specs.BTreeMap.{BTreeMap}
use Rattle.class_decls.specs.declared.decls.Decls.{Decls}
use Rattle.class_rules.specs.Features.{roles_of_class}
use Rattle.class_rules.specs.Groups.{listed}
use Rattle.class_rules.specs.Operations.{contract_classes}

-- the roles by class, and the classes of contracts by operation
pub record IsIndexOf (ds : Decls) (roles contracts : BTreeMap (List ℕ) (List (List ℕ))) : Type 0 where
  pub roles_by_class : (name : List ℕ) → listed roles name ≡ roles_of_class ds.assocs name
  pub contracts_by_operation : (name : List ℕ) → listed contracts name ≡ contract_classes ds name
