-- The operations of each class by name.
use denote.Ref.{Bor}
use Rattle.std.specs.Prelude.{◌≡◌, ⊤, ℕ, List, [], ◌∷◌, map, Option}
use Rattle.std.specs.BTreeMap.{BTreeMap}
use Rattle.class_decls.specs.declared.decls.ClassDecl.{ClassDecl}
use Rattle.class_decls.specs.declared.decls.Decls.{Decls}
use Rattle.class_decls.specs.declared.decls.OpDecl.{OpDecl}
use Rattle.class_rules.specs.Groups.{listed}
use Rattle.class_rules.specs.Numbering.{class_at}
use Rattle.class_rules.specs.Operations.{ops_named}

-- those of a class
abbrev pub IsOpsOf : BTreeMap (List ℕ) (List (Bor OpDecl)) → ClassDecl → Type 0
IsOpsOf groups c = (name : List ℕ) → map (λ op. op.now) (listed groups name) ≡ ops_named name c.ops

-- those of some classes
abbrev pub AreOpsOf : List (BTreeMap (List ℕ) (List (Bor OpDecl))) → List ClassDecl → Type 0
AreOpsOf [] [] = ⊤
AreOpsOf (groups ∷ more) (c ∷ cs) = IsOpsOf groups c × AreOpsOf more cs
AreOpsOf _ _ = ⊥

-- where the classes of declarations stand, and the operations of each
pub record IsDeclaredOf (ds : Decls) (places : List ℕ → Option ℕ) (ops : List (BTreeMap (List ℕ) (List (Bor OpDecl)))) : Type 0 where
  pub placed : (name : List ℕ) → places name ≡ class_at ds name
  pub each : AreOpsOf ops ds.classes
