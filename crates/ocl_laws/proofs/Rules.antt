-- What each rule is asked to keep: something of what is typed, in its environment, and of the places of refusals.
use Rattle.std.proofs.Common.{◌≡◌, ℕ, ◌+◌, Bool, cond, List, Option}
use Rattle.std.specs.List.{AllByRecursion}
use Rattle.std.specs.Option.{IfSome}
use Rattle.use_text.specs.declared.place.Place.{Place}
use Rattle.ocl_values.specs.declared.value.Kind.{Kind}
use Rattle.class_decls.specs.declared.decls.Name.{Name}
use Rattle.class_decls.specs.declared.decls.TypeDecl.{TypeDecl}
use Rattle.class_model.specs.declared.object_model.ObjectModel.{ObjectModel}
use Rattle.class_model.specs.declared.types.OclType.{OclType}
use Rattle.ocl_core.specs.declared.operators.IterOp.{IterOp}
use Rattle.ocl_syntax.specs.declared.tree.WrittenBinary.{WrittenBinary}
use Rattle.ocl_syntax.specs.declared.tree.WrittenLiteral.{WrittenLiteral}
use Rattle.ocl_syntax.specs.declared.tree.WrittenUnary.{WrittenUnary}
use Rattle.ocl_rules.specs.CollectionOperations.{collection_operation}
use Rattle.ocl_rules.specs.declared.typed.Typed.{Typed}
use Rattle.ocl_rules.specs.declared.typed.TypedPart.{TypedPart}
use Rattle.ocl_rules.specs.declared.typed.TypedPart.TheVariants as P
use Rattle.ocl_rules.specs.Forms.{collection_rule, if_rule, let_rule, level_rule, levels}
use Rattle.ocl_rules.specs.Iterators.{iterate_rule, iterator_rule}
use Rattle.ocl_rules.specs.Operators.{binary_rule, unary_rule}
use Rattle.ocl_scope.specs.Environments.{with_values}
use Rattle.ocl_scope.specs.Literals.{only_literal_rule}
use Rattle.ocl_scope.specs.Names.{declared_type, type_named}
use Rattle.ocl_scope.specs.declared.environment.Environment.{Environment}
use Rattle.ocl_scope.specs.declared.given.Given.{Given}
use Rattle.ocl_scope.specs.declared.given.Given.TheVariants as G
use Rattle.ocl_scope.specs.declared.given.TypeArgument.{TypeArgument}
use Rattle.ocl_scope.specs.declared.given.TypeArgument.TheVariants as A
use Rattle.ocl_shapes.specs.Arrows.{operation_called}
use Rattle.ocl_shapes.specs.Extents.{extent}
use Rattle.ocl_shapes.specs.Members.{called, property}
use Rattle.ocl_shapes.specs.Named.{named_by, type_found}
use Rattle.ocl_shapes.specs.Sources.{asks_elements, elements_of}
use Rattle.ocl_shapes.specs.declared.elements.Elements.{Elements}
use Rattle.ocl_types.specs.Nodes.{bound, literal, with_implicit, with_named}
use Rattle.ocl_laws.proofs.Comes.{Comes}

module _ (At : Place → Type 0) (IsType : OclType → Type 0) (Keeps : Environment → Typed → Type 0) where
  abbrev pub PartKeeps : Environment → TypedPart → Type 0
  PartKeeps env (P.One x) = Keeps env x
  PartKeeps env (P.Range place x y) = At place × Keeps env x × Keeps env y

  abbrev pub TypeKeeps : TypeArgument → Type 0
  TypeKeeps (A.OfType t) = IsType t
  TypeKeeps (A.NoType place) = At place

  abbrev pub GivenKeeps : Environment → Given → Type 0
  GivenKeeps env (G.Values xs plain) = AllByRecursion (Keeps env) xs
  GivenKeeps env (G.Types ts plain) = AllByRecursion TypeKeeps ts

  abbrev pub ElementsKeep : Environment → Elements → Type 0
  ElementsKeep env es = IsType es.element × Keeps env es.source

-- the environment of the arguments of a call behind a dot
abbrev pub argument_env : Environment → Typed → Name → Environment
argument_env env x name = cond (asks_elements x.of_type name.text) (with_values env (levels x.of_type)) env

pub record Rules (m : ObjectModel) (is_post : Bool) (At : Place → Type 0) (IsEnv : Environment → Type 0)
    (IsType : OclType → Type 0) (Keeps : Environment → Typed → Type 0) : Type 0 where
  pub types : (env : Environment) (x : Typed) → Keeps env x → IsType x.of_type
  pub names : (env : Environment) (name : Name) (t : OclType) → IsEnv env → IsType t → IsEnv (with_named env name t)
  pub implicit : (env : Environment) (t : OclType) → IsEnv env → IsType t → IsEnv (with_implicit env t)
  pub more : (env : Environment) (x : Typed) (name : Name) → IsEnv env → Keeps env x → IsEnv (argument_env env x name)
  pub declares : (env : Environment) (d : TypeDecl) → At d.name.place → Comes At IsType (declared_type m env d)
  pub asks : (env : Environment) (name : Name) → At name.place → Comes At (TypeKeeps At IsType Keeps) (type_found m env name (type_named m name.text))
  pub elements : (env : Environment) (x : Typed) → Keeps env x → ElementsKeep At IsType Keeps env (elements_of x)
  pub literal : (env : Environment) (l : WrittenLiteral) → Comes At (Keeps env) (literal l)
  pub only_literal : (env : Environment) (name : Name) → At name.place → Comes At (Keeps env) (only_literal_rule m name)
  pub unary : (env : Environment) (place : Place) (op : WrittenUnary) (x : Typed) → At place → Keeps env x →
      Comes At (Keeps env) (unary_rule m place op x)
  pub binary : (env : Environment) (place : Place) (op : WrittenBinary) (x y : Typed) → At place → Keeps env x → Keeps env y →
      Comes At (Keeps env) (binary_rule m place op x y)
  pub choice : (env : Environment) (place : Place) (x y z : Typed) → At place → Keeps env x → Keeps env y → Keeps env z →
      Comes At (Keeps env) (if_rule m place x y z)
  pub bind : (env : Environment) (name : Name) (place : Place) (declared : Option OclType) (x y : Typed) → At place →
      Keeps env x → Keeps (with_named env name (bound declared x.of_type)) y → Comes At (Keeps env) (let_rule m place declared x y)
  pub collection : (env : Environment) (kind : Kind) (xs : List TypedPart) → AllByRecursion (PartKeeps At IsType Keeps env) xs →
      Comes At (Keeps env) (collection_rule m kind xs)
  pub named : (env : Environment) (name : Name) (is_before : Bool) (literal : Option Name) (given : Option Given) → IsEnv env → At name.place →
      IfSome literal (λ n. At n.place) → IfSome given (GivenKeeps At IsType Keeps env) →
      Comes At (Keeps env) (named_by m is_post env name is_before literal given)
  pub instances : (env : Environment) (class name : Name) (is_before takes_none : Bool) → At class.place → At name.place →
      Comes At (Keeps env) (extent m is_post env class name is_before takes_none (type_named m class.text))
  pub property : (env : Environment) (name : Name) (is_before : Bool) (x : Typed) → At name.place → Keeps env x →
      Comes At (Keeps env) (property m is_post env name is_before x)
  pub call : (env : Environment) (name : Name) (is_before : Bool) (x : Typed) (given : Given) → At name.place → Keeps env x →
      GivenKeeps At IsType Keeps (argument_env env x name) given →
      Comes At (Keeps env) (called m is_post env name is_before x (asks_elements x.of_type name.text) given)
  pub iterator : (env inner : Environment) (place : Place) (op : IterOp) (kind : Kind) (element : OclType) (count : ℕ) (variables : List (Option OclType))
      (body_place : Place) (source body : Typed) → inner.size ≡ env.size + count → At place → At body_place → IsType element → Keeps env source →
      Keeps inner body → Comes At (Keeps env) (iterator_rule m place op kind element count variables body_place source body)
  pub iterate : (env inner : Environment) (place : Place) (element : OclType) (variable : Option OclType) (t : OclType) (start_place body_place : Place)
      (source start body : Typed) → inner.size ≡ env.size + 2 → At place → At start_place → At body_place → IsType t → Keeps env source →
      Keeps env start → Keeps inner body → Comes At (Keeps env) (iterate_rule m place element variable t start_place body_place source start body)
  pub operation : (env : Environment) (name : Name) (es : Elements) (xs : List Typed) (plain : Bool) → At name.place →
      ElementsKeep At IsType Keeps env es → AllByRecursion (Keeps env) xs →
      Comes At (Keeps env) (operation_called m name es xs plain (collection_operation name.text))
  pub leveled : (env : Environment) (place : Place) (x : Typed) → At place → Keeps env x → Comes At (Keeps env) (level_rule place x)
