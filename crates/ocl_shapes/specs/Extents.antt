-- `allInstances`, where its arguments are typed.
use Rattle.std.specs.Prelude.{Bool, if◌then◌else◌, codes, Option, Some, None}
use Rattle.use_text.specs.Pieces.{same_text}
use Rattle.ocl_values.specs.declared.value.Kind.TheVariants.{Set}
use Rattle.class_decls.specs.declared.decls.Name.{Name}
use Rattle.class_model.specs.declared.object_model.ObjectModel.{ObjectModel}
use Rattle.class_model.specs.declared.types.OclType.{OclType}
use Rattle.class_model.specs.declared.types.OclType.TheVariants as T
use Rattle.ocl_core.specs.declared.expression.Expr.TheVariants as E
use Rattle.ocl_syntax.specs.declared.tree.Written.{Written}
use Rattle.ocl_rules.specs.declared.typed.Typed.{Typed}
use Rattle.ocl_rules.specs.Properties.{may_stand, when_of}
use Rattle.ocl_rules.specs.Typings.{Typing, breaks_n, breaks_t, typed}
use Rattle.ocl_scope.specs.Names.{finds_value}
use Rattle.ocl_scope.specs.declared.environment.Environment.{Environment}
use Rattle.ocl_shapes.specs.Shapes.{plain_name}

-- the class whose instances are asked for
abbrev pub class_asked : Written → Name → Option Name
class_asked source name = if same_text name.text (codes "allInstances") then plain_name source else None

-- the instances of a class: other types have none
abbrev pub instances : Name → Bool → OclType → Typing Typed
instances class is_before (T.Class c) = typed (E.Extent c (when_of is_before)) (T.Coll Set (T.Class c))
instances class is_before _ = breaks_t 13 class.place

-- the instances of what a name stands for: a name that is neither a type's nor finds a value N1, arguments T2, a value in place of a type T8, `@pre`
-- outside a postcondition T9
abbrev pub extent : ObjectModel → Bool → Environment → Name → Name → Bool → Bool → Option OclType → Typing Typed
extent m is_post env class name is_before takes_none None =
    if finds_value m env class.text
    then (if takes_none then breaks_t 8 class.place else breaks_t 2 name.place)
    else breaks_n 1 class.place
extent m is_post env class name is_before takes_none (Some t) =
    if takes_none
    then (if may_stand is_post is_before then instances class is_before t else breaks_t 9 name.place)
    else breaks_t 2 name.place
