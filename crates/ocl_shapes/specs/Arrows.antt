-- What stands behind an arrow: operations of collections, and iterators without the form of one.
use Rattle.std.specs.Prelude.{Bool, if◌then◌else◌, List, Option, Some, None}
use Rattle.class_decls.specs.declared.decls.Name.{Name}
use Rattle.class_model.specs.declared.object_model.ObjectModel.{ObjectModel}
use Rattle.ocl_rules.specs.CollectionOperations.{collection_call_rule}
use Rattle.ocl_rules.specs.declared.collection_table.CollectionOperation.{CollectionOperation}
use Rattle.ocl_rules.specs.declared.typed.Typed.{Typed}
use Rattle.ocl_rules.specs.Typings.{Typing, breaks_n, breaks_t}
use Rattle.ocl_shapes.specs.declared.elements.Elements.{Elements}

-- an iterator whose arguments have no such form
abbrev pub malformed : Name → Typing Typed
malformed name = breaks_t 7 name.place

-- an operation of a collection, where its arguments are typed
abbrev pub operation_called : ObjectModel → Name → Elements → List Typed → Bool → Option CollectionOperation → Typing Typed
operation_called m name es args is_plain None = breaks_n 2 name.place
operation_called m name es args is_plain (Some row) =
    if is_plain then collection_call_rule m name.place row es.kind es.element es.source args else breaks_t 2 name.place
