-- What bodies, invariants and contracts see.
use Rattle.std.specs.Prelude.{ℕ, Bool, true, false, List, [], ◌∷◌, codes, if◌then◌else◌, Option, Some, None}
use Rattle.std.specs.List.{filter_map}
use Rattle.std.specs.Option.{option_map, option_map_or}
use Rattle.grammar_core.specs.Trees.{ParseTree}
use Rattle.use_nodes.specs.declared.models.HeadNode.{HeadNode}
use Rattle.use_nodes.specs.ModelNodes.{param_node, params_node}
use Rattle.use_decls.specs.Names.{LexedText, text_at}
use Rattle.class_model.specs.declared.object_model.ObjectModel.{ObjectModel}
use Rattle.class_model.specs.declared.object_model.Parameter.{Parameter}
use Rattle.class_model.specs.declared.types.OclType.{OclType}
use Rattle.class_model.specs.declared.types.OclType.TheVariants as T
use Rattle.class_model.specs.Parts.{op_class, op_params, op_result}
use Rattle.ocl_scope.specs.Environments.{with_name}
use Rattle.soil_scope.specs.declared.variables.Role.TheVariants.{Fixed}
use Rattle.soil_scope.specs.declared.variables.Variables.{Variables}
use Rattle.soil_scope.specs.Variables.{no_values, with_fixed, with_local, with_value}

-- an object of a class: `self`, whose properties may be named without it
abbrev pub seen_in_class : ℕ → Variables
seen_in_class class = with_value Fixed no_values (Some (codes "self")) (T.Class class) true

-- the same object under another name, where a context gives it one
abbrev pub also_named : Variables → ℕ → Option (List ℕ) → Variables
also_named vs class None = vs
also_named vs class (Some name) = record { environment = with_name vs.environment name (T.Class class) 0; roles = vs.roles }

abbrev pub seen_by_invariant : ℕ → Option (List ℕ) → Variables
seen_by_invariant class variable = also_named (seen_in_class class) class variable

-- the names that a head gives its parameters
abbrev pub param_name : LexedText → ParseTree → Option (List ℕ)
param_name l t = option_map (λ node. text_at l node.name) (param_node t)

abbrev pub names_at : LexedText → Option ParseTree → List (List ℕ)
names_at l None = []
names_at l (Some t) = option_map_or (λ node. filter_map (param_name l) node.parameters) (params_node t) []

abbrev pub param_names : LexedText → HeadNode → List (List ℕ)
param_names l head = names_at l head.parameters

-- parameters under these names
abbrev pub with_params : Variables → List (List ℕ) → List Parameter → Variables
with_params vs [] ps = vs
with_params vs (n ∷ ns) [] = vs
with_params vs (n ∷ ns) (p ∷ ps) = with_params (with_fixed vs n p.of_type) ns ps

abbrev pub seen_by_query : ObjectModel → ℕ → List (List ℕ) → Variables
seen_by_query m op names = with_params (seen_in_class (op_class m op)) names (op_params m op)

-- `result`, where an operation has one
abbrev pub with_result : Variables → Option OclType → Variables
with_result vs None = vs
with_result vs (Some t) = with_local vs (codes "result") t

abbrev pub seen_by_statements : ObjectModel → ℕ → List (List ℕ) → Variables
seen_by_statements m op names = with_result (seen_by_query m op names) (op_result m op)

-- a postcondition sees what statements see, and a precondition what a query sees
abbrev pub seen_by_contract : ObjectModel → ℕ → List (List ℕ) → Bool → Variables
seen_by_contract m op names is_post = if is_post then seen_by_statements m op names else seen_by_query m op names
