-- Types as they are written.
use Rattle.std.specs.Prelude.{ℕ, zero, suc, if◌then◌else◌, List, [], ◌∷◌, ◌++◌, Option, Some, None}
use Rattle.use_text.specs.declared.token.TokenKind.TheVariants as k
use Rattle.grammar_core.specs.Trees.{ParseTree}
use Rattle.use_nodes.specs.declared.types.TypeNode.{TypeNode}
use Rattle.use_nodes.specs.Nodes.{is_token}
use Rattle.use_nodes.specs.TypeNodes.{type_node}
use Rattle.ocl_values.specs.declared.value.Kind.{Kind}
use Rattle.ocl_values.specs.declared.value.Kind.TheVariants.{Set, OrderedSet, Bag, Sequence}
use Rattle.class_decls.specs.declared.decls.TypeDecl.{TypeDecl}
use Rattle.use_decls.specs.Names.{LexedText, name_at}

-- the kind of collection that a word names
abbrev pub kind_at : ParseTree → Kind
kind_at word =
    if is_token k.Set word then Set
    else (if is_token k.OrderedSet word then OrderedSet else (if is_token k.Bag word then Bag else Sequence))

-- a name in collections of these kinds, from the outside in
abbrev pub named_type : LexedText → List Kind → ParseTree → TypeDecl
named_type l outer word = record { kinds = outer; name = name_at l word }

-- what stands at a type's node in such collections, where `inside` gives what stands at a node in them
abbrev pub type_at : (List Kind → ParseTree → TypeDecl) → LexedText → List Kind → TypeNode → Option ParseTree → TypeDecl
type_at inside l outer node None = named_type l outer node.word
type_at inside l outer node (Some element) = inside (outer ++ kind_at node.word ∷ []) element

abbrev pub type_of_node : (List Kind → ParseTree → TypeDecl) → LexedText → List Kind → ParseTree → Option TypeNode → TypeDecl
type_of_node inside l outer t None = named_type l outer t
type_of_node inside l outer t (Some node) = type_at inside l outer node node.element

-- a type in such collections that nests at most n deep
abbrev pub type_in : ℕ → LexedText → List Kind → ParseTree → TypeDecl
type_in zero l outer t = named_type l outer t
type_in (suc n) l outer t = type_of_node (type_in n l) l outer t (type_node t)

-- no type that was read nests deeper
abbrev pub max_depth : ℕ
max_depth = 200

unfoldable pub type_decl : LexedText → ParseTree → TypeDecl
type_decl l t = type_in max_depth l [] t
