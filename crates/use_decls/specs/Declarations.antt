-- What a model declares.
use Rattle.std.specs.Prelude.{ℕ, List, []}
use Rattle.std.specs.List.{filter_map, flat_map}
use Rattle.std.specs.Option.{option_map_or}
use Rattle.use_text.specs.Places.{place_at}
use Rattle.use_text.specs.declared.token.Token.{Token}
use Rattle.grammar_core.specs.Trees.{ParseTree}
use Rattle.use_nodes.specs.declared.models.FileNode.{FileNode}
use Rattle.use_nodes.specs.ModelNodes.{file_node}
use Rattle.class_decls.specs.declared.decls.ClassDecl.{ClassDecl}
use Rattle.class_decls.specs.declared.decls.Decls.{Decls}
use Rattle.use_decls.specs.Names.{LexedText, name_at}
use Rattle.use_decls.specs.Classes.{class_decl, enum_decl}
use Rattle.use_decls.specs.Assocs.{assoc_decl}
use Rattle.use_decls.specs.Conds.{behind_heads, conds_at, heads_at, named_behind}

-- the declarations of a model, each list in the order of the text
abbrev pub file_decls : LexedText → FileNode → Decls
file_decls l file = record {
  name = name_at l file.name;
  enums = filter_map (enum_decl l) file.declarations;
  classes = filter_map (class_decl l) file.declarations;
  assocs = filter_map (assoc_decl l) file.declarations;
  conds = named_behind (flat_map (heads_at l) file.declarations) [] (behind_heads (heads_at l) (conds_at l) 0 file.declarations);
  context_heads = flat_map (heads_at l) file.declarations;
}

-- the tree of a command declares nothing
abbrev pub no_decls : Decls
no_decls = record { name = record { text = []; place = place_at 0 0 }; enums = []; classes = []; assocs = []; conds = []; context_heads = [] }

-- the declarations of a model that was read as a tree of these tokens of a text
abbrev pub decls_of : List ℕ → List Token → ParseTree → Decls
decls_of text tokens tree = option_map_or (file_decls (record { text = text; tokens = tokens })) (file_node tree) no_decls
