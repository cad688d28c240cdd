-- Associations.
use Rattle.std.specs.Prelude.{ℕ, ℤ, pos, List, Option, Some, unwrap_or}
use Rattle.std.specs.List.{filter_map, flat_map}
use Rattle.grammar_core.specs.Trees.{ParseTree}
use Rattle.use_nodes.specs.declared.parts.Select.TheVariants as s
use Rattle.use_nodes.specs.declared.models.MultNode.{MultNode}
use Rattle.use_nodes.specs.Nodes.{and_then, parts}
use Rattle.use_nodes.specs.ModelNodes.{assoc_end_node, assoc_node, mult_node}
use Rattle.class_decls.specs.declared.decls.AssocDecl.{AssocDecl}
use Rattle.class_decls.specs.declared.decls.EndDecl.{EndDecl}
use Rattle.class_decls.specs.declared.decls.MultPart.{MultPart}
use Rattle.use_decls.specs.Names.{LexedText, name_at, number_at, role_at, text_at}

-- the lower bound of a part of a multiplicity; that of `*` is 0
abbrev pub low_at : LexedText → MultNode → ℤ
low_at l node = unwrap_or (number_at l node.low) (pos 0)

-- the upper bound stands behind `..`, or is the lower one; `*` is none
abbrev pub high_at : LexedText → MultNode → Option ℤ
high_at l node = number_at l (unwrap_or node.high node.low)

-- its tokens, with no white space between them
abbrev pub mult_text : LexedText → ParseTree → List ℕ
mult_text l t = flat_map (text_at l) (parts s.Tokens t)

abbrev pub mult_part : LexedText → ParseTree → Option MultPart
mult_part l t = and_then (mult_node t) (λ node.
    Some (record { place = (name_at l node.low).place; text = mult_text l t; low = low_at l node; high = high_at l node }))

abbrev pub end_decl : LexedText → ParseTree → Option EndDecl
end_decl l t = and_then (assoc_end_node t) (λ node. Some (record {
  class = name_at l node.class;
  parts = filter_map (mult_part l) node.multiplicities;
  role = role_at l node.class node.role;
  is_ordered = node.is_ordered;
}))

abbrev pub assoc_decl : LexedText → ParseTree → Option AssocDecl
assoc_decl l t = and_then (assoc_node t) (λ node. and_then (end_decl l node.first) (λ first. and_then (end_decl l node.second) (λ second.
    Some (record { name = name_at l node.name; first = first; second = second }))))
