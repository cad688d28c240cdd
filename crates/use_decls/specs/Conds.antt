-- Invariants and contracts, and the names of those that write none.
use Rattle.std.specs.Prelude.{ℕ, suc, ◌+◌, Bool, ◌&&◌, if◌then◌else◌, List, [], ◌∷◌, ◌++◌, length, count_by, Option, Some, None, unwrap_or}
use Rattle.std.specs.Fmt.{decimal}
use Rattle.std.specs.List.{filter_map, flat_map}
use Rattle.std.specs.Option.{option_map, option_map_or, option_to_list}
use Rattle.use_text.specs.declared.token.TokenKind.TheVariants as k
use Rattle.use_text.specs.Pieces.{same_text}
use Rattle.grammar_core.specs.Trees.{ParseTree}
use Rattle.use_nodes.specs.declared.models.ContextNode.{ContextNode}
use Rattle.use_nodes.specs.Nodes.{and_then, child, is_token}
use Rattle.use_nodes.specs.ModelNodes.{class_node, cond_node, constraints_node, context_node, head_node, inv_node, oper_node}
use Rattle.class_decls.specs.declared.decls.BodyKind.TheVariants.{Bare}
use Rattle.class_decls.specs.declared.decls.CondDecl.{CondDecl}
use Rattle.class_decls.specs.declared.decls.CondKind.{CondKind}
use Rattle.class_decls.specs.declared.decls.CondKind.TheVariants.{Inv, Pre, Post}
use Rattle.class_decls.specs.declared.decls.Name.{Name}
use Rattle.class_decls.specs.declared.decls.OpDecl.{OpDecl}
use Rattle.class_decls.specs.declared.decls.OpOf.{OpOf}
use Rattle.class_decls.specs.declared.decls.OpOf.TheVariants.{Here, Named}
use Rattle.class_decls.specs.Names.{op_text}
use Rattle.use_decls.specs.declared.conds.CondPart.{CondPart}
use Rattle.use_decls.specs.declared.conds.Oper.{Oper}
use Rattle.use_decls.specs.declared.conds.Oper.TheVariants.{BesideHead, InContext}
use Rattle.use_decls.specs.declared.positions.Group.{Group}
use Rattle.use_decls.specs.Names.{LexedText, name_at}
use Rattle.use_decls.specs.Classes.{head_decl}

-- an invariant of a class, as it is written
abbrev pub inv_part : LexedText → ParseTree → ParseTree → Option CondPart
inv_part l class t = and_then (inv_node t) (λ node. and_then (child 0 t) (λ word.
    Some (record { kind = Inv; class = name_at l class; word = name_at l word; written = option_map (name_at l) node.name })))

-- the operation of contracts, by where its head stands: that of a context by the head's place among those of all contexts
abbrev pub op_at : LexedText → Oper → OpOf
op_at l (BesideHead head) = Here (name_at l head.name)
op_at l (InContext at) = Named at

-- a contract of an operation is a precondition or a postcondition
abbrev pub contract_kind : ParseTree → OpOf → CondKind
contract_kind word op = if is_token k.Pre word then Pre op else Post op

abbrev pub contract_part : LexedText → ParseTree → OpOf → ParseTree → Option CondPart
contract_part l class op t = and_then (cond_node t) (λ node.
    Some (record { kind = contract_kind node.kind op; class = name_at l class; word = name_at l node.kind; written = option_map (name_at l) node.name }))

-- the contracts behind the head of an operation of a class
abbrev pub oper_conds : LexedText → ParseTree → ParseTree → List CondPart
oper_conds l class t = option_map_or (λ node. option_map_or (λ head.
    filter_map (contract_part l class (op_at l (BesideHead head))) node.conditions) (head_node node.head) []) (oper_node t) []

-- a class has its operations before its own invariants
abbrev pub class_conds : LexedText → ParseTree → List CondPart
class_conds l t = option_map_or (λ node.
    flat_map (oper_conds l node.name) node.operations ++ filter_map (inv_part l node.name) node.invariants) (class_node t) []

-- the class of a context stands behind its variable, if there is one
abbrev pub context_class : ContextNode → ParseTree
context_class node = unwrap_or node.class node.name

-- the head that a context names, if it names one
abbrev pub heads_in : LexedText → ParseTree → List OpDecl
heads_in l t = option_to_list (and_then (context_node t) (λ node. and_then node.head (λ h. option_map (head_decl l Bare) (head_node h))))

-- the heads that the contexts of a declaration name, in the order of the text
abbrev pub heads_at : LexedText → ParseTree → List OpDecl
heads_at l t = option_map_or (λ node. flat_map (heads_in l) node.contexts) (constraints_node t) []

-- a context has invariants of a class, or contracts of the operation whose head it names behind n others
abbrev pub context_parts : LexedText → ℕ → ContextNode → Option ParseTree → List CondPart
context_parts l n node None = filter_map (inv_part l (context_class node)) node.invariants
context_parts l n node (Some t) = option_map_or (λ head.
    filter_map (contract_part l (context_class node) (op_at l (InContext n))) node.conditions) (head_node t) []

abbrev pub context_conds : LexedText → ℕ → ParseTree → List CondPart
context_conds l n t = option_map_or (λ node. context_parts l n node node.head) (context_node t) []

-- what conds gives of each tree and the number of heads before it, where n stand before them all
abbrev pub behind_heads : (ParseTree → List OpDecl) → (ℕ → ParseTree → List CondPart) → ℕ → List ParseTree → List CondPart
behind_heads heads conds n [] = []
behind_heads heads conds n (t ∷ ts) = conds n t ++ behind_heads heads conds (n + length (heads t)) ts

abbrev pub constraints_conds : LexedText → ℕ → ParseTree → List CondPart
constraints_conds l n t = option_map_or (λ node. behind_heads (heads_in l) (context_conds l) n node.contexts) (constraints_node t) []

-- the conditions of a declaration behind n heads of contexts, in the order of the text
abbrev pub conds_at : LexedText → ℕ → ParseTree → List CondPart
conds_at l n t = class_conds l t ++ constraints_conds l n t

-- the name of a contract's operation, where contexts name some heads; that of an invariant is empty
abbrev pub op_of_kind : List OpDecl → CondKind → List ℕ
op_of_kind context_heads Inv = []
op_of_kind context_heads (Pre op) = op_text context_heads op
op_of_kind context_heads (Post op) = op_text context_heads op

-- conditions that are counted together have one word, class and operation: the invariants of a class, and the preconditions and the
-- postconditions of each operation's name in it
abbrev pub group_of : List OpDecl → CondPart → Group
group_of context_heads part = record { word = part.word.text; class = part.class.text; op = op_of_kind context_heads part.kind }

abbrev pub is_group : Group → Group → Bool
is_group a b = same_text a.word b.word && same_text a.class b.class && same_text a.op b.op

abbrev pub is_in : List OpDecl → Group → CondPart → Bool
is_in context_heads group part = is_group (group_of context_heads part) group

-- the name of the n-th condition of its group, where it writes none: its word and the number, at the word
abbrev pub name_or : ℕ → Name → Option Name → Name
name_or n word None = record { text = word.text ++ decimal n; place = word.place }
name_or n word (Some name) = name

abbrev pub cond_decl : ℕ → CondPart → CondDecl
cond_decl n part = record { kind = part.kind; class = part.class; name = name_or n part.word part.written }

-- the conditions with their names, behind those that stand before them
abbrev pub named_behind : List OpDecl → List CondPart → List CondPart → List CondDecl
named_behind context_heads before [] = []
named_behind context_heads before (part ∷ rest) =
    cond_decl (suc (count_by (is_in context_heads (group_of context_heads part)) before)) part
    ∷ named_behind context_heads (before ++ part ∷ []) rest
