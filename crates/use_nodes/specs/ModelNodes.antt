-- The parts of the nodes of models.
use Rattle.std.specs.Prelude.{Option, Some}
use Rattle.grammar_core.specs.Trees.{ParseTree}
use Rattle.use_text.specs.declared.token.TokenKind.TheVariants as k
use Rattle.use_syntax.specs.declared.rule.Rule.TheVariants as r
use Rattle.use_nodes.specs.declared.parts.Select.TheVariants as s
use Rattle.use_nodes.specs.Nodes.{and_then, behind, child, has, of, part, parts, second_but}
use Rattle.use_nodes.specs.declared.models.EnumNode.{EnumNode}
use Rattle.use_nodes.specs.declared.models.ParamNode.{ParamNode}
use Rattle.use_nodes.specs.declared.models.ParamsNode.{ParamsNode}
use Rattle.use_nodes.specs.declared.models.HeadNode.{HeadNode}
use Rattle.use_nodes.specs.declared.models.CondNode.{CondNode}
use Rattle.use_nodes.specs.declared.models.InvNode.{InvNode}
use Rattle.use_nodes.specs.declared.models.OperNode.{OperNode}
use Rattle.use_nodes.specs.declared.models.AttributeNode.{AttributeNode}
use Rattle.use_nodes.specs.declared.models.ParentsNode.{ParentsNode}
use Rattle.use_nodes.specs.declared.models.ClassNode.{ClassNode}
use Rattle.use_nodes.specs.declared.models.MultNode.{MultNode}
use Rattle.use_nodes.specs.declared.models.AssocEndNode.{AssocEndNode}
use Rattle.use_nodes.specs.declared.models.AssocNode.{AssocNode}
use Rattle.use_nodes.specs.declared.models.ContextNode.{ContextNode}
use Rattle.use_nodes.specs.declared.models.ConstraintsNode.{ConstraintsNode}
use Rattle.use_nodes.specs.declared.models.FileNode.{FileNode}

abbrev pub enum_node : ParseTree → Option EnumNode
enum_node t = of r.Enum t (and_then (behind k.Enum t) (λ name. and_then (behind k.LeftBrace t) (λ literals.
    Some (record { name = name; literals = literals }))))

abbrev pub param_node : ParseTree → Option ParamNode
param_node t = of r.Param t (and_then (child 0 t) (λ name. and_then (behind k.Colon t) (λ of_type.
    Some (record { name = name; of_type = of_type }))))

abbrev pub params_node : ParseTree → Option ParamsNode
params_node t = of r.Params t (Some (record { parameters = parts (s.Rule r.Param) t }))

abbrev pub head_node : ParseTree → Option HeadNode
head_node t = of r.Head t (and_then (child 0 t) (λ name.
    Some (record { name = name; parameters = part (s.Rule r.Params) t; of_type = behind k.Colon t })))

abbrev pub cond_node : ParseTree → Option CondNode
cond_node t = of r.Cond t (and_then (child 0 t) (λ kind. and_then (behind k.Colon t) (λ condition.
    Some (record { kind = kind; name = second_but k.Colon t; condition = condition }))))

abbrev pub inv_node : ParseTree → Option InvNode
inv_node t = of r.Inv t (and_then (behind k.Colon t) (λ condition.
    Some (record { name = second_but k.Colon t; condition = condition })))

abbrev pub oper_node : ParseTree → Option OperNode
oper_node t = of r.Oper t (and_then (child 0 t) (λ head.
    Some (record { head = head; query = behind k.Equal t; statements = behind k.Begin t; conditions = parts (s.Rule r.Cond) t })))

abbrev pub attribute_node : ParseTree → Option AttributeNode
attribute_node t = of r.Attribute t (and_then (child 0 t) (λ name. and_then (behind k.Colon t) (λ of_type.
    Some (record { name = name; of_type = of_type; value = behind k.Equal t }))))

abbrev pub parents_node : ParseTree → Option ParentsNode
parents_node t = of r.Parents t (and_then (behind k.Less t) (λ names.
    Some (record { names = names })))

abbrev pub class_node : ParseTree → Option ClassNode
class_node t = of r.Class t (and_then (behind k.Class t) (λ name.
    Some (record {
      is_abstract = has k.Abstract t;
      name = name;
      parents = part (s.Rule r.Parents) t;
      attributes = parts (s.Rule r.Attribute) t;
      operations = parts (s.Rule r.Oper) t;
      invariants = parts (s.Rule r.Inv) t;
    })))

abbrev pub mult_node : ParseTree → Option MultNode
mult_node t = of r.Mult t (and_then (child 0 t) (λ low.
    Some (record { low = low; high = behind k.DoubleDot t })))

abbrev pub assoc_end_node : ParseTree → Option AssocEndNode
assoc_end_node t = of r.AssocEnd t (and_then (child 0 t) (λ class.
    Some (record { class = class; multiplicities = parts (s.Rule r.Mult) t; role = behind k.Role t; is_ordered = has k.Ordered t })))

abbrev pub assoc_node : ParseTree → Option AssocNode
assoc_node t = of r.Assoc t (and_then (child 0 t) (λ kind. and_then (child 1 t) (λ name. and_then (behind k.Between t) (λ first. and_then (child 4 t) (λ second.
    Some (record { kind = kind; name = name; first = first; second = second }))))))

abbrev pub context_node : ParseTree → Option ContextNode
context_node t = of r.Context t (and_then (behind k.Context t) (λ name.
    Some (record {
      name = name;
      class = behind k.Colon t;
      head = behind k.DoubleColon t;
      invariants = parts (s.Rule r.Inv) t;
      conditions = parts (s.Rule r.Cond) t;
    })))

abbrev pub constraints_node : ParseTree → Option ConstraintsNode
constraints_node t = of r.Constraints t (Some (record { contexts = parts (s.Rule r.Context) t }))

abbrev pub file_node : ParseTree → Option FileNode
file_node t = of r.File t (and_then (behind k.Model t) (λ name.
    Some (record { name = name; declarations = parts s.Rules t })))
