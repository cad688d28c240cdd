-- The parts of the nodes of statements.
use Rattle.std.specs.Prelude.{Option, Some}
use Rattle.grammar_core.specs.Trees.{ParseTree}
use Rattle.use_text.specs.declared.token.TokenKind.TheVariants as k
use Rattle.use_syntax.specs.declared.rule.Rule.TheVariants as r
use Rattle.use_nodes.specs.declared.parts.Select.TheVariants as s
use Rattle.use_nodes.specs.Nodes.{and_then, behind, child, of, part, parts}
use Rattle.use_nodes.specs.declared.statements.BlockNode.{BlockNode}
use Rattle.use_nodes.specs.declared.statements.NewNode.{NewNode}
use Rattle.use_nodes.specs.declared.statements.RhsNode.{RhsNode}
use Rattle.use_nodes.specs.declared.statements.CreateNode.{CreateNode}
use Rattle.use_nodes.specs.declared.statements.SetNode.{SetNode}
use Rattle.use_nodes.specs.declared.statements.DestroyNode.{DestroyNode}
use Rattle.use_nodes.specs.declared.statements.InsertNode.{InsertNode}
use Rattle.use_nodes.specs.declared.statements.DeleteNode.{DeleteNode}
use Rattle.use_nodes.specs.declared.statements.DeclareNode.{DeclareNode}
use Rattle.use_nodes.specs.declared.statements.BranchNode.{BranchNode}
use Rattle.use_nodes.specs.declared.statements.ForNode.{ForNode}
use Rattle.use_nodes.specs.declared.statements.WhileNode.{WhileNode}
use Rattle.use_nodes.specs.declared.statements.AssignNode.{AssignNode}
use Rattle.use_nodes.specs.declared.statements.StmtNode.{StmtNode}

abbrev pub block_node : ParseTree → Option BlockNode
block_node t = of r.Block t (Some (record { statements = parts (s.Rule r.Stmt) t }))

abbrev pub new_node : ParseTree → Option NewNode
new_node t = of r.New t (and_then (behind k.New t) (λ class.
    Some (record { class = class; name = part (s.Rule r.Expr) t })))

abbrev pub rhs_node : ParseTree → Option RhsNode
rhs_node t = of r.Rhs t (and_then (child 0 t) (λ form.
    Some (record { form = form })))

abbrev pub create_node : ParseTree → Option CreateNode
create_node t = of r.Create t (and_then (behind k.Create t) (λ names. and_then (behind k.Colon t) (λ class.
    Some (record { names = names; class = class }))))

abbrev pub set_node : ParseTree → Option SetNode
set_node t = of r.Set t (and_then (behind k.SetWord t) (λ target. and_then (behind k.Assign t) (λ value.
    Some (record { target = target; value = value }))))

abbrev pub destroy_node : ParseTree → Option DestroyNode
destroy_node t = of r.Destroy t (Some (record { objects = parts (s.Rule r.Expr) t }))

abbrev pub insert_node : ParseTree → Option InsertNode
insert_node t = of r.Insert t (and_then (behind k.LeftParen t) (λ first. and_then (behind k.Comma t) (λ second. and_then (behind k.Into t) (λ association.
    Some (record { first = first; second = second; association = association })))))

abbrev pub delete_node : ParseTree → Option DeleteNode
delete_node t = of r.Delete t (and_then (behind k.LeftParen t) (λ first. and_then (behind k.Comma t) (λ second. and_then (behind k.From t) (λ association.
    Some (record { first = first; second = second; association = association })))))

abbrev pub declare_node : ParseTree → Option DeclareNode
declare_node t = of r.Declare t (and_then (behind k.Declare t) (λ names. and_then (behind k.Colon t) (λ of_type.
    Some (record { names = names; of_type = of_type }))))

abbrev pub branch_node : ParseTree → Option BranchNode
branch_node t = of r.Branch t (and_then (behind k.If t) (λ condition. and_then (behind k.Then t) (λ consequence.
    Some (record { condition = condition; consequence = consequence; alternative = behind k.Else t }))))

abbrev pub for_node : ParseTree → Option ForNode
for_node t = of r.For t (and_then (behind k.For t) (λ variable. and_then (behind k.In t) (λ source. and_then (behind k.Do t) (λ body.
    Some (record { variable = variable; source = source; body = body })))))

abbrev pub while_node : ParseTree → Option WhileNode
while_node t = of r.While t (and_then (behind k.While t) (λ condition. and_then (behind k.Do t) (λ body.
    Some (record { condition = condition; body = body }))))

abbrev pub assign_node : ParseTree → Option AssignNode
assign_node t = of r.Assign t (and_then (child 0 t) (λ target.
    Some (record { target = target; value = behind k.Assign t })))

abbrev pub stmt_node : ParseTree → Option StmtNode
stmt_node t = of r.Stmt t (and_then (child 0 t) (λ form.
    Some (record { form = form })))
