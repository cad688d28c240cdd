-- The production of each rule, in the order of the rules, and whether the rule nests.
use Rattle.std.specs.Prelude.{List, [], ◌∷◌, Bool, true, false}
use Rattle.use_syntax.specs.declared.production.Production.{Production}
use Rattle.use_syntax.specs.declared.production.Production.TheVariants as p

abbrev pub rule_bodies : List (Production × Bool)
rule_bodies =
    (p.File, false) ∷
    (p.Command, false) ∷
    (p.Names, false) ∷
    (p.Type, true) ∷
    (p.Item, false) ∷
    (p.Args, false) ∷
    (p.Part, false) ∷
    (p.Collection, false) ∷
    (p.Named, false) ∷
    (p.Literal, false) ∷
    (p.Group, false) ∷
    (p.Choice, false) ∷
    (p.Primary, false) ∷
    (p.Dot, false) ∷
    (p.Arrow, false) ∷
    (p.Postfix, false) ∷
    (p.Bind, false) ∷
    (p.Let, false) ∷
    (p.Unary, true) ∷
    (p.Muls, false) ∷
    (p.Sums, false) ∷
    (p.Rels, false) ∷
    (p.Eqs, false) ∷
    (p.Ands, false) ∷
    (p.Ors, false) ∷
    (p.Xors, false) ∷
    (p.Expr, true) ∷
    (p.Block, false) ∷
    (p.New, false) ∷
    (p.Rhs, false) ∷
    (p.Create, false) ∷
    (p.Set, false) ∷
    (p.Destroy, false) ∷
    (p.Insert, false) ∷
    (p.Delete, false) ∷
    (p.Declare, false) ∷
    (p.Branch, false) ∷
    (p.For, false) ∷
    (p.While, false) ∷
    (p.Assign, false) ∷
    (p.Stmt, true) ∷
    (p.Enter, false) ∷
    (p.Exit, false) ∷
    (p.Execute, false) ∷
    (p.Query, false) ∷
    (p.Check, false) ∷
    (p.Info, false) ∷
    (p.View, false) ∷
    (p.Enum, false) ∷
    (p.Param, false) ∷
    (p.Params, false) ∷
    (p.Head, false) ∷
    (p.Cond, false) ∷
    (p.Inv, false) ∷
    (p.Oper, false) ∷
    (p.Attribute, false) ∷
    (p.Parents, false) ∷
    (p.Class, false) ∷
    (p.Mult, false) ∷
    (p.AssocEnd, false) ∷
    (p.Assoc, false) ∷
    (p.Context, false) ∷
    (p.Constraints, false) ∷
    []
