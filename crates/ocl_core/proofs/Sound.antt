-- An expression is sound where its parts are.
use Rattle.std.proofs.Common.{ℕ, zero, suc, None}
use Rattle.ocl_values.specs.Shape.{IsWellMade}
use Rattle.ocl_values.specs.declared.value.Value.{Value}
use Rattle.ocl_core.specs.declared.expression.Expr.{Expr}
use Rattle.ocl_core.specs.declared.expression.Expr.TheVariants as E
use Rattle.ocl_core.specs.declared.operators.BinaryOp.{BinaryOp}
use Rattle.ocl_core.specs.declared.operators.IterOp.{IterOp}
use Rattle.ocl_core.specs.Trees.{HasLiteralsTo, IsSound}

literal_to : (v : Value) → IsWellMade v → (n : ℕ) → HasLiteralsTo n (E.Literal v)
unfolding Rattle.ocl_core.specs.declared.expression.Expr.TheViews.out-Expr denote.Hole.Carrier.out
literal_to v h zero = tt
literal_to v h (suc n) = h

pub literal : (v : Value) → IsWellMade v → IsSound (E.Literal v)
literal v h = record { literals = literal_to v h }

local_to : (i n : ℕ) → HasLiteralsTo n (E.Local i)
unfolding Rattle.ocl_core.specs.declared.expression.Expr.TheViews.out-Expr denote.Hole.Carrier.out
local_to i zero = tt
local_to i (suc n) = tt

pub local : (i : ℕ) → IsSound (E.Local i)
local i = record { literals = local_to i }

binary_to : (op : BinaryOp) (a b : Expr) → IsSound a → IsSound b → (n : ℕ) → HasLiteralsTo n (E.Binary op a b)
unfolding Rattle.ocl_core.specs.declared.expression.Expr.TheViews.out-Expr denote.Hole.Carrier.out
    Rattle.ocl_core.specs.declared.expression.Expr.TheBlock.shown-the_row-Expr-0 denote.Hole.Carrier.shown denote.Hole.Carrier.hidden
binary_to op a b h k zero = tt
binary_to op a b h k (suc n) = (h.literals n, k.literals n)

pub binary : (op : BinaryOp) (a b : Expr) → IsSound a → IsSound b → IsSound (E.Binary op a b)
binary op a b h k = record { literals = binary_to op a b h k }

walk_to : (op : IterOp) (source : Expr) (count : ℕ) (body : Expr) → IsSound source → IsSound body → (n : ℕ) →
    HasLiteralsTo n (E.Iter op source count None body)
unfolding Rattle.ocl_core.specs.declared.expression.Expr.TheViews.out-Expr denote.Hole.Carrier.out
    Rattle.ocl_core.specs.declared.expression.Expr.TheBlock.shown-the_row-Expr-0 denote.Hole.Carrier.shown denote.Hole.Carrier.hidden
walk_to op source count body h k zero = tt
walk_to op source count body h k (suc n) = (h.literals n, tt, k.literals n)

pub walk : (op : IterOp) (source : Expr) (count : ℕ) (body : Expr) → IsSound source → IsSound body → IsSound (E.Iter op source count None body)
walk op source count body h k = record { literals = walk_to op source count body h k }
