-- What is asked of the bodies of a program.
use Rattle.std.specs.Prelude.{All, Option, Some, None}
use Rattle.std.specs.Option.{ForSome}
use Rattle.ocl_core.specs.declared.expression.Expr.{Expr}
use Rattle.ocl_core.specs.declared.program.OpBody.{OpBody}
use Rattle.ocl_core.specs.declared.program.OpBody.TheVariants as body
use Rattle.ocl_core.specs.declared.program.ProgramParts.{ProgramParts}
use Rattle.ocl_core.specs.Trees.{IsSound}

-- the query of a body
abbrev pub query_of : OpBody → Option Expr
query_of body.None = None
query_of (body.Query e) = Some e
query_of (body.Soil statements) = None

-- the literals of all queries and derived attributes of a program are well made
pub record IsSoundProgram (p : ProgramParts) : Type 0 where
  pub bodies : All (λ b. ForSome (query_of b) IsSound) p.bodies
  pub derived : All IsSound p.derived
