-- What an evaluation sees: the program, the state now and the state at entry.
use Rattle.std.specs.Prelude.{ℕ, nat_lt, ◌&&◌, if◌then◌else◌, Option, None, length, slice_get}
use Rattle.std.specs.Option.{option_and_then}
use Rattle.object_state.specs.declared.cell.Cell.{Cell}
use Rattle.object_state.specs.declared.cell.Look.{Look}
use Rattle.class_model.specs.Features.{dispatch}
use Rattle.ocl_core.specs.declared.expression.Expr.{Expr}
use Rattle.ocl_core.specs.declared.operators.When.{When}
use Rattle.ocl_core.specs.declared.operators.When.TheVariants.{Now, Pre}
use Rattle.ocl_core.specs.declared.program.ProgramParts.{ProgramParts}
use Rattle.ocl_core.specs.Programs.{query_of}
use Rattle.ocl_eval.specs.Evaluations.{Evaluation, ◌>>◌, pure, spend, read}

pub record Scene : Type 0 where
  pub program : ProgramParts
  -- what each cell holds now, and what it held at entry
  pub now : Cell → Look
  pub pre : Cell → Look

abbrev pub scene_of : ProgramParts → (Cell → Look) → (Cell → Look) → Scene
scene_of program now pre = record { program = program; now = now; pre = pre }

-- which state is meant where the one at entry takes the place of the present one
abbrev pub within : When → When → When
within Now when = when
within Pre when = Pre

-- what a cell holds in the state that is meant
abbrev pub seen : (Cell → Look) → (Cell → Look) → When → Cell → Look
seen now pre Now cell = now cell
seen now pre Pre cell = pre cell

-- of the present state the cell is read
abbrev pub read_in : When → Cell → Evaluation (Unit {0})
read_in Now cell = read cell
read_in Pre cell = pure tt

-- a look costs one unit before it is made
abbrev pub begin_look : When → Cell → Evaluation (Unit {0})
begin_look when cell = spend 1 >> read_in when cell

abbrev pub look : Scene → When → Cell → Evaluation Look
look s when cell = begin_look when cell >> pure (seen s.now s.pre when cell)

-- the query that an object of a class carries out where an operation is called
abbrev pub query_called : ProgramParts → ℕ → ℕ → Option Expr
query_called p c o =
    if nat_lt c (length p.model.classes) && nat_lt o (length p.model.ops)
    then option_and_then query_of (slice_get p.bodies (dispatch p.model c o))
    else None

-- the body of a derived attribute
abbrev pub derived_body : ProgramParts → ℕ → Option Expr
derived_body p d = slice_get p.derived d
