-- Literals as values.
use Rattle.ocl_values.specs.declared.value.Value.{Value}
use Rattle.ocl_values.specs.declared.value.Value.TheVariants as v
use Rattle.ocl_syntax.specs.declared.tree.WrittenLiteral.{WrittenLiteral}
use Rattle.ocl_syntax.specs.declared.tree.WrittenLiteral.TheVariants as w

-- the value that a literal says
abbrev pub literal_value : WrittenLiteral → Value
literal_value w.Null = v.Null
literal_value w.Invalid = v.Invalid
literal_value (w.Bool b) = v.Bool b
literal_value (w.Int n) = v.Int n
literal_value (w.Str s) = v.Str s
