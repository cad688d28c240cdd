-- The operations of values by name, source, parameters and result (OCL 2.3.1, 11.5): what the rows of the table are to say.
use Rattle.std.specs.Prelude.{ℕ, List, [], ◌∷◌, codes}
use Rattle.ocl_values.specs.declared.integer.IntOp.TheVariants as IntOp
use Rattle.ocl_values.specs.declared.string.StrOp.TheVariants as StrOp
use Rattle.ocl_core.specs.declared.operators.PlainOp.{PlainOp}
use Rattle.ocl_core.specs.declared.operators.PlainOp.TheVariants as Plain
use Rattle.ocl_rules.specs.declared.value_table.PlainType.{PlainType}
use Rattle.ocl_rules.specs.declared.value_table.PlainType.TheVariants.{Bool as OfBool, Int as OfInt, Str as OfStr}
use Rattle.ocl_rules.specs.declared.value_table.ValueOperation.{ValueOperation}
use Rattle.ocl_rules.specs.declared.value_table.ValueParams.{ValueParams}
use Rattle.ocl_rules.specs.declared.value_table.ValueParams.TheVariants as A
use Rattle.ocl_rules.specs.declared.value_table.ValueResult.{ValueResult}
use Rattle.ocl_rules.specs.declared.value_table.ValueResult.TheVariants as R

abbrev pub ValueForm : Type 0
ValueForm = List ℕ × ValueOperation

abbrev pub form : List ℕ → PlainType → ValueParams → ValueResult → PlainOp → ValueForm
form name source params gives op = (name, record { source = source; op = op; params = params; gives = gives })

abbrev pub value_forms : List ValueForm
value_forms =
    form (codes "abs") OfInt A.Nothing R.Int (Plain.Int IntOp.Abs)
    ∷ form (codes "max") OfInt A.Int R.Int (Plain.Int IntOp.Max)
    ∷ form (codes "min") OfInt A.Int R.Int (Plain.Int IntOp.Min)
    ∷ form (codes "div") OfInt A.Int R.Int (Plain.Int IntOp.Div)
    ∷ form (codes "mod") OfInt A.Int R.Int (Plain.Int IntOp.Mod)
    ∷ form (codes "toString") OfInt A.Nothing R.Str Plain.ToText
    ∷ form (codes "toString") OfBool A.Nothing R.Str Plain.ToText
    ∷ form (codes "size") OfStr A.Nothing R.Int (Plain.Str StrOp.Size)
    ∷ form (codes "concat") OfStr A.Str R.Str (Plain.Str StrOp.Concat)
    ∷ form (codes "substring") OfStr A.TwoInts R.Str (Plain.Str StrOp.Substring)
    ∷ form (codes "at") OfStr A.Int R.Str (Plain.Str StrOp.At)
    ∷ form (codes "indexOf") OfStr A.Str R.Int (Plain.Str StrOp.IndexOf)
    ∷ form (codes "toUpperCase") OfStr A.Nothing R.Str (Plain.Str StrOp.Upper)
    ∷ form (codes "toUpper") OfStr A.Nothing R.Str (Plain.Str StrOp.Upper)
    ∷ form (codes "toLowerCase") OfStr A.Nothing R.Str (Plain.Str StrOp.Lower)
    ∷ form (codes "toLower") OfStr A.Nothing R.Str (Plain.Str StrOp.Lower)
    ∷ form (codes "characters") OfStr A.Nothing R.Strings (Plain.Str StrOp.Characters)
    ∷ form (codes "toInteger") OfStr A.Nothing R.Int (Plain.Str StrOp.ToInteger)
    ∷ []
