-- A list in the order of keys.
use Rattle.std.specs.Prelude.{List}
use Rattle.use_orders.specs.Canon.{sorted_by_keys}
use Rattle.ocl_values.specs.Order.{value_cmp}
use Rattle.ocl_values.specs.declared.value.Value.{Value}

-- the items in the order of the keys that stand beside them; items whose keys are equal stay in their order
abbrev pub by_keys : List Value → List Value → List Value
by_keys items keys = sorted_by_keys value_cmp items keys
