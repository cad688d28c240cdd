-- Objects that come: of given names, or of one that is made.
use Rattle.std.specs.Prelude.{ℕ, not, List, Option, Some, None}
use Rattle.ocl_values.specs.declared.value.Value.{Value}
use Rattle.ocl_values.specs.declared.value.Value.TheVariants.{Str}
use Rattle.object_names.specs.Names.{is_name, made_name}
use Rattle.object_state.specs.declared.change.Change.TheVariants.{Create}
use Rattle.object_state.specs.Proposals.{creation}
use Rattle.soil_changes.specs.Acts.{◌>>◌, each, refuse, refuse_if}
use Rattle.soil_changes.specs.Progress.{Changing, make, x_code}

-- X14: a text is no name
abbrev pub refuse_unless_name : List ℕ → Changing (Unit {0})
refuse_unless_name name = refuse_if (not (is_name name)) (x_code 14)

-- an object of nulls at the next number
abbrev pub create : ℕ → List ℕ → Changing (Unit {0})
create class name p = make (Create (creation p.layout p.state name class)) p

-- an object of each name, one after another; X14 before any is made
abbrev pub create_all : ℕ → List (List ℕ) → Changing (Unit {0})
create_all class names = each refuse_unless_name names >> each (create class) names

-- an object of one name
abbrev pub create_named : ℕ → List ℕ → Changing (Unit {0})
create_named class name = refuse_unless_name name >> create class name

-- an object whose name is made of its class's name and a number
abbrev pub create_unnamed : ℕ → List ℕ → Changing (Unit {0})
create_unnamed class word p = create_named class (made_name p.state word) p

-- an object named by a value, where one is given: X14 where that is no String
abbrev pub create_given : ℕ → Value → Changing (Unit {0})
create_given class (Str bytes) = create_named class bytes
create_given class v = refuse (x_code 14)

abbrev pub create_new : ℕ → List ℕ → Option Value → Changing (Unit {0})
create_new class word None = create_unnamed class word
create_new class word (Some v) = create_given class v
