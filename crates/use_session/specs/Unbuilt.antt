-- The checked commands whose forms are not built yet: views, explained queries, and some topics of `info`.
use Rattle.std.specs.Prelude.{Bool, true, false}
use Rattle.soil_check.specs.declared.checked.Checked.{Checked}
use Rattle.soil_check.specs.declared.checked.Checked.TheVariants as c
use Rattle.soil_check.specs.declared.checked.Topic.{Topic}
use Rattle.soil_check.specs.declared.checked.Topic.TheVariants as topic

abbrev pub is_unbuilt_topic : Topic → Bool
is_unbuilt_topic topic.Script = true
is_unbuilt_topic topic.Use = true
is_unbuilt_topic _ = false

abbrev pub is_unbuilt : Checked → Bool
is_unbuilt c.Empty = false
is_unbuilt (c.Query e t shell) = false
is_unbuilt (c.Explain e t shell) = true
is_unbuilt (c.Statements body shell) = false
is_unbuilt (c.Enter receiver op args shell) = false
is_unbuilt (c.Exit value shell) = false
is_unbuilt (c.Check detail) = false
is_unbuilt (c.Info t) = is_unbuilt_topic t
is_unbuilt c.Undo = false
is_unbuilt c.Redo = false
is_unbuilt c.Reset = false
is_unbuilt (c.Show number) = true
is_unbuilt (c.Drop number) = true
is_unbuilt c.Quit = false
