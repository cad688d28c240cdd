-- Checked commands that may be carried out over a model.
use Rattle.std.specs.Prelude.{◌<◌, ⊤, All, length}
use Rattle.std.specs.Option.{ForSome}
use Rattle.class_model.specs.declared.object_model.ObjectModel.{ObjectModel}
use Rattle.ocl_core.specs.Trees.{IsSound}
use Rattle.ocl_program.specs.Bodies.{IsBodyOf}
use Rattle.soil_check.specs.declared.checked.Checked.{Checked}
use Rattle.soil_check.specs.declared.checked.Checked.TheVariants as c
use Rattle.soil_check.specs.Checks.{AreNames, IsTopicOf}

module _ (m : ObjectModel) where
  -- the forms that are built: the literals of their expressions are well made, their numbers are the model's, and their names differ
  abbrev pub MayRun : Checked → Type 0
  MayRun (c.Query e t shell) = IsSound e
  MayRun (c.Statements body shell) = IsBodyOf m body × AreNames shell
  MayRun (c.Enter receiver op args shell) = (op < length m.ops) × IsSound receiver × All IsSound args × AreNames shell
  MayRun (c.Exit e shell) = ForSome e IsSound × AreNames shell
  MayRun (c.Info t) = IsTopicOf m t
  MayRun _ = ⊤
