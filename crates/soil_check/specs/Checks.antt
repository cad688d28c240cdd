-- Commands that may be carried out over a model, and what they are checked among.
use Rattle.std.specs.Prelude.{◌≡◌, ℕ, ◌<◌, ◌^◌, ⊤, true, List, All, Option, length}
use Rattle.std.specs.Cmp.Lexicographic.{slice_cmp}
use Rattle.std.specs.Option.{ForSome}
use Rattle.std.specs.Ordering.{nat_cmp}
use Rattle.use_orders.specs.Canon.{all_differ}
use Rattle.class_model.specs.InRange.{IsTypeOf}
use Rattle.class_model.specs.declared.object_model.ObjectModel.{ObjectModel}
use Rattle.ocl_program.specs.Bodies.{IsBodyOf}
use Rattle.ocl_program.specs.Programs.{IsCheckedNow}
use Rattle.soil_check.specs.declared.checked.Checked.{Checked}
use Rattle.soil_check.specs.declared.checked.Checked.TheVariants as c
use Rattle.soil_check.specs.declared.checked.Topic.{Topic}
use Rattle.soil_check.specs.declared.checked.Topic.TheVariants as topics
use Rattle.soil_check.specs.declared.scope.Bindings.{Bindings}
use Rattle.soil_check.specs.Scopes.{Known, object, variable}

module _ (m : ObjectModel) where
  -- what a name of the shell stands for: an object of one of the model's classes, or a variable of one of its types
  abbrev pub IsKnownOf : Known → Type 0
  IsKnownOf (object class) = class < length m.classes
  IsKnownOf (variable t) = IsTypeOf m t

  -- what an open operation binds: each value, and its result, has a type of the model
  pub record AreBindingsOf (b : Bindings) : Type 0 where
    pub names : All (λ bound. IsTypeOf m bound.1) b.names
    pub result : ForSome b.result_type (IsTypeOf m)

  -- what a command is checked among: whatever a name stands for, and what the open operation binds, is the model's
  pub record IsScopeOf (known : List ℕ → Option Known) (frame : Option Bindings) : Type 0 where
    pub names : (name : List ℕ) → ForSome (known name) IsKnownOf
    pub bindings : ForSome frame AreBindingsOf

  -- what `info` tells of: a class of the model, or nothing that has a number
  abbrev pub IsTopicOf : Topic → Type 0
  IsTopicOf (topics.Class class) = class < length m.classes
  IsTopicOf topics.Model = ⊤
  IsTopicOf topics.State = ⊤
  IsTopicOf topics.Vars = ⊤
  IsTopicOf topics.Opstack = ⊤
  IsTopicOf topics.Script = ⊤
  IsTopicOf topics.Use = ⊤

  -- a command: each number in it is the model's, and each expression may be evaluated over the present state
  abbrev pub IsCommandOf : Checked → Type 0
  IsCommandOf c.Empty = ⊤
  IsCommandOf (c.Query e t shell) = IsCheckedNow m e × IsTypeOf m t
  IsCommandOf (c.Explain e t shell) = IsCheckedNow m e × IsTypeOf m t
  IsCommandOf (c.Statements body shell) = IsBodyOf m body
  IsCommandOf (c.Enter receiver op args shell) = (op < length m.ops) × IsCheckedNow m receiver × All (IsCheckedNow m) args
  IsCommandOf (c.Exit value shell) = ForSome value (IsCheckedNow m)
  IsCommandOf (c.Check detail) = ⊤
  IsCommandOf (c.Info topic) = IsTopicOf topic
  IsCommandOf c.Undo = ⊤
  IsCommandOf c.Redo = ⊤
  IsCommandOf c.Reset = ⊤
  IsCommandOf (c.Show number) = ⊤
  IsCommandOf (c.Drop number) = ⊤
  IsCommandOf c.Quit = ⊤

-- the names that a command takes from the shell: each once, and no more than have numbers
pub record AreNames (names : List (List ℕ)) : Type 0 where
  pub few : length names < 2 ^ 32
  pub differ : all_differ (slice_cmp nat_cmp) names ≡ true

abbrev pub TakesNames : Checked → Type 0
TakesNames c.Empty = ⊤
TakesNames (c.Query e t shell) = AreNames shell
TakesNames (c.Explain e t shell) = AreNames shell
TakesNames (c.Statements body shell) = AreNames shell
TakesNames (c.Enter receiver op args shell) = AreNames shell
TakesNames (c.Exit value shell) = AreNames shell
TakesNames (c.Check detail) = ⊤
TakesNames (c.Info topic) = ⊤
TakesNames c.Undo = ⊤
TakesNames c.Redo = ⊤
TakesNames c.Reset = ⊤
TakesNames (c.Show number) = ⊤
TakesNames (c.Drop number) = ⊤
TakesNames c.Quit = ⊤
