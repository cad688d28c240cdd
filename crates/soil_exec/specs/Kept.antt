-- What a machine that is kept stands for, and what calls give.
use Rattle.std.specs.Prelude.{◌≡◌, ◌+◌, ◌-◌, ◌<◌, ◌^◌, ℕ, ⊤, drop, length, map, take, OnOk, Result, Ok, Err}
use Rattle.class_model.specs.declared.object_model.ObjectModel.{ObjectModel}
use Rattle.object_state.specs.Layouts.{layout_of}
use Rattle.soil_changes.specs.Acts.{Outcome}
use Rattle.soil_exec.specs.declared.fault.ExecFault.{ExecFault}
use Rattle.soil_exec.specs.declared.fault.ExecFault.TheVariants.{Broken, Memory, Refused}
use Rattle.soil_exec.specs.declared.machine.Machine.{Machine as Kept}
use Rattle.soil_exec.specs.Machine.{Machine, shell_value}

-- the machine that is kept, and the steps that were counted
abbrev pub stand : Kept → ℕ → Machine
stand k steps = record {
  progress = k.transaction;
  shell = k.shell;
  locals = drop (length k.shell) k.env;
  left = k.left;
  steps = steps;
}

-- what is bound for the names of the shell is what they stand for
abbrev pub IsCurrent : Kept → Type 0
IsCurrent k = take (length k.shell) k.env ≡ map (shell_value k.transaction.state) k.shell

-- what a call gives where an execution comes to this
abbrev pub Gives : {A : Type 0} → Outcome Machine ExecFault A → Result A ExecFault → Machine → Type 0
Gives outcome (Ok a) after = outcome ≡ (Ok a, after)
Gives outcome (Err Memory) after = ⊤
Gives outcome (Err (Refused r)) after = outcome ≡ (Err (Refused r), after)
Gives outcome (Err (Broken r n v)) after = outcome ≡ (Err (Broken r n v), after)

-- the store was made with a model
abbrev pub IsOfModel : ObjectModel → Kept → Type 0
IsOfModel m k = k.transaction.layout ≡ layout_of m

-- so many further calls may be entered
abbrev pub HasRoom : ℕ → Kept → Type 0
HasRoom n k = length k.transaction.frames + n < 2 ^ 32 - 1

-- what is bound is current again, and what stays is as it was
pub record Follows (old new : Kept) : Type 0 where
  pub current : IsCurrent new
  pub layout : new.transaction.layout ≡ old.transaction.layout
  pub shell : new.shell ≡ old.shell
  pub depth : length new.transaction.frames ≡ length old.transaction.frames

-- what comes of an execution
pub record Comes (outcome : Outcome Machine ExecFault (Unit {0})) (old new : Kept) (steps : ℕ) (r : Result (Unit {0}) ExecFault) : Type 0 where
  pub gives : Gives outcome r (stand new steps)
  pub follows : OnOk r (Follows old new)
