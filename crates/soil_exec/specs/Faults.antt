-- What refuses an act on a transaction, told with a place.
use Rattle.use_text.specs.declared.place.Place.{Place}
use Rattle.use_text.specs.Refusals.{refusal_at}
use Rattle.soil_changes.specs.declared.fault.ChangeFault.{ChangeFault}
use Rattle.soil_changes.specs.declared.fault.ChangeFault.TheVariants as change
use Rattle.soil_exec.specs.declared.fault.ExecFault.{ExecFault}
use Rattle.soil_exec.specs.declared.fault.ExecFault.TheVariants.{Memory, Refused}

abbrev pub fault_at : Place → ChangeFault → ExecFault
fault_at at change.Memory = Memory
fault_at at (change.Refused code) = Refused (refusal_at code at)
