-- Why a model has no program, by why its declarations or its expressions are refused.
use Rattle.class_rules.specs.declared.rules.RuleFault.{RuleFault}
use Rattle.class_rules.specs.declared.rules.RuleFault.TheVariants as rule
use Rattle.ocl_rules.specs.declared.fault.TypeFault.{TypeFault}
use Rattle.ocl_rules.specs.declared.fault.TypeFault.TheVariants as typing
use Rattle.model_check.specs.declared.fault.ModelFault.{ModelFault}
use Rattle.model_check.specs.declared.fault.ModelFault.TheVariants as model

abbrev pub of_rules : RuleFault → ModelFault
of_rules rule.Memory = model.Memory
of_rules (rule.Refused r) = model.Refused r

abbrev pub of_types : TypeFault → ModelFault
of_types typing.Memory = model.Memory
of_types (typing.Refused r) = model.Refused r
