-- What building a model answers.
use Rattle.std.specs.Prelude.{◌≡◌, ⊤, None, Some, Result, Ok, Err}
use Rattle.class_decls.specs.declared.decls.Decls.{Decls}
use Rattle.class_rules.specs.declared.rules.RuleFault.{RuleFault}
use Rattle.class_rules.specs.declared.rules.RuleFault.TheVariants.{Memory, Refused}
use Rattle.class_rules.specs.WellFormed.{broken_rule}
use Rattle.class_model.specs.declared.object_model.ObjectModel.{ObjectModel}
use Rattle.class_builder.specs.Models.{model_of}

-- declarations that are well formed give their model; others are refused with the least rule that they break
abbrev pub Builds : Decls → Result ObjectModel RuleFault → Type 0
Builds ds (Ok m) = (broken_rule ds ≡ None) × (m ≡ model_of ds)
Builds ds (Err Memory) = ⊤
Builds ds (Err (Refused r)) = broken_rule ds ≡ Some r
