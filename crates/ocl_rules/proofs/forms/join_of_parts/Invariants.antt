use Rattle.std.proofs.Common.{◌≡◌, drop}
use Rattle.class_model.specs.declared.types.OclType.TheVariants as T
use Rattle.ocl_rules.specs.Forms.{join_of_parts}
use Rattle.ocl_rules.proofs.forms.join_of_parts.Given as goal

abbrev pub invariant-parts : goal.invariant-parts
invariant-parts l = join_of_parts l.model l.joined (drop l.part-index l.parts) ≡ join_of_parts l.model T.Void l.parts
