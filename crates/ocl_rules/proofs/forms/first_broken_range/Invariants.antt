use Rattle.std.proofs.Common.{◌≡◌, drop}
use Rattle.ocl_rules.specs.Forms.{first_broken_range}
use Rattle.ocl_rules.proofs.forms.first_broken_range.Given as goal

abbrev pub invariant-parts : goal.invariant-parts
invariant-parts l = first_broken_range l.model (drop l.part-index l.parts) ≡ first_broken_range l.model l.parts
