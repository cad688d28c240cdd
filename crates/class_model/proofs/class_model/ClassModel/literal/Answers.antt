use Rattle.std.proofs.Common.{◌∙◌, subst}
use Rattle.class_model.specs.declared.object_model.ObjectModel.{ObjectModel}
use Rattle.class_model.specs.Indexes.{AreLiteralTables}
use Rattle.class_model.proofs.Named.{literal_is}
use Rattle.class_model.proofs.class_model.ClassModel.literal.Goals as goal

pub returns : goal.returns
returns c =
    c.copied.ensures ∙ c.get.ensures.value
    ∙ rw c.index.ensures
    (literal_is c.args.self.now c.args.number c.args.name.now c.requires c.self.inside.literals.items c.index.result.now
    (subst (λ (m : ObjectModel). AreLiteralTables m.enums c.self.inside.literals.items) c.self.view_is c.self.invariant.literals))
