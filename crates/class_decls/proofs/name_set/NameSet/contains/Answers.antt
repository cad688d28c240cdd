use Rattle.std.proofs.Common.{◌∙◌, ap, sym}
use Rattle.class_decls.specs.Texts.{has_text}
use Rattle.class_decls.proofs.Distinct.{has_key}
use Rattle.class_decls.proofs.name_set.NameSet.contains.Goals as goal

pub returns : goal.returns
returns c =
    rw c.as_str.ensures at c.contains.ensures
    ∙ sym (ap (λ l. has_text l c.args.text.now) (sym c.self.view_is) ∙ has_key c.self.inside.names c.args.text.now)
