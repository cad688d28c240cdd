use Rattle.use_syntax.specs.TypeForms.{name_forms, type_forms}
use Rattle.use_syntax.specs.Language.{prods_of, type_prods}
use Rattle.use_syntax.proofs.Appended.{and_then}
use Rattle.use_syntax.proofs.table.push_types.Goals as goal

pub returns : goal.returns
unfolding type_prods
returns c =
    and_then _ _ _ (prods_of name_forms) (prods_of type_forms) c.in_ok-push_rows.ensures c.in_ok-push_rows-2.ensures
