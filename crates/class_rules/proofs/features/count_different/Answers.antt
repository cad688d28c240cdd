use Rattle.class_decls.proofs.TextSets.{text_exact}
use Rattle.class_rules.proofs.features.count_different.Goals as goal

pub set-requires : goal.set-requires
set-requires c = record { exact = text_exact }
