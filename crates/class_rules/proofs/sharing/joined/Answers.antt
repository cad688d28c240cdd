use Rattle.std.proofs.Common.{refl}
use Rattle.std.proofs.lemmas.Grind.{fold-append}
use Rattle.std.proofs.lemmas.List.{take_more}
use Rattle.class_rules.proofs.sharing.joined.Goals as goal

pub parents-preserved : goal.parents-preserved
parents-preserved c =
    rw (c.join-sharing.ensures, c.sharing_at.ensures, c.parents.invariant, take_more c.args.parents.now c.parents.parent-index 0 c.parents-test.true, fold-append) refl
