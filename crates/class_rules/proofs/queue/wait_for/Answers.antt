use Rattle.std.proofs.Common.{[], ◌∷◌, ◌++◌, ap, ◌∙◌}
use Rattle.class_rules.proofs.PlacedClasses.{default_alike}
use Rattle.class_rules.proofs.Queued.{now_listed, still_listed}
use Rattle.class_rules.proofs.queue.wait_for.Goals as goal

pub returns-clause-listed : goal.returns-clause-listed
returns-clause-listed c =
    now_listed c.args.waiting.now.items c.args.parent c.args.class c.push.new.self c.requires
    (c.in_ok-push.ensures.ok ∙ ap (λ l. l ++ c.args.class ∷ []) (c.index_mut.ensures.value ∙ default_alike c.args.waiting.now.items c.args.parent
    c.index_mut.result.now [] c.requires))

pub returns-clause-kept : goal.returns-clause-kept
returns-clause-kept c =
    still_listed c.args.waiting.now.items c.args.parent c.args.class c.push.new.self c.requires
    (c.in_ok-push.ensures.ok ∙ ap (λ l. l ++ c.args.class ∷ []) (c.index_mut.ensures.value ∙ default_alike c.args.waiting.now.items c.args.parent
    c.index_mut.result.now [] c.requires))
