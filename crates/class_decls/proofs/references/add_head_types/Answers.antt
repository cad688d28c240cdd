use Rattle.std.proofs.Common.{append-nil, append_assoc}
use Rattle.std.proofs.lemmas.List.{map-append}
use Rattle.class_decls.proofs.references.add_head_types.Goals as goal

pub returns-in-None : goal.returns-in-None
returns-in-None c = rw (c.in_ok-add_param_types.ensures, c.in-None.is) (simp append-nil)

pub returns-in_ok-push-in-Some : goal.returns-in_ok-push-in-Some
returns-in_ok-push-in-Some c =
    rw (c.in_ok-push-in-Some.ensures.items, map-append, c.in_ok-add_param_types.ensures, c.in-Some.is) (simp append_assoc)
