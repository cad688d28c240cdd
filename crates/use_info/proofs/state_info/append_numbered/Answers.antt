use Rattle.std.proofs.Common.{◌<◌, length, subst, sym, ap, ◌∙◌}
use Rattle.std.specs.Option.{option_copied}
use Rattle.object_state.specs.declared.layout.Layout.{Layout}
use Rattle.use_info.proofs.Numbers.{as-many-layouts}
use Rattle.use_info.proofs.state_info.append_numbered.Goals as goal

pub append_object-requires : goal.append_object-requires
append_object-requires g c =
    subst (λ n. c.in-Some.object.now.class < n) (ap (λ (l : Layout). length l.classes) c.requires.layout ∙ as-many-layouts c.args.model.now)
    (c.state_is_valid.ensures.objects.instances c.args.number c.in-Some.object.now (sym c.object.ensures ∙ ap option_copied c.in-Some.is)).known
