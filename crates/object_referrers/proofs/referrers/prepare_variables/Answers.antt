use Rattle.std.proofs.Common.{◌≡◌, IfOk, OnOk, ap, ap₂, sym, subst, ◌∙◌}
use Rattle.use_orders.specs.Canon.{without}
use Rattle.object_referrers.specs.Places.{TellsMore, variable_key_cmp, variables_brought, variables_left}
use Rattle.object_referrers.proofs.Keyed.{variable_key_exact}
use Rattle.object_referrers.proofs.referrers.prepare_variables.Goals as goal

pub replaced-requires : goal.replaced-requires
replaced-requires c = record { exact = variable_key_exact }

pub returns-in_ok-new-in-Bind-clause-brought : goal.returns-in_ok-new-in-Bind-clause-brought
returns-in_ok-new-in-Bind-clause-brought c =
    let same : c.in_ok-new-in-Bind.new.items ≡ variables_brought c.args.change.now =
    c.in_ok-new-in-Bind.ensures ∙ sym (ap variables_brought c.in-Bind.is) in
    subst (λ ks. OnOk c.replaced.result (TellsMore variable_key_cmp ks c.replaced.new.index.keys)) same c.replaced.ensures.put

pub returns-in_ok-new-in-Bind-clause-left : goal.returns-in_ok-new-in-Bind-clause-left
returns-in_ok-new-in-Bind-clause-left c =
    let same : without variable_key_cmp c.in_ok-old-in-Bind.old.items c.in_ok-new-in-Bind.new.items ≡ variables_left c.args.change.now =
    ap₂ (λ os ns. without variable_key_cmp os ns) c.in_ok-old-in-Bind.ensures c.in_ok-new-in-Bind.ensures
    ∙ sym (ap variables_left c.in-Bind.is) in
    subst (λ ks. IfOk c.replaced.result (λ v. v.items ≡ ks)) same c.replaced.ensures.left
