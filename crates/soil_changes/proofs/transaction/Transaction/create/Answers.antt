use Rattle.std.proofs.Common.{◌≡◌, List, ℕ, ap, sym, subst, ◌∙◌}
use Rattle.object_state.specs.declared.change.Change.{Change}
use Rattle.object_state.specs.declared.change.Change.TheVariants.{Create}
use Rattle.object_state.specs.Proposals.{creation}
use Rattle.soil_changes.specs.Progress.{Gives, Progress, make}
use Rattle.soil_changes.proofs.transaction.Transaction.create.Goals as goal

pub returns-clause-gives : goal.returns-clause-gives
returns-clause-gives c =
    let p = c.args.self.now in
    let told = subst (λ (q : Progress). c.in_ok-change.change ≡ Create (creation q.layout q.state c.in_ok-copy.copy c.args.class)) c.self.view_is
    c.in_ok-change.ensures.change in
    let is = told ∙ ap (λ (t : List ℕ). Create (creation p.layout p.state t c.args.class)) (c.in_ok-copy.ensures ∙ c.as_str.ensures) in
    subst (λ (x : Change). Gives (make x p) c.make.result c.make.new.self) is c.make.ensures.gives
