use Rattle.std.proofs.Common.{rules, ◌≡◌, ◌+◌, ◌∷◌, List, ℕ, drop, Result, Err, ap, sym, subst, ◌∙◌}
use Rattle.std.proofs.lemmas.List.{drop_more}
use Rattle.use_text.specs.declared.code.Code.{Code}
use Rattle.soil_changes.specs.declared.fault.ChangeFault.{ChangeFault}
use Rattle.soil_changes.specs.Acts.{Outcome, each}
use Rattle.soil_changes.specs.Creating.{create}
use Rattle.soil_changes.specs.Progress.{Gives, Progress}
use Rattle.soil_changes.proofs.Made.{each_fails}
use Rattle.soil_changes.proofs.transaction.Transaction.create_each.Goals as goal

pub returns-in_err-create : goal.returns-in_err-create
returns-in_err-create c =
    let f = create c.args.class in
    let e = c.in_err-create.field-0.0 in
    let is : c.from_residual.result ≡ Err e = search rules in
    let next : drop c.names.name-index c.args.names.now ≡ c.name-item.result ∷ drop (c.names.name-index + 1) c.args.names.now =
    drop_more c.args.names.now c.names.name-index c.name-item.result c.names-test.true
    ∙ ap (λ x. x ∷ drop (c.names.name-index + 1) c.args.names.now) (sym c.name-item.is) in
    subst (λ (r : Result (Unit {0}) ChangeFault). Gives (each f c.args.names.now c.args.self.now) r c.create.new.self) (sym is)
    (subst (λ (o : Outcome Progress Code (Unit {0})). Gives {A = Unit {0}} o (Err e) c.create.new.self)
    (ap (λ l. each f l c.names.self) (sym next) ∙ c.names.invariant.same)
    (each_fails f c.name-item.result _ c.names.self c.create.new.self e c.in_err-create.ensures.gives))
