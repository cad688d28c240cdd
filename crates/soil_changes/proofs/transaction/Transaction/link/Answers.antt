use Rattle.std.proofs.Common.{◌≡◌, ◌&&◌, Bool, true, if◌then◌else◌, Option, Some, None, ap, sym, subst, ◌∙◌}
use Rattle.class_model.specs.declared.numbers.End.TheVariants.{First, Second}
use Rattle.object_state.specs.declared.change.Change.{Change}
use Rattle.object_state.specs.declared.change.Change.TheVariants.{Link}
use Rattle.object_state.specs.Proposals.{linking, may_be_linked}
use Rattle.object_state.proofs.Back.{inside_some}
use Rattle.soil_changes.specs.Progress.{Gives, Progress, make}
use Rattle.soil_changes.proofs.Agreeing.{may_stand_there}
use Rattle.soil_changes.proofs.transaction.Transaction.link.Goals as goal

pub returns-in-Some : goal.returns-in-Some
returns-in-Some c =
    let p = c.args.self.now in
    let first = may_stand_there p.layout p.state c.args.assoc First c.args.first c.requires.first in
    let second = may_stand_there p.layout p.state c.args.assoc Second c.args.second c.requires.second in
    let may : may_be_linked p.layout p.state c.args.assoc c.args.first c.args.second ≡ true = λ i. first i && second i in
    let told = subst (λ (q : Progress). c.linking.result
    ≡ (if may_be_linked q.layout q.state c.args.assoc c.args.first c.args.second
    then Some (Link (linking q.state c.args.assoc c.args.first c.args.second)) else None)) c.self.view_is c.linking.ensures.change in
    let is : c.in-Some.change ≡ Link (linking p.state c.args.assoc c.args.first c.args.second) =
    inside_some _ _ (sym c.in-Some.is ∙ told ∙ ap (λ b. if b then Some (Link (linking p.state c.args.assoc c.args.first c.args.second)) else None) may) in
    subst (λ (x : Change). Gives (make x p) c.make.result c.make.new.self) is c.make.ensures.gives
