use Rattle.std.proofs.Common.{◌≡◌, ◌||◌, ap, sym, subst, ◌∙◌}
use Rattle.std.specs.Prelude.{nat_eq}
use Rattle.std.specs.Vec.Iter.{into_iter_items}
use Rattle.object_referrers.specs.Referring.{links_of}
use Rattle.object_state.specs.Valid.{IsValid}
use Rattle.soil_changes.specs.Acts.{each}
use Rattle.soil_changes.specs.Destroying.{unlink_entry}
use Rattle.soil_changes.specs.Progress.{Progress}
use Rattle.soil_changes.proofs.Left.{first_left}
use Rattle.soil_changes.proofs.Made.{each_next}
use Rattle.soil_changes.proofs.transaction.Transaction.unlink_all.Goals as goal

pub unlink-requires : goal.unlink-requires
unlink-requires c =
    let valid = subst (λ (p : Progress). IsValid p.layout p.state) c.self-in-links.view_is c.state_is_valid.ensures in
    (first_left (λ e. nat_eq e.1.0 c.args.object || nat_eq e.1.1 c.args.object) c.links.self.state.links c.in-Some.link _ valid.links.ordered
    (c.links.invariant.left ∙ c.in-Some.ensures.steps.0)).0

pub links-preserved : goal.links-preserved
links-preserved c =
    let valid = subst (λ (p : Progress). IsValid p.layout p.state) c.self-in-links.view_is c.state_is_valid.ensures in
    record {
      same = sym (each_next unlink_entry c.in-Some.link _ c.links.self c.unlink.new.self c.in_ok-unlink.ensures.gives)
          ∙ ap (λ l. each unlink_entry l c.links.self) (sym c.in-Some.ensures.steps.0) ∙ c.links.invariant.same;
      left = ap (λ (p : Progress). links_of p.state c.args.object) c.in_ok-unlink.ensures.made
          ∙ (first_left (λ e. nat_eq e.1.0 c.args.object || nat_eq e.1.1 c.args.object) c.links.self.state.links c.in-Some.link _ valid.links.ordered
          (c.links.invariant.left ∙ c.in-Some.ensures.steps.0)).1;
    }
