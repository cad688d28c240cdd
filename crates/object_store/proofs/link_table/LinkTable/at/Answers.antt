use Rattle.std.proofs.Common.{◌∙◌, ap, refl, sym, ℕ, List}
use Rattle.std.specs.List.{filter}
use Rattle.class_model.specs.declared.numbers.End.TheVariants.{First, Second}
use Rattle.object_state.specs.Looks.{has_at}
use Rattle.object_store.specs.Ends.{row_at}
use Rattle.object_store.proofs.Changed.{if_ok}
use Rattle.object_store.proofs.Links.{links_in_row}
use Rattle.object_store.proofs.link_table.LinkTable.at.Goals as goal

pub returns-in-First : goal.returns-in-First
returns-in-First c =
    if_ok c.links_at.result (λ v e. e
    ∙ links_in_row (λ x. x.0) (λ x. x.1) (λ o p. (o, p)) (λ o p. refl) (λ o p. refl) (λ x. refl) c.self.inside.links (row_at c.self.inside.seconds)
    c.self.invariant.0.ordered c.self.invariant.0.seconds_ordered c.self.invariant.0.seconds_tied c.args.assoc c.args.object
    ∙ ap (λ (l : List ((ℕ × ℕ) × (ℕ × ℕ))). filter (has_at c.args.assoc First c.args.object) l) c.self.view_is
    ∙ ap (λ d. filter (has_at c.args.assoc d c.args.object) c.args.self.now) (sym c.in-First.is)) c.links_at.ensures

pub returns-in-Second : goal.returns-in-Second
returns-in-Second c =
    if_ok c.links_at-in-Second.result (λ v e. e
    ∙ links_in_row (λ x. x.1) (λ x. x.0) (λ o p. (p, o)) (λ o p. refl) (λ o p. refl) (λ x. refl) c.self.inside.links (row_at c.self.inside.firsts)
    c.self.invariant.0.ordered c.self.invariant.0.firsts_ordered c.self.invariant.0.firsts_tied c.args.assoc c.args.object
    ∙ ap (λ (l : List ((ℕ × ℕ) × (ℕ × ℕ))). filter (has_at c.args.assoc Second c.args.object) l) c.self.view_is
    ∙ ap (λ d. filter (has_at c.args.assoc d c.args.object) c.args.self.now) (sym c.in-Second.is)) c.links_at-in-Second.ensures
