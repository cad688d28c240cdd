use Rattle.std.proofs.Common.{◌∙◌, ap, refl, sym, map, ℕ, List}
use Rattle.class_model.specs.declared.numbers.End.TheVariants.{First, Second}
use Rattle.ocl_values.specs.declared.value.Value.TheVariants.{Obj}
use Rattle.object_store.specs.Indexes.{joined_in}
use Rattle.object_store.specs.Ends.{row_at}
use Rattle.object_store.proofs.Changed.{if_ok}
use Rattle.object_store.proofs.Links.{ends_in_row}
use Rattle.object_store.proofs.link_table.LinkTable.joined.Goals as goal

pub returns-in-First : goal.returns-in-First
returns-in-First c =
    if_ok c.objects_at.result (λ v e. e
    ∙ ends_in_row (λ x. x.1) (λ x. x.0) (λ o p. (p, o)) (λ o p. refl) (λ o p. refl) (λ x. refl) c.self.inside.links (row_at c.self.inside.firsts)
    c.self.invariant.0.ordered c.self.invariant.0.firsts_ordered c.self.invariant.0.firsts_tied c.args.assoc c.args.object Obj
    ∙ ap (λ (l : List ((ℕ × ℕ) × (ℕ × ℕ))). map Obj (joined_in l c.args.assoc First c.args.object)) c.self.view_is
    ∙ ap (λ d. map Obj (joined_in c.args.self.now c.args.assoc d c.args.object)) (sym c.in-First.is)) c.objects_at.ensures

pub returns-in-Second : goal.returns-in-Second
returns-in-Second c =
    if_ok c.objects_at-in-Second.result (λ v e. e
    ∙ ends_in_row (λ x. x.0) (λ x. x.1) (λ o p. (o, p)) (λ o p. refl) (λ o p. refl) (λ x. refl) c.self.inside.links (row_at c.self.inside.seconds)
    c.self.invariant.0.ordered c.self.invariant.0.seconds_ordered c.self.invariant.0.seconds_tied c.args.assoc c.args.object Obj
    ∙ ap (λ (l : List ((ℕ × ℕ) × (ℕ × ℕ))). map Obj (joined_in l c.args.assoc Second c.args.object)) c.self.view_is
    ∙ ap (λ d. map Obj (joined_in c.args.self.now c.args.assoc d c.args.object)) (sym c.in-Second.is)) c.objects_at-in-Second.ensures
