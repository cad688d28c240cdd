use Rattle.std.proofs.Common.{◌∙◌, ap, sym, ◌≡◌, None}
use Rattle.std.specs.BTreeMap.{is_at}
use Rattle.std.specs.List.{position}
use Rattle.std.specs.Map.{remove_entry}
use Rattle.object_state.proofs.Back.{absent}
use Rattle.object_state.proofs.Placed.{absent_stays, removed_at}
use Rattle.object_state.proofs.entries.Entries.remove.Goals as goal

pub returns-in-Some : goal.returns-in-Some
returns-in-Some g c =
    c.remove.ensures.items
    ∙ removed_at (is_at (g.K.Ord.cmp c.args.key.now)) c.self.inside.entries.items c.in-Some.at
    (ap (position (λ e. is_at (g.K.Ord.cmp c.args.key.now) e.0)) (sym c.as_slice.ensures.value) ∙ sym c.in-Some.ensures)
    ∙ ap (λ l. remove_entry (is_at (g.K.Ord.cmp c.args.key.now)) l) c.self.view_is

pub returns-in_default : goal.returns-in_default
returns-in_default g c =
    sym (absent_stays (is_at (g.K.Ord.cmp c.args.key.now)) c.args.self.now
    (ap (position (λ e. is_at (g.K.Ord.cmp c.args.key.now) e.0)) (sym (c.as_slice.ensures.value ∙ c.self.view_is)) ∙ sym c.place_at.ensures
    ∙ absent c.place_at.result c.in_default.not-Some))
