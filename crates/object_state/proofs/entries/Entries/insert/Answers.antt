use Rattle.std.proofs.Common.{◌∙◌, ap, sym, arith, ◌≡◌, false, List}
use Rattle.std.specs.BTreeMap.{insert_entry, is_at}
use Rattle.std.specs.List.{slice_get}
use Rattle.std.specs.Option.{option_map_or}
use Rattle.object_state.proofs.Placed.{equal_put, goes, goes_within, other_goes}
use Rattle.object_state.proofs.entries.Entries.insert.Goals as goal

pub insert-requires : goal.insert-requires
insert-requires g c = let h = goes_within g.K.Ord.cmp c.args.key c.args.value c.as_slice.result.now in omega arith

pub returns-then-holds-clause-ok : goal.returns-then-holds-clause-ok
returns-then-holds-clause-ok g c =
    equal_put g.K.Ord.cmp c.args.key c.args.value c.self.inside.entries.items c.place_for-at.result c.index_mut.result.now
    (c.place_for-at.ensures ∙ ap (goes g.K.Ord.cmp c.args.key c.args.value) c.as_slice.ensures.value)
    (ap (λ l. option_map_or (λ e. is_at (g.K.Ord.cmp c.args.key) e.0) (slice_get l c.place_for-at.result) false) (sym c.as_slice-2.ensures.value)
    ∙ sym c.holds.ensures.there ∙ c.if-holds.true)
    c.index_mut.ensures.value
    ∙ ap (λ l. insert_entry g.K.Ord.cmp l c.args.key c.args.value) c.self.view_is

pub returns-clause-ok : goal.returns-clause-ok
returns-clause-ok g c =
    c.in_ok-insert.ensures.items
    ∙ other_goes g.K.Ord.cmp c.args.key c.args.value c.self.inside.entries.items c.place_for-at.result
    (c.place_for-at.ensures ∙ ap (goes g.K.Ord.cmp c.args.key c.args.value) c.as_slice.ensures.value)
    (ap (λ l. option_map_or (λ e. is_at (g.K.Ord.cmp c.args.key) e.0) (slice_get l c.place_for-at.result) false) (sym c.as_slice-2.ensures.value)
    ∙ sym c.holds.ensures.there ∙ c.if-holds.false)
    ∙ ap (λ l. insert_entry g.K.Ord.cmp l c.args.key c.args.value) c.self.view_is
