use Rattle.std.proofs.Common.{◌≡◌, ◌++◌, ◌≤◌, ap, sym, ◌∙◌, append-nil, length, arith}
use Rattle.std.specs.Prelude.{codes}
use Rattle.std.specs.List.{flat_map}
use Rattle.std.proofs.lemmas.List.{take_all}
use Rattle.ocl_values.proofs.Texts.{gathered}
use Rattle.object_state.specs.declared.layout.Layout.{Layout}
use Rattle.use_info.specs.Counts.{count_line}
use Rattle.use_info.specs.States.{link_line, object_lines}
use Rattle.use_info.proofs.Listed.{all-links, each, each-found, found, links-more, no-links}
use Rattle.use_info.proofs.Numbers.{as-many-assocs}
use Rattle.use_info.proofs.Pieces.{grown}
use Rattle.use_info.proofs.state_info.append_state.Goals as goal

pub objects-preserved : goal.objects-preserved
objects-preserved g c =
    let s = (g.S.StateReader.held c.args.state.now).state in
    grown (found (object_lines c.args.model.now s) s.objects) c.as_slice-number-items.result.now c.objects.number-index _ _ _ _ c.objects-test.true
    c.objects.invariant c.in_ok-append_numbered.ensures

pub assocs-init : goal.assocs-init
assocs-init g c =
    let s = (g.S.StateReader.held c.args.state.now).state in
    sym (ap (λ l. c.append_count-2.new.out.items ++ flat_map (each (link_line c.args.model.now s)) l) (no-links s.links)
    ∙ append-nil c.append_count-2.new.out.items)

pub assocs-preserved : goal.assocs-preserved
assocs-preserved g c =
    let s = (g.S.StateReader.held c.args.state.now).state in
    links-more (link_line c.args.model.now s) c.assocs.assoc s.links _ _ _ c.state_is_valid.ensures.links.ordered c.assocs.invariant c.in_ok-append_links.ensures

pub returns : goal.returns
returns g c =
    let m = c.args.model.now in
    let d = g.S.StateReader.held c.args.state.now in
    let s = d.state in
    let all : length c.as_slice-number-items.result.now ≤ c.objects.number-index = omega (arith, c.objects-test.false) in
    let count : length d.layout.assocs ≡ length m.assocs = ap (λ (l : Layout). length l.assocs) c.requires.layout ∙ as-many-assocs m in
    let end : length d.layout.assocs ≤ c.assocs.assoc = omega (arith, count, c.assocs-test.false, c.assoc_count-assoc-end.ensures) in
    gathered _ _ _ _ _ _ _ _ _ (c.in_ok-append_count.ensures ∙ ap (λ n. c.args.out.now.items ++ count_line (codes "objects") n) c.object_count.ensures)
    (c.objects.invariant
    ∙ ap (λ l. c.append_count.new.out.items ++ flat_map (found (object_lines m s) s.objects) l)
    (take_all c.objects.number-index c.as_slice-number-items.result.now all ∙ c.as_slice-number-items.ensures ∙ c.in_ok-numbers.ensures)
    ∙ ap (λ t. c.append_count.new.out.items ++ t) (each-found (object_lines m s) s.objects c.state_is_valid.ensures.objects.ordered))
    (c.in_ok-append_count-2.ensures ∙ ap (λ n. c.objects.out.items ++ count_line (codes "links") n) c.link_count.ensures)
    (c.assocs.invariant
    ∙ ap (λ l. c.append_count-2.new.out.items ++ flat_map (each (link_line m s)) l) (all-links d.layout s c.assocs.assoc c.state_is_valid.ensures end))
