use Rattle.std.proofs.Common.{◌≡◌, ◌++◌, ◌∷◌, [], map, length, ap, ap₂, sym, ◌∙◌, inl, inr, ⊎_elim, rules}
use Rattle.std.specs.List.{zip}
use Rattle.std.specs.Vec.Iter.{into_iter_items, into_iter_len}
use Rattle.std.proofs.lemmas.List.{map-append}
use Rattle.use_orders.proofs.Beside.{zip_next, zip_ends, shorter}
use Rattle.use_orders.proofs.keyed.beside.Goals as goal

pub pair-init : goal.pair-init
pair-init g c =
    let z = c.zip-key-items.ensures in
    let i = c.into_iter.ensures in
    let same = c.into_iter-key-iterator.ensures.into_iter_gives in
    let front : into_iter_items c.into_iter-key-iterator.result.a ≡ c.args.keys.items = ap (λ p. into_iter_items p.a) same ∙ ap into_iter_items z.first
    ∙ i.rest in
    let back : into_iter_items c.into_iter-key-iterator.result.b ≡ c.args.items.items = ap (λ p. into_iter_items p.b) same ∙ z.second.0 in
    record {
      whole = sym (ap₂ zip front back);
      first = ap (λ p. into_iter_len p.a) same ∙ z.remaining ∙ i.len ∙ c.args.keys.ok.0 ∙ sym (ap length front);
      second = ap (λ p. into_iter_len p.b) same ∙ z.second.1 ∙ c.args.items.ok.0 ∙ sym (ap length back);
      pairs = search (rules, c.new-pairs.ensures.items);
    }

pub pair-preserved : goal.pair-preserved
pair-preserved g c =
    let step = c.in-Some.ensures.steps in
    record {
      whole = zip_next _ c.pair.yielded _ _ _ _ c.in-Some.key c.in-Some.item c.pair.invariant.whole step.0.0 step.1.0;
      first = shorter _ _ c.in-Some.key _ _ step.0.0 step.0.1 c.pair.invariant.first;
      second = shorter _ _ c.in-Some.item _ _ step.1.0 step.1.1 c.pair.invariant.second;
      pairs =
          ap (map (λ p. (p.key, p.item))) c.in_ok-push.ensures.items
          ∙ map-append (λ p. (p.key, p.item)) c.pair.pairs.items _
          ∙ ap (λ l. l ++ (c.in-Some.key, c.in-Some.item) ∷ []) c.pair.invariant.pairs;
    }

pub returns : goal.returns
returns g c =
    c.pair.invariant.pairs ∙ zip_ends _ c.pair.yielded _ _ c.pair.invariant.whole
    (⊎_elim (λ e. inl (sym c.pair.invariant.first ∙ e.1.0)) (λ e. inr (sym c.pair.invariant.second ∙ e.1.0)) c.in-None.ensures.steps)
