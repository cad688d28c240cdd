use Rattle.std.proofs.Common.{◌≡◌, ℕ, ◌+◌, ◌-◌, ◌<◌, ◌∷◌, List, drop, length, sym, ap, ◌∙◌, arith}
use Rattle.std.specs.BTreeMap.{insert_entry, is_at}
use Rattle.std.specs.Cmp.Lexicographic.{pointwise}
use Rattle.std.specs.List.{position}
use Rattle.std.specs.Map.{lookup}
use Rattle.std.specs.Prelude.{nat_eq}
use Rattle.std.proofs.lemmas.List.{drop_more}
use Rattle.object_state.specs.State.{text_cmp}
use Rattle.soil_exec.proofs.Places.{shifted, told_more}
use Rattle.soil_exec.proofs.shell.places_of.Goals as goal

pub names-preserved : goal.names-preserved
names-preserved c =
    let all = c.args.names.now in
    let n = c.names.place - 1 in
    let name = c.index-names-place.result in
    let some : 0 < c.names.place = c.names-test.true in
    let back : c.names.place ≡ n + 1 = omega (arith, some) in
    let within : n < length all = omega (arith, some, c.names.invariant.within) in
    let next : drop n all ≡ name ∷ drop c.names.place all =
    drop_more all n name within ∙ ap (λ x. x ∷ drop (n + 1) all) (sym c.index-names-place.is) ∙ ap (λ k. name ∷ drop k all) (sym back) in
    let copy : c.in_ok-name.name ≡ name = c.in_ok-name.ensures ∙ c.as_str.ensures in
    record {
      found = λ t.
          ap (λ (es : List (List ℕ × ℕ)). lookup (is_at (text_cmp t)) es)
          (c.in_ok-insert.ensures.entries ∙ ap (λ (x : List ℕ). insert_entry text_cmp c.names.places.entries x n) copy)
          ∙ told_more c.names.places.entries name (drop c.names.place all) n t
          (c.names.invariant.found t ∙ ap (λ k. shifted k (position (pointwise nat_eq t) (drop c.names.place all))) back)
          ∙ ap (λ (l : List (List ℕ)). shifted n (position (pointwise nat_eq t) l)) (sym next);
      within = omega (arith, within);
    }
