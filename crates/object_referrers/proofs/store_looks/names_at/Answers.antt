use Rattle.std.proofs.Common.{IfOk, filter, map, nat_eq, ℕ, List, [], ap, subst, ◌≡◌, ◌∙◌}
use Rattle.std.specs.BTreeSet.{keys_between}
use Rattle.std.specs.List.{take_while}
use Rattle.std.specs.declared.ops.Bound.TheVariants.{Included, Unbounded}
use Rattle.object_referrers.specs.Places.{variable_key_cmp}
use Rattle.object_referrers.specs.Referring.{name_refers_to}
use Rattle.object_referrers.proofs.Names.{named}
use Rattle.object_referrers.proofs.store_looks.names_at.Goals as goal

pub returns-clause-names : goal.returns-clause-names
returns-clause-names c =
    let Q = name_refers_to c.args.store.now.state c.args.object in
    let empty : c.from_string.result ≡ [] = c.from_string.ensures ∙ c.new.ensures.bytes in
    let is = ap (λ ks. filter Q (map (λ k. k.now.1) ks)) c.as_slice.ensures.value
    ∙ named Q c.in_ok-keys.keys.items (take_while (λ k. nat_eq k.0 c.args.object) (keys_between variable_key_cmp (Included
    (c.args.object, c.from_string.result)) Unbounded c.args.index.now)) c.in_ok-keys.ensures.keys
    ∙ ap (λ (t : List ℕ). map (λ k. k.1) (filter (λ k. Q k.1) (take_while (λ k. nat_eq k.0 c.args.object) (keys_between variable_key_cmp (Included
    (c.args.object, t)) Unbounded c.args.index.now)))) empty in
    subst (λ l. IfOk c.referring.result (λ v. v.items ≡ l)) is c.referring.ensures
