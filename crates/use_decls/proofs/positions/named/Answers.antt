use Rattle.std.proofs.Common.{◌≡◌, suc, ◌+◌, ◌++◌, ◌∷◌, [], cond, length, ap, sym, ◌∙◌, arith, append_assoc}
use Rattle.std.specs.List.{count_by}
use Rattle.std.specs.Vec.Iter.{into_iter_items}
use Rattle.std.proofs.lemmas.List.{length-append}
use Rattle.std.proofs.lemmas.List.Sums.{count_by-le-length}
use Rattle.use_decls.specs.Conds.{cond_decl, group_of, is_group, is_in, named_behind}
use Rattle.use_decls.specs.Counts.{count_in}
use Rattle.use_decls.proofs.Counted.{counted}
use Rattle.use_decls.proofs.positions.named.Goals as goal

pub count_one-requires : goal.count_one-requires
count_one-requires c =
    let group = c.in_ok-group_of.field-0 in
    let before = c.parts.yielded in
    let rest = into_iter_items c.next.new.self in
    let same = ap length (c.parts.invariant.whole ∙ ap (λ l. before ++ l) c.in-Some.ensures.steps.0) in
    let sum = length-append before (c.in-Some.part ∷ rest) in
    let counted_of = count_by-le-length (is_in c.args.context_heads.now group) before in
    omega (arith, c.parts.invariant.counts group, counted_of, same, sum, c.args.parts.ok.0, c.args.parts.small)

pub parts-preserved : goal.parts-preserved
parts-preserved c =
    let heads = c.args.context_heads.now in
    let part = c.in-Some.part in
    let before = c.parts.yielded in
    let rest = into_iter_items c.next.new.self in
    let steps = c.in-Some.ensures.steps.0 in
    let in_group = ap (λ k. count_in c.parts.counts k + 1) c.in_ok-group_of.ensures ∙ ap (λ n. n + 1) (c.parts.invariant.counts (group_of heads part)) in
    let next : count_by (is_in heads (group_of heads part)) before + 1 ≡ suc (count_by (is_in heads (group_of heads part)) before) = omega arith in
    let number = c.in_ok-number.ensures.number ∙ in_group ∙ next in
    let decl = c.in_ok-cond.ensures ∙ ap (λ n. cond_decl n part) number in
    record {
      whole = c.parts.invariant.whole ∙ ap (λ l. before ++ l) steps ∙ sym (append_assoc before (part ∷ []) rest);
      so_far =
          ap (λ l. l ++ named_behind heads (before ++ part ∷ []) rest) c.in_ok-push.ensures.ok
          ∙ append_assoc c.parts.conds (c.in_ok-cond.cond ∷ []) (named_behind heads (before ++ part ∷ []) rest)
          ∙ ap (λ d. c.parts.conds ++ d ∷ named_behind heads (before ++ part ∷ []) rest) decl
          ∙ ap (λ l. c.parts.conds ++ named_behind heads before l) (sym steps)
          ∙ c.parts.invariant.so_far;
      counts =
          counted heads (count_in c.parts.counts) (count_in c.count_one.new.counts) before part c.parts.invariant.counts
          (λ g. c.in_ok-number.ensures.counts g
          ∙ ap (λ k. cond (is_group k g) (count_in c.parts.counts k + 1) (count_in c.parts.counts g)) c.in_ok-group_of.ensures);
    }
