use Rattle.std.proofs.Common.{◌≡◌, ◌+◌, [], ◌∷◌, length, length-append, refl, sym, ap, ◌∙◌, subst, arith}
use Rattle.class_rules.specs.Ancestors.{parent_numbers}
use Rattle.class_rules.specs.Numbering.{row_at}
use Rattle.class_rules.specs.Shared.{AreJoined, joined, names_numbered, own_sharing}
use Rattle.class_rules.proofs.SharedNames.{joined_more}
use Rattle.class_rules.proofs.sharing.joined_all.Goals as goal

pub numbers-preserved : goal.numbers-preserved
numbers-preserved c =
    let ds = c.args.index.now in
    let groups = c.args.groups.now in
    let all = c.numbers.all.items in
    let before = c.numbers.invariant in
    let last : c.joined-sharing.result ≡ joined all (row_at (parent_numbers ds) c.numbers.number) (own_sharing groups c.numbers.number (names_numbered c.args.rule ds
    c.numbers.number))
    = rw (
      c.joined-sharing.ensures,
      c.as_slice-in-numbers.ensures.value,
      c.parents.ensures,
      c.hierarchy-hierarchy.ensures,
      c.in_ok-own.ensures,
      c.as_slice.ensures.value,
      c.in_ok-names.ensures,
    ) refl in
    let size = length-append all (c.joined-sharing.result ∷ []) in
    let longer = before.0 in
    subst (λ l. (length l ≡ c.numbers.number + 1) × AreJoined c.args.rule ds groups l) (sym c.in_ok-push.ensures.items) (
      omega arith,
      joined_more c.args.rule ds groups all c.joined-sharing.result before.1
          (last ∙ ap (λ m. joined all (row_at (parent_numbers ds) m) (own_sharing groups m (names_numbered c.args.rule ds m))) (sym before.0)),
    )
