use Rattle.std.proofs.Common.{◌≡◌, ◌≤◌, ◌∙◌, ap, cond, false, length, nat_eq, Some, None, sym, arith}
use Rattle.std.proofs.lemmas.Bool.Decides.{nat_tests}
use Rattle.class_model.proofs.Lowest.{lowest_alone}
use Rattle.class_model.proofs.class_model.ClassModel.lowest.Goals as goal

pub returns-else-a-b : goal.returns-else-a-b
returns-else-a-b c =
    let m = c.args.self.now in
    let h : length m.classes ≤ c.args.a = omega arith in
    let e : nat_eq c.args.a c.args.b ≡ false = grind (arith, nat_tests) in
    ap (λ x. cond x (Some c.args.a) None) (sym e) ∙ lowest_alone m c.has_numbers_in_range.ensures.acyclic c.args.a c.args.b h
