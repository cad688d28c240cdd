use Rattle.std.proofs.Common.{◌≡◌, map, take}
use Rattle.class_decls.proofs.different.conds_differ.Given as goal

abbrev pub invariant-conds : goal.invariant-conds
invariant-conds l = map (λ t. t.now) l.texts.items ≡ map (λ c. c.name.text) (take l.cond-index l.conds)
