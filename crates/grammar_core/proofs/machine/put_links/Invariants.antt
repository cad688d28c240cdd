use Rattle.std.proofs.Common.{◌≡◌, ◌++◌, map, take}
use Rattle.grammar_core.specs.declared.machine.Task.TheVariants.{Repeat}
use Rattle.grammar_core.proofs.machine.put_links.Given as goal

abbrev pub invariant-links : goal.invariant-links
invariant-links l = l.stack.items ≡ l.fn.stack.items ++ map (λ k. Repeat k.repeated l.level k.rule l.start) (take l.link-index l.links)
