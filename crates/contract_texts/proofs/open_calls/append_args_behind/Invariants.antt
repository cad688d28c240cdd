use Rattle.std.proofs.Common.{◌≡◌, ◌++◌, drop}
use Rattle.contract_texts.specs.Calls.{args_behind}
use Rattle.contract_texts.proofs.open_calls.append_args_behind.Given as goal

abbrev pub invariant-behind : goal.invariant-behind
invariant-behind g l =
    let s = (g.S.StateReader.held l.state).state in
    l.out.items ++ args_behind l.model s (drop l.arg-index l.args) ≡ l.initial.out.items ++ args_behind l.model s l.args
