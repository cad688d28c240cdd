use Rattle.std.proofs.Common.{◌≡◌, ◌++◌, drop}
use Rattle.use_shell.specs.Echo.{lines_on, shown}
use Rattle.use_shell.proofs.echo.append_lines.Given as goal

abbrev pub invariant-bytes : goal.invariant-bytes
invariant-bytes l = l.out.items ++ lines_on (drop l.b-index l.text) ≡ l.fn.out.items ++ shown l.text
