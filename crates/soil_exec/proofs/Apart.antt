-- What was bound is bound again behind an act with other things bound.
use Rattle.std.proofs.Common.{◌≡◌, ℕ, ◌++◌, ◌≤◌, true, List, [], length, take, drop, map, Result, Ok, Err, sym, ap, subst, ◌∙◌, arith}
use Rattle.std.specs.Prelude.{OnOk}
use Rattle.std.proofs.lemmas.List.{drop_at, length-append}
use Rattle.use_orders.specs.Canon.{all_differ}
use Rattle.ocl_values.specs.declared.value.Value.{Value}
use Rattle.object_state.specs.declared.change.Change.{Change}
use Rattle.object_state.specs.declared.layout.Layout.{Layout}
use Rattle.object_state.specs.State.{State, text_cmp}
use Rattle.soil_changes.specs.Acts.{Outcome}
use Rattle.soil_changes.specs.Adding.{Adds}
use Rattle.soil_changes.specs.Progress.{Lead}
use Rattle.soil_changes.proofs.Back.{carried}
use Rattle.soil_exec.specs.declared.calls.Bound.{Bound}
use Rattle.soil_exec.specs.declared.fault.ExecFault.{ExecFault}
use Rattle.soil_exec.specs.declared.fault.ExecFault.TheVariants.{Broken, Memory, Refused}
use Rattle.soil_exec.specs.declared.machine.Machine.{Machine as Kept}
use Rattle.soil_exec.specs.Acted.{IsBoundIn, IsLed, Returns}
use Rattle.soil_exec.specs.Kept.{Gives, stand}
use Rattle.soil_exec.specs.Machine.{Execution, Machine, bound_again, shell_value}
use Rattle.soil_exec.specs.Refreshing.{refreshed_all}
use Rattle.soil_exec.proofs.Framed.{told_adds}
use Rattle.soil_exec.proofs.Fresh.{behind, led_on, names_bound, still_bound}
use Rattle.soil_exec.proofs.Settled.{anew}

-- with what was bound
abbrev pub with_bound : Bound → Kept → Kept
with_bound b k = record k { shell = b.shell; env = b.env }

module _ (before : Kept) (b : Bound) (is : IsBoundIn before b) where
  -- there is a value for each name
  pub long_enough : length b.shell ≤ length b.env
  long_enough =
      subst (λ (z : List (List ℕ) × List Value). length z.0 ≤ length z.1) (λ i. (sym is.shell i, sym is.env i))
      (names_bound before.transaction.state before.shell before.env is.current)

  pub no_fewer : {A : Type 0} (r : Result A ExecFault) (now : Kept) → OnOk r (Adds before.transaction now.transaction) → OnOk r (b.since ≤ length now.transaction.changes)
  no_fewer (Ok a) now h =
      let long = ap length h.changes ∙ length-append before.transaction.changes h.more in
      omega (arith, long, is.since)
  no_fewer (Err x) now h = tt

  bound_there : (n steps : ℕ) (now : Kept) (r : Result Value ExecFault) (o : Outcome Machine ExecFault Value) → o ≡ (r, stand now steps)
      → bound_again (stand before n) o ≡ (r, stand (with_bound b now) steps)
  bound_there n steps now r o h =
      ap (bound_again (stand before n)) h
      ∙ (λ i. (r, record (stand now steps) { shell = sym is.shell i; locals = drop (length (sym is.shell i)) (sym is.env i) }))

  pub gives_again : (n steps : ℕ) (now : Kept) (v : Value) (o : Outcome Machine ExecFault Value) → o ≡ (Ok v, stand now steps)
      → bound_again (stand before n) o ≡ (Ok v, stand (anew b.since (with_bound b now)) steps)
  gives_again n steps now v o h =
      bound_there n steps now (Ok v) o h
      ∙ (λ i. (
        Ok v,
        record (stand (with_bound b now) steps) {
          locals = sym (behind b.shell now.transaction.state (drop b.since now.transaction.changes) b.env long_enough) i;
        },
      ))

  pub fails_again : (n steps : ℕ) (now : Kept) (x : ExecFault) (o : Outcome Machine ExecFault Value) → Gives {A = Value} o (Err x) (stand now steps)
      → Gives {A = Value} (bound_again (stand before n) o) (Err x) (stand (with_bound b now) steps)
  fails_again n steps now Memory o h = tt
  fails_again n steps now (Refused r) o h = bound_there n steps now (Err (Refused r)) o h
  fails_again n steps now (Broken r k v) o h = bound_there n steps now (Err (Broken r k v)) o h

  -- and it is current again
  pub returned : (now : Kept) → Adds before.transaction now.transaction → IsLed now.transaction → all_differ text_cmp b.shell ≡ true
      → Returns before (anew b.since (with_bound b now))
  returned now adds later differ =
      let p = before.transaction in
      let q = now.transaction in
      let leads : Lead p.layout p.start (p.changes ++ adds.more) q.state =
      subst (λ (z : Layout × State × List Change). Lead z.0 z.1 z.2 q.state) (λ i. (adds.layout i, adds.start i, adds.changes i)) later.lead in
      let on = led_on p.layout p.changes adds.more p.start p.state q.state is.led.lead leads in
      let new : drop b.since q.changes ≡ adds.more = ap (drop b.since) adds.changes ∙ drop_at p.changes adds.more b.since (sym is.since) in
      let current : take (length b.shell) b.env ≡ map (shell_value p.state) b.shell =
      subst (λ (z : List (List ℕ) × List Value). take (length z.0) z.1 ≡ map (shell_value p.state) z.0) (λ i. (sym is.shell i, sym is.env i)) is.current in
      record {
        follows = record {
          current = ap (λ (cs : List Change). take (length b.shell) (refreshed_all b.shell q.state b.env cs)) new
              ∙ still_bound q.state p.layout b.shell adds.more p.state b.env differ is.led.valid on current;
          layout = adds.layout;
          shell = is.shell;
          depth = adds.depth;
        };
        noted = adds.noted is.led.valid (carried p.layout adds.more p.state q.state on).0;
      }

-- an execution with other things bound
module _ (before inner now : Kept) (env : List Value) (is : inner ≡ record before { shell = []; env = env }) (act : Execution Value) (n n' : ℕ)
    (done : Result Value ExecFault) (gives : Gives (act (stand inner n)) done (stand now n')) where
  abbrev there : Machine
  there = record (stand before n) { shell = []; locals = env }

  pub gives_there : Gives (act there) done (stand now n')
  gives_there = subst (λ (k : Kept). Gives (act (stand k n)) done (stand now n')) is gives

  pub adds_there : ((m : Machine) → Adds m.progress (act m).1.progress) → OnOk done (Adds before.transaction now.transaction)
  adds_there h = told_adds before.transaction (act there) done now n' (h there) gives_there
