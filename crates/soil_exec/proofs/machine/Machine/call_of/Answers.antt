use Rattle.std.proofs.Common.{rules, ◌≡◌, ℕ, List, Err, subst}
use Rattle.ocl_values.specs.declared.value.Value.{Value}
use Rattle.soil_changes.specs.Acts.{◌>>=◌, each, pure}
use Rattle.soil_exec.specs.Calls.{check_stored}
use Rattle.soil_exec.specs.Kept.{Gives, stand}
use Rattle.soil_exec.proofs.Dispatched.{chosen_known}
use Rattle.soil_exec.proofs.Then.{fails_as, goes_on}
use Rattle.soil_exec.proofs.machine.Machine.call_of.Goals as goal

pub returns-in_err-found-clause-gives : goal.returns-in_err-found-clause-gives
returns-in_err-found-clause-gives c = λ steps.
    let e = c.in_err-found.field-0.0 in
    let r = c.from_residual.result in
    let is : r ≡ Err e = search rules in
    let vs = c.args.args in
    fails_as _ (λ (k : ℕ × ℕ). each (check_stored c.args.place) vs >>= (λ u. pure (record { op = k.1; receiver = k.0; args = vs }))) e
    (stand c.args.self.now steps) r is (c.in_err-found.ensures steps)

pub returns-in_err-check_all_stored-clause-gives : goal.returns-in_err-check_all_stored-clause-gives
returns-in_err-check_all_stored-clause-gives c = λ steps.
    let e = c.in_err-check_all_stored.field-0.0 in
    let r = c.from_residual-in_err-check_all_stored.result in
    let is : r ≡ Err e = search rules in
    let vs = c.args.args in
    let m = stand c.args.self.now steps in
    goes_on _ (λ (k : ℕ × ℕ). each (check_stored c.args.place) vs >>= (λ u. pure (record { op = k.1; receiver = k.0; args = vs }))) c.in_ok-found.found m r m
    (c.in_ok-found.ensures steps)
    (fails_as _ (λ u. pure (record { op = c.in_ok-found.found.1; receiver = c.in_ok-found.found.0; args = vs })) e m r is
    (subst (λ (ws : List Value). Gives (each (check_stored c.args.place) ws m) (Err e) m) c.as_slice.ensures (c.in_err-check_all_stored.ensures steps)))

pub returns-clause-is_call : goal.returns-clause-is_call
returns-clause-is_call c = record {
  known = chosen_known c.args.program.now.model c.args.self.now.transaction.state c.args.op c.requires.op c.args.value.now c.args.place _ _ c.in_ok-found.found
      (c.in_ok-found.ensures 0);
  well_made = c.requires.args;
}
