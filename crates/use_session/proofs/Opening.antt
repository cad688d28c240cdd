-- Commands that enter and leave calls, from what their expressions come to.
use Rattle.std.proofs.Common.{◌≡◌, ℕ, ◌+◌, Bool, true, false, nat_eq, if◌then◌else◌, List, [], ◌∷◌, length, Option, Result, Ok, Err, refl, sym, ap, ◌∙◌, subst, true≢false, arith}
use Rattle.std.specs.declared.alloc.AllocError.{AllocError}
use Rattle.use_text.specs.declared.code.Code.{Code}
use Rattle.use_text.specs.declared.code.Family.TheVariants.{C}
use Rattle.use_text.specs.declared.place.Place.{Place}
use Rattle.use_text.specs.Codes.{code_of}
use Rattle.use_text.specs.Refusals.{refusal_at}
use Rattle.ocl_values.specs.declared.value.Value.{Value}
use Rattle.ocl_core.specs.declared.expression.Expr.{Expr}
use Rattle.object_state.specs.State.{Diagram}
use Rattle.entry_states.specs.declared.frame.Call.{Call}
use Rattle.entry_states.specs.Overlays.{Picture}
use Rattle.contract_frames.specs.declared.fault.FrameFault.{FrameFault}
use Rattle.contract_frames.specs.declared.fault.FrameFault.TheVariants as contract
use Rattle.contract_frames.specs.Holding.{all_true}
use Rattle.contract_frames.specs.Judging.{post_units, pre_units, pres}
use Rattle.soil_changes.specs.Acts.{Outcome}
use Rattle.soil_exec.specs.declared.fault.ExecFault.{ExecFault}
use Rattle.soil_exec.specs.declared.fault.ExecFault.TheVariants as fault
use Rattle.soil_exec.specs.Calls.{entering, giving}
use Rattle.soil_exec.specs.Exec.{Finds}
use Rattle.soil_exec.specs.Machine.{Machine as Execution, begin}
use Rattle.contract_texts.specs.ContractLines.{broken_line}
use Rattle.use_session.specs.declared.machine.Machine.{Machine as Kept}
use Rattle.use_session.specs.declared.session.Turn.{Turn}
use Rattle.use_session.specs.declared.session.Turn.TheVariants.{Refused}
use Rattle.use_session.specs.Answering.{Answers, IsRefused, TellsFault}
use Rattle.use_session.specs.Answers.{refusal_line}
use Rattle.use_session.specs.Kept.{IsKept, machine_of}
use Rattle.use_session.specs.Machine.{Machine, Step, bound, diagram, enter, entered, entered_unless, exit, faulted_after, first, left, left_by, max_open, open_calls, refused}
use Rattle.use_session.proofs.Told.{behind_units, line_answers}

-- what is evaluated before comes on top of the units of contracts
units_apart : (m : Machine) (at : Place) (n u : ℕ) (c : Call) (r : Result (List ℕ) FrameFault)
    → record (entered_unless m at u c r) { units = n + (entered_unless m at u c r).units } ≡ entered_unless m at (n + u) c r
units_apart m at n u c (Ok ns) = refl
units_apart m at n u c (Err contract.Memory) = refl
units_apart m at n u c (Err contract.TooMany) = refl
units_apart m at n u c (Err (contract.Over k)) = refl
units_apart m at n u c (Err (contract.Broken k v)) = refl
units_apart m at n u c (Err contract.Nothing) = refl

units_left : (m : Machine) (n : ℕ) (w : Value) (calls : List (Call × Picture))
    → record (left_by m 0 w calls) { units = n + (left_by m 0 w calls).units } ≡ left_by m n w calls
units_left m n w [] = λ i. record (left_by m n w []) { units = none n i }
  where
    none : (n : ℕ) → n + 0 ≡ n
    none n = omega arith
units_left m n w (c ∷ cs) = λ i. record (left_by m n w (c ∷ cs)) { units = both n (post_units m.program (diagram m) c.0 c.1 w) i }
  where
    both : (n u : ℕ) → n + (0 + u) ≡ n + u
    both n u = omega arith

-- by how the evaluation of expressions ended
found : (m : Machine) (at : Place) (o : Outcome Execution ExecFault Call) (c : Call) → o.0 ≡ Ok c
    → entered m at o ≡ entered_unless m at (o.1.steps + pre_units m.program (diagram m) c) c (all_true (pres m.program (diagram m) c))
found m at (Ok d, x) c e =
    let same : d ≡ c = cc in ap (λ (k : Call). entered_unless m at (x.steps + pre_units m.program (diagram m) k) k (all_true (pres m.program (diagram m) k))) same
found m at (Err f, x) c e = absurd (differ e)
  where
    differ : ◌≡◌ {A = Result Call ExecFault} (Err f) (Ok c) → ⊥
    differ e = cc

unfound : (m : Machine) (at : Place) (o : Outcome Execution ExecFault Call) (f : ExecFault) → o.0 ≡ Err f → entered m at o ≡ faulted_after o.1.steps m f
unfound m at (Ok d, x) f e = absurd (differ e)
  where
    differ : ◌≡◌ {A = Result Call ExecFault} (Ok d) (Err f) → ⊥
    differ e = cc
unfound m at (Err g, x) f e = let same : g ≡ f = cc in ap (faulted_after x.steps m) same

given : (m : Machine) (o : Outcome Execution ExecFault Value) (w : Value) → o.0 ≡ Ok w → left m o ≡ left_by m o.1.steps w (open_calls m)
given m (Ok v, x) w e = let same : v ≡ w = cc in ap (λ (z : Value). left_by m x.steps z (open_calls m)) same
given m (Err f, x) w e = absurd (differ e)
  where
    differ : ◌≡◌ {A = Result Value ExecFault} (Err f) (Ok w) → ⊥
    differ e = cc

ungiven : (m : Machine) (o : Outcome Execution ExecFault Value) (f : ExecFault) → o.0 ≡ Err f → left m o ≡ faulted_after o.1.steps m f
ungiven m (Ok v, x) f e = absurd (differ e)
  where
    differ : ◌≡◌ {A = Result Value ExecFault} (Ok v) (Err f) → ⊥
    differ e = cc
ungiven m (Err g, x) f e = let same : g ≡ f = cc in ap (faulted_after x.steps m) same

-- a fault of an evaluation is told, and nothing is changed
module _ {A : Type 0} (k : Kept) (h : IsKept k) (o : Outcome Execution ExecFault A) (s : Step) (bytes bytes' : List ℕ) (steps steps' : ℕ) (d : Diagram)
    (told : Result Turn AllocError) where
  refused_by : (f : ExecFault) (line : List ℕ) (code : Code) → s ≡ faulted_after o.1.steps (machine_of k) f
      → faulted_after o.1.steps (machine_of k) f ≡ record { machine = machine_of k; bytes = line; turn = Refused code; units = o.1.steps }
      → d ≡ k.store → steps' ≡ steps + o.1.steps → IsRefused code line bytes told bytes' → Answers s bytes steps told (record k { store = d }) bytes' steps'
  refused_by f line code is same stay units t =
      subst (λ (z : Step × Diagram). Answers z.0 bytes steps told (record k { store = z.1 }) bytes' steps') (λ i. (sym (is ∙ same) i, sym stay i))
      (line_answers (machine_of k) line code o.1.steps bytes steps told k bytes' steps' t.0 t.1 h refl units)

  pub told_fault : (f : ExecFault) → (o.0 ≡ Err f → s ≡ faulted_after o.1.steps (machine_of k) f) → Finds k.store o steps (Err f) d steps'
      → TellsFault k.program f bytes told bytes' → Answers s bytes steps told (record k { store = d }) bytes' steps'
  told_fault fault.Memory is finds t = by told t
    where
      by : (told : Result Turn AllocError) → TellsFault k.program fault.Memory bytes told bytes' → Answers s bytes steps told (record k { store = d }) bytes' steps'
      by (Ok turn) t = absurd (true≢false (sym t))
      by (Err e) t = tt
  told_fault (fault.Refused r) is finds t = refused_by (fault.Refused r) (refusal_line r) r.code (is finds.0) refl finds.1 finds.2 t
  told_fault (fault.Broken r n v) is finds t = refused_by (fault.Broken r n v) (broken_line k.program r n v) r.code (is finds.0) refl finds.1 finds.2 t

-- the command begins with what is kept
pub same_first : (k : Kept) → IsKept k → (shell : List (List ℕ)) (values : List Value) → values ≡ bound (machine_of k)
    → begin k.store [] shell values 0 ≡ first (machine_of k) shell
same_first k h shell values is = λ i. begin (record k.store { layout = h.layout i }) [] shell (is i) 0

-- `openter`
module _ (k : Kept) (h : IsKept k) (at : Place) (receiver : Expr) (op : ℕ) (args : List Expr) (shell : List (List ℕ)) (values : List Value)
    (is : values ≡ bound (machine_of k)) where
  abbrev pub called : Outcome Execution ExecFault Call
  called = entering k.program at receiver op args (begin k.store [] shell values 0)

  -- where more calls may be open
  pub enter_step : nat_eq (length (open_calls (machine_of k))) max_open ≡ false → enter (machine_of k) at receiver op args shell ≡ entered (machine_of k) at called
  enter_step room =
      let m = machine_of k in
      ap (λ (b : Bool). if b then refused m (refusal_at (code_of C 4) at) else entered m at (entering m.program at receiver op args (first m shell))) room
      ∙ sym (ap (λ (x : Execution). entered m at (entering k.program at receiver op args x)) (same_first k h shell values is))

  pub full_step : nat_eq (length (open_calls (machine_of k))) max_open ≡ true → enter (machine_of k) at receiver op args shell ≡ refused (machine_of k) (refusal_at (code_of C 4) at)
  full_step full =
      let m = machine_of k in
      ap (λ (b : Bool). if b then refused m (refusal_at (code_of C 4) at) else entered m at (entering m.program at receiver op args (first m shell))) full

  pub enter_fault : nat_eq (length (open_calls (machine_of k))) max_open ≡ false → (f : ExecFault) → called.0 ≡ Err f
      → enter (machine_of k) at receiver op args shell ≡ faulted_after called.1.steps (machine_of k) f
  enter_fault room f e = enter_step room ∙ unfound (machine_of k) at called f e

  pub enter_found : nat_eq (length (open_calls (machine_of k))) max_open ≡ false → (c : Call) (d : Diagram) (bytes bytes' : List ℕ) (steps middle steps' : ℕ)
      → Finds {A = Call} k.store called steps (Ok c) d middle → (told : Result Turn AllocError) (new : Kept)
      → Answers (entered_unless (machine_of (record k { store = d })) at (pre_units k.program (diagram (machine_of (record k { store = d }))) c) c
      (all_true (pres k.program (diagram (machine_of (record k { store = d }))) c))) bytes middle told new bytes' steps'
      → Answers (enter (machine_of k) at receiver op args shell) bytes steps told new bytes' steps'
  enter_found room c d bytes bytes' steps middle steps' finds told new a =
      let m = machine_of k in
      let u = pre_units k.program (diagram m) c in
      let r = all_true (pres k.program (diagram m) c) in
      let here = subst (λ (z : Diagram × ℕ). Answers (entered_unless (machine_of (record k { store = z.0 })) at
      (pre_units k.program (diagram (machine_of (record k { store = z.0 }))) c) c
      (all_true (pres k.program (diagram (machine_of (record k { store = z.0 }))) c))) bytes z.1 told new bytes' steps') (λ i. (finds.1 i, finds.2 i)) a in
      subst (λ (s : Step). Answers s bytes steps told new bytes' steps')
      (units_apart m at called.1.steps u c r ∙ sym (found m at called c finds.0) ∙ sym (enter_step room))
      (behind_units (entered_unless m at u c r) steps called.1.steps bytes told new bytes' steps' here)

-- `opexit`
module _ (k : Kept) (h : IsKept k) (at : Place) (e : Option Expr) (shell : List (List ℕ)) (values : List Value) (is : values ≡ bound (machine_of k)) where
  abbrev pub result : Outcome Execution ExecFault Value
  result = giving k.program at e (begin k.store [] shell values 0)

  exit_step : exit (machine_of k) at e shell ≡ left (machine_of k) result
  exit_step = sym (ap (λ (x : Execution). left (machine_of k) (giving k.program at e x)) (same_first k h shell values is))

  pub exit_fault : (f : ExecFault) → result.0 ≡ Err f → exit (machine_of k) at e shell ≡ faulted_after result.1.steps (machine_of k) f
  exit_fault f g = exit_step ∙ ungiven (machine_of k) result f g

  pub exit_given : (w : Value) (d : Diagram) (bytes bytes' : List ℕ) (steps middle steps' : ℕ) → Finds {A = Value} k.store result steps (Ok w) d middle
      → (told : Result Turn AllocError) (new : Kept)
      → Answers (left_by (machine_of (record k { store = d })) 0 w (open_calls (machine_of (record k { store = d })))) bytes middle told new bytes' steps'
      → Answers (exit (machine_of k) at e shell) bytes steps told new bytes' steps'
  exit_given w d bytes bytes' steps middle steps' finds told new a =
      let m = machine_of k in
      let here = subst (λ (z : Diagram × ℕ). Answers (left_by (machine_of (record k { store = z.0 })) 0 w (open_calls (machine_of (record k { store = z.0 })))) bytes z.1
      told new bytes' steps') (λ i. (finds.1 i, finds.2 i)) a in
      subst (λ (s : Step). Answers s bytes steps told new bytes' steps')
      (units_left m result.1.steps w (open_calls m) ∙ sym (given m result w finds.0) ∙ sym exit_step)
      (behind_units (left_by m 0 w (open_calls m)) steps result.1.steps bytes told new bytes' steps' here)
