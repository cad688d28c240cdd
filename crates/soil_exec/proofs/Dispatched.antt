-- The operation that is chosen for a class is one of the model.
use Rattle.std.proofs.Common.{ℕ, ◌+◌, ◌<◌, ◌≤◌, ◌≡◌, Bool, true, false, All, List, [], ◌∷◌, length, slice_get, unwrap_or, Option, Some, None, Result, Ok, Err, ap, subst, ◌∙◌, arith}
use Rattle.std.specs.List.{cons_option, enumerate_from, filter_map, find}
use Rattle.std.specs.Option.{IfSome, option_and_then, option_map_or}
use Rattle.std.specs.Prelude.{if◌then◌else◌}
use Rattle.std.proofs.lemmas.List.{length-map}
use Rattle.std.proofs.lemmas.List.FromFn.{length-enumerate_from}
use Rattle.std.proofs.lemmas.List.Elements.{All-cons, All-head, All-nil, All-tail}
use Rattle.class_model.specs.declared.object_model.ObjectModel.{ObjectModel}
use Rattle.class_model.specs.declared.object_model.Operation.{Operation}
use Rattle.class_model.specs.Features.{declarations, dispatch, has_operation, operation}
use Rattle.class_model.specs.Inheritance.{is_a}
use Rattle.class_model.specs.Parts.{op_class}
use Rattle.ocl_values.specs.declared.value.Value.{Value}
use Rattle.use_text.specs.declared.place.Place.{Place}
use Rattle.object_state.specs.declared.layout.Layout.{Layout}
use Rattle.object_state.specs.declared.objects.Object.{Object}
use Rattle.object_state.specs.Layouts.{class_layout, layout_of}
use Rattle.object_state.specs.State.{State, object}
use Rattle.object_state.specs.Valid.{IsValid}
use Rattle.soil_changes.specs.Storing.{as_object}
use Rattle.soil_exec.specs.declared.fault.ExecFault.{ExecFault}
use Rattle.soil_exec.specs.Calls.{chosen, chosen_for}
use Rattle.soil_exec.specs.Machine.{Machine, or_breaks_x}

module _ (bound : ℕ) where
  abbrev Low : ℕ → Type 0
  Low n = n < bound

  row : (b : Bool) (n : ℕ) (ns : List ℕ) → n < bound → All Low ns → All Low (cons_option (if b then Some n else None) ns)
  row true n ns l h = All-cons Low n ns l h
  row false n ns l h = h

  numbers_low : {A : Type 0} (test : A → Bool) (xs : List A) (n : ℕ) → n + length xs ≤ bound
      → All Low (filter_map (λ p. if test p.1 then Some p.0 else None) (enumerate_from n xs))
  numbers_low test [] n l = All-nil Low
  numbers_low test (x ∷ xs) n l =
      row (test x) n (filter_map (λ p. if test p.1 then Some p.0 else None) (enumerate_from (n + 1) xs)) (omega arith) (numbers_low test xs (n + 1) (omega arith))

  found_low : (test : ℕ → Bool) (ns : List ℕ) → All Low ns → IfSome (find test ns) Low
  found_low test [] h = tt
  found_low test (n ∷ ns) h = by (test n) (found_low test ns (All-tail Low n ns h))
    where
      by : (b : Bool) → IfSome (find test ns) Low → IfSome (if b then Some n else find test ns) Low
      by true k = All-head Low n ns h
      by false k = k

  or_low : (u : Option ℕ) (n : ℕ) → IfSome u Low → n < bound → unwrap_or u n < bound
  or_low (Some k) n h l = h
  or_low None n h l = l

module _ (m : ObjectModel) (c o : ℕ) (known : o < length m.ops) where
  operation_low : (name : List ℕ) → IfSome (operation m c name) (Low (length m.ops))
  operation_low name = found_low (length m.ops) _ (declarations m c name) (numbers_low (length m.ops) (has_operation m c name) m.ops 0 (omega arith))

  pub dispatch_known : dispatch m c o < length m.ops
  dispatch_known = by (slice_get m.ops o)
    where
      choose : (b : Bool) (name : List ℕ) → (if b then unwrap_or (operation m c name) o else o) < length m.ops
      choose true name = or_low (length m.ops) (operation m c name) o (operation_low name) known
      choose false name = known

      by : (u : Option Operation) → option_map_or (λ op. if is_a m c op.class then unwrap_or (operation m c op.name) o else o) u o < length m.ops
      by None = known
      by (Some op) = choose (is_a m c op.class) op.name

-- the class of a live object is the model's
pub live_class : (m : ObjectModel) (l : Layout) (s : State) (o : ℕ) (x : Object) → l ≡ layout_of m → IsValid l s → object s o ≡ Some x → x.class < length m.classes
live_class m l s o x e v h =
    let long : length l.classes ≡ length m.classes =
    ap (λ (z : Layout). length z.classes) e ∙ length-map (enumerate_from 0 m.classes) (λ c. class_layout m c.0 c.1.is_abstract) ∙ length-enumerate_from 0 m.classes in
    let low : x.class < length l.classes = (v.objects.instances o x h).known in
    omega arith

-- and so is the operation that is chosen for a value
module _ (m : ObjectModel) (s : State) (op : ℕ) (known : op < length m.ops) where
  abbrev Known : ℕ × ℕ → Type 0
  Known c = c.1 < length m.ops

  tested : (o : ℕ) (x : Object) (b : Bool) → IfSome (if b then Some (o, dispatch m x.class op) else None) Known
  tested o x true = dispatch_known m x.class op known
  tested o x false = tt

  of_object : (o : ℕ) (u : Option Object) → IfSome (option_and_then (chosen_for m op o) u) Known
  of_object o None = tt
  of_object o (Some x) = tested o x (is_a m x.class (op_class m op))

  of_number : (u : Option ℕ) → IfSome (option_and_then (λ o. option_and_then (chosen_for m op o) (object s o)) u) Known
  of_number None = tt
  of_number (Some o) = of_object o (object s o)

  there : (at : Place) (a b : Machine) (c : ℕ × ℕ) (u : Option (ℕ × ℕ)) → IfSome u Known → or_breaks_x u 5 at a ≡ (Ok c, b) → Known c
  there at a b c None k h = absurd (differ c (ap (λ (o : Result (ℕ × ℕ) ExecFault × Machine). o.0) h))
    where
      differ : {x : ExecFault} (c : ℕ × ℕ) → ◌≡◌ {A = Result (ℕ × ℕ) ExecFault} (Err x) (Ok c) → ⊥
      differ c h = cc
  there at a b c (Some d) k h = subst Known (same c d (ap (λ (o : Result (ℕ × ℕ) ExecFault × Machine). o.0) h)) k
    where
      same : (c d : ℕ × ℕ) → ◌≡◌ {A = Result (ℕ × ℕ) ExecFault} (Ok d) (Ok c) → d ≡ c
      same c d h = cc

  pub chosen_known : (v : Value) (at : Place) (a b : Machine) (c : ℕ × ℕ) → or_breaks_x (chosen m s op v) 5 at a ≡ (Ok c, b) → c.1 < length m.ops
  chosen_known v at a b c h = there at a b c (chosen m s op v) (of_number (as_object v)) h
