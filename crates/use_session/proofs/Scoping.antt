-- What a command is checked among is the model's, and so it may be carried out.
use Rattle.std.proofs.Common.{◌≡◌, ℕ, ◌<◌, ◌≤◌, All, List, [], ◌∷◌, Option, Some, None, IfSome, length, refl, sym, ap, ◌∙◌, subst, arith, ⊎_elim}
use Rattle.std.specs.Prelude.{codes, slice_get}
use Rattle.std.specs.BTreeMap.{is_at}
use Rattle.std.specs.Option.{ForSome, option_and_then, option_map, option_map_or}
use Rattle.std.proofs.lemmas.List.Elements.{All-cons, All-head, All-map, All-weaker}
use Rattle.std.proofs.lemmas.Option.{slice_get_cases}
use Rattle.std.proofs.lemmas.Map.Entries.{All-lookup}
use Rattle.class_model.specs.InRange.{IsInRange, IsTypeOf}
use Rattle.class_model.specs.Parts.{op_class, op_params}
use Rattle.class_model.specs.declared.object_model.Operation.{Operation}
use Rattle.class_model.specs.declared.object_model.Parameter.{Parameter}
use Rattle.class_model.specs.declared.types.OclType.{OclType}
use Rattle.class_model.specs.declared.types.OclType.TheVariants.{Class}
use Rattle.ocl_core.specs.declared.program.ProgramParts.{ProgramParts}
use Rattle.ocl_core.specs.Trees.{IsSound}
use Rattle.ocl_program.specs.Programs.{IsCheckedNow}
use Rattle.entry_states.specs.declared.frame.Call.{Call}
use Rattle.entry_states.specs.Overlays.{Picture}
use Rattle.contract_frames.specs.Entering.{IsCall}
use Rattle.class_model.specs.declared.object_model.ObjectModel.{ObjectModel}
use Rattle.object_state.specs.declared.layout.Layout.{Layout}
use Rattle.object_state.specs.declared.objects.Object.{Object}
use Rattle.object_state.specs.declared.objects.Variable.{Variable}
use Rattle.object_state.specs.Layouts.{layout_of}
use Rattle.object_state.specs.State.{State, object, object_named, text_cmp, variable}
use Rattle.object_state.specs.Valid.{IsValid}
use Rattle.soil_check.specs.declared.checked.Checked.{Checked}
use Rattle.soil_check.specs.declared.checked.Checked.TheVariants as c
use Rattle.soil_check.specs.declared.scope.Bindings.{Bindings}
use Rattle.soil_check.specs.Checks.{AreBindingsOf, IsCommandOf, IsKnownOf, IsScopeOf, TakesNames}
use Rattle.soil_check.specs.Scopes.{object as known_as_object}
use Rattle.soil_exec.specs.Typed.{IsTyped}
use Rattle.use_info.proofs.Numbers.{as-many-layouts}
use Rattle.use_session.specs.Frames.{bindings_of, params_of, top_bindings}
use Rattle.use_session.specs.Running.{MayRun}
use Rattle.use_session.specs.Shell.{known, known_object, known_unless_bound}
use Rattle.use_session.proofs.Framed.{AreCalls}

for_some : {A : Type 0} (P : A → Type 0) (o : Option A) → IfSome o P → ForSome o P
for_some P None h = λ x is. absurd (cc)
for_some P (Some y) h = λ x is. let same : y ≡ x = cc in subst P same h

module _ (m : ObjectModel) (l : Layout) (s : State) (same : l ≡ layout_of m) (valid : IsValid l s) (typed : IsTyped m s) where
  live_of : (number : ℕ) (o : Option Object) → object s number ≡ o → IfSome (option_map (λ x. known_as_object x.class) o) (IsKnownOf m)
  live_of number None e = tt
  live_of number (Some x) e =
      subst (λ n. x.class < n) (ap (λ (z : Layout). length z.classes) same ∙ as-many-layouts m) (valid.objects.instances number x e).known

  object_of : (o : Option ℕ) → IfSome (option_and_then (known_object s) o) (IsKnownOf m)
  object_of None = tt
  object_of (Some number) = live_of number (object s number) refl

  known_of : (name : List ℕ) (o : Option Variable) → IfSome o (λ v. IsTypeOf m v.of_type) → IfSome (known_unless_bound s name o) (IsKnownOf m)
  known_of name (Some v) h = h
  known_of name None h = object_of (object_named s name)

  -- the names of a state, and what is bound
  pub scope_of : (frame : Option Bindings) → IfSome frame (AreBindingsOf m) → IsScopeOf m (known s) frame
  scope_of frame h = record {
    names = λ name. for_some (IsKnownOf m) (known s name)
        (known_of name (variable s name) (All-lookup (λ v. IsTypeOf m v.of_type) (is_at (text_cmp name)) s.variables typed));
    bindings = for_some (AreBindingsOf m) frame h;
  }

-- what is at a place of a list
there : {X : Type 0} (P : X → Type 0) (xs : List X) (i : ℕ) → All P xs → i < length xs → (x : X) × (P x × (slice_get xs i ≡ Some x))
there P xs i h l =
    ⊎_elim (λ s. (s.0, (subst P s.3 (h i s.0 s.1), s.2))) (λ s. absurd (beyond s.0)) ((slice_get_cases xs i).1)
  where
    beyond : length xs ≤ i → ⊥
    beyond e = omega (arith, e, l)

-- what a call of an operation binds has types of the model
module _ (m : ObjectModel) (ranges : IsInRange m) where
  bindings_proper : (op : ℕ) → op < length m.ops → AreBindingsOf m (bindings_of m op)
  bindings_proper op l =
      let class = there (λ (o : Operation). o.class < length m.classes) m.ops op ranges.op_classes l in
      let params = there (λ (o : Operation). All (λ p. IsTypeOf m p.of_type) o.params) m.ops op ranges.param_types l in
      let result = there (λ (o : Operation). ForSome o.result_type (IsTypeOf m)) m.ops op ranges.result_types l in
      record {
        names = All-cons (λ (b : List ℕ × OclType). IsTypeOf m b.1) (codes "self", Class (op_class m op)) (params_of m op)
            (subst (λ (u : Option Operation). option_map_or (λ o. o.class) u 0 < length m.classes) (sym class.1.1) class.1.0)
            (All-map (λ (b : List ℕ × OclType). IsTypeOf m b.1) (λ (p : Parameter). (p.name, p.of_type)) (op_params m op)
            (subst (λ (u : Option Operation). All (λ p. IsTypeOf m p.of_type) (option_map_or (λ o. o.params) u [])) (sym params.1.1) params.1.0));
        result = subst (λ (u : Option Operation). ForSome (option_and_then (λ o. o.result_type) u) (IsTypeOf m)) (sym result.1.1) result.1.0;
      }

  pub frame_of : (p : ProgramParts) → p.model ≡ m → (calls : List (Call × Picture)) → AreCalls p calls → IfSome (top_bindings m calls) (AreBindingsOf m)
  frame_of p same [] h = tt
  frame_of p same (c ∷ cs) h =
      bindings_proper c.0.op (subst (λ (z : ObjectModel). c.0.op < length z.ops) same (All-head (λ (c : Call × Picture). IsCall p c.0) c cs h).known)

pub runs : (m : ObjectModel) (command : Checked) → IsCommandOf m command → TakesNames command → MayRun m command
runs m c.Empty h k = tt
runs m (c.Query e t shell) h k = h.0.checked.sound
runs m (c.Explain e t shell) h k = tt
runs m (c.Statements body shell) h k = (h, k)
runs m (c.Enter receiver op args shell) h k = (h.0, h.1.checked.sound, All-weaker (IsCheckedNow m) IsSound (λ e g. g.checked.sound) args h.2, k)
runs m (c.Exit value shell) h k = ((λ x is. (h x is).checked.sound), k)
runs m (c.Check detail) h k = tt
runs m (c.Info topic) h k = h
runs m c.Undo h k = tt
runs m c.Redo h k = tt
runs m c.Reset h k = tt
runs m (c.Show number) h k = tt
runs m (c.Drop number) h k = tt
runs m c.Quit h k = tt
