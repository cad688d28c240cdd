-- Each act leaves variables whose types are a model's, where it binds none with another type.
use Rattle.std.proofs.Common.{ℕ, zero, suc, ◌+◌, Bool, true, false, ◌&&◌, All, List, [], ◌∷◌, ◌++◌, Option, Some, None, Ok, Err}
use Rattle.std.specs.Prelude.{⊤, if◌then◌else◌, nat_lt, not}
use Rattle.std.specs.BTreeMap.{insert_entry, is_at}
use Rattle.std.specs.Map.{remove_entry, values_of}
use Rattle.std.specs.Fmt.{decimal}
use Rattle.std.specs.Option.{IfSome, is_some, option_and_then, option_map_or}
use Rattle.std.specs.Ordering.{is_eq}
use Rattle.std.proofs.lemmas.List.Elements.{All-cons, All-head, All-map, All-nil, All-tail}
use Rattle.std.proofs.lemmas.Map.Entries.{All-lookup}
use Rattle.std.proofs.lemmas.Map.Views.{All-map-remove_entry, All-values-insert_entry}
use Rattle.use_text.specs.declared.code.Code.{Code}
use Rattle.class_model.specs.declared.numbers.End.{End}
use Rattle.class_model.specs.declared.numbers.End.TheVariants.{First, Second}
use Rattle.class_model.specs.declared.object_model.ObjectModel.{ObjectModel}
use Rattle.class_model.specs.declared.types.OclType.{OclType}
use Rattle.class_model.specs.InRange.{IsTypeOf}
use Rattle.ocl_values.specs.declared.value.Value.{Value}
use Rattle.ocl_values.specs.declared.value.Value.TheVariants.{Str}
use Rattle.ocl_values.specs.Order.{value_cmp}
use Rattle.object_referrers.specs.Referring.{links_of, slots_referring_to, variables_referring_to}
use Rattle.object_state.specs.declared.change.Change.{Change}
use Rattle.object_state.specs.declared.change.Change.TheVariants.{Bind, Create, Link, Remove, SetSlot, Unbind, Unlink}
use Rattle.object_state.specs.declared.layout.Layout.{Layout}
use Rattle.object_state.specs.declared.objects.Object.{Object}
use Rattle.object_state.specs.declared.objects.Variable.{Variable}
use Rattle.object_state.specs.declared.store_fault.StoreFault.{StoreFault}
use Rattle.object_state.specs.Changes.{apply, with_object, with_slot}
use Rattle.object_state.specs.Faults.{fault}
use Rattle.object_state.specs.Looks.{value_of}
use Rattle.object_state.specs.Proposals.{creation, linking}
use Rattle.object_state.specs.State.{State, object, object_named, stamp_of, text_cmp, variable}
use Rattle.object_state.specs.Weights.{change_weight, weight}
use Rattle.soil_changes.specs.Acts.{Outcome, ◌>>=◌, ◌>>◌, each, nothing, or_refuse, refuse_if, then_act}
use Rattle.soil_changes.specs.Creating.{create, create_all, create_given, create_named, create_new, create_unnamed, refuse_unless_name}
use Rattle.soil_changes.specs.Destroying.{clear_bound, clear_slot, clear_slots, clear_value, clear_variable, clear_variables, cleared, destroy, destroy_all, destroy_object, live_object, removal, remove, unlink_all, unlink_entry}
use Rattle.soil_changes.specs.Joining.{at_end, delete, end_of, insert, link, unlink, unlink_pair, unlinking}
use Rattle.soil_changes.specs.Progress.{Changing, Progress, carry_out, make, make_fit, refuse_for, x_code}
use Rattle.soil_changes.specs.Storing.{as_object, bind, holder, holder_of, may_be_stored, names_itself, put_slot, refuse_unless_stored, replace_slot, set_slot, set_variable}
use Rattle.soil_exec.specs.Typed.{IsTyped}

-- what holds of each value of entries holds of each entry's
by_value : {K X : Type 0} (P : X → Type 0) (es : List (K × X)) → All P (values_of es) → All (λ e. P e.1) es
by_value {K = K} {X = X} P [] h = All-nil (λ (e : K × X). P e.1)
by_value {K = K} {X = X} P (e ∷ es) h = All-cons (λ (e : K × X). P e.1) e es (All-head P e.1 (values_of es) h) (by_value P es (All-tail P e.1 (values_of es) h))

-- the word with the first number that makes a free name: what the name of an object that is created without one computes to
abbrev first_free : State → List ℕ → ℕ → ℕ → List ℕ
first_free s word n zero = word ++ decimal n
first_free s word n (suc tries) =
    if not (is_some (object_named s (word ++ decimal n))) && not (is_some (variable s (word ++ decimal n))) then word ++ decimal n else first_free s word (n + 1) tries

module _ (m : ObjectModel) where
  abbrev HasType : Variable → Type 0
  HasType v = IsTypeOf m v.of_type

  -- the type that a variable gets is the model's
  abbrev Binds : Change → Type 0
  Binds (Bind name old new) = HasType new
  Binds c = ⊤

  after_change : (l : Layout) (s : State) (c : Change) → Binds c → IsTyped m s → IsTyped m (apply l s c)
  after_change l s (Create d) b h = h
  after_change l s (Remove d) b h = h
  after_change l s (SetSlot o a old new) b h = by (object s o)
    where
      by : (u : Option Object) → IsTyped m (option_map_or (λ x. with_object s o (with_slot l x a new)) u s)
      by None = h
      by (Some x) = h
  after_change l s (Link d) b h = h
  after_change l s (Unlink d) b h = h
  after_change l s (Bind name old new) b h =
      by_value HasType (insert_entry text_cmp s.variables name new)
      (All-values-insert_entry text_cmp name new HasType s.variables (All-map HasType (λ (e : List ℕ × Variable). e.1) s.variables h) b)
  after_change l s (Unbind name old) b h =
      by_value HasType (remove_entry (is_at (text_cmp name)) s.variables)
      (All-map-remove_entry (is_at (text_cmp name)) (λ (e : List ℕ × Variable). e.1) HasType s.variables (All-map HasType (λ (e : List ℕ × Variable). e.1) s.variables h))

  abbrev pub KeepsTypes : Progress → Progress → Type 0
  KeepsTypes p q = IsTyped m p.state → IsTyped m q.state

  abbrev pub Keeps : {A : Type 0} → Changing A → Type 0
  Keeps act = (p : Progress) → KeepsTypes p (act p).1

  then_keeps : {A B : Type 0} (act : Changing A) (next : A → Changing B) → Keeps act → ((a : A) → Keeps (next a)) → Keeps (act >>= next)
  then_keeps {A = A} act next f g p = by (act p) (f p)
    where
      by : (o : Outcome Progress Code A) → KeepsTypes p o.1 → KeepsTypes p (then_act o next).1
      by (Ok a, q) k h = g a q (k h)
      by (Err e, q) k h = k h

  if_keeps : (b : Bool) (e : Code) → Keeps (refuse_if b e)
  if_keeps true e p h = h
  if_keeps false e p h = h

  or_keeps : {A : Type 0} (u : Option A) (e : Code) → Keeps (or_refuse u e)
  or_keeps (Some a) e p h = h
  or_keeps None e p h = h

  each_keeps : {A : Type 0} (f : A → Changing (Unit {0})) (xs : List A) → ((x : A) → Keeps (f x)) → Keeps (each f xs)
  each_keeps f [] k p h = h
  each_keeps f (x ∷ xs) k p h = then_keeps (f x) (λ u. each f xs) (k x) (λ u. each_keeps f xs k) p h

  -- a change
  fault_keeps : (u : Option StoreFault) → Keeps (refuse_for u)
  fault_keeps None p h = h
  fault_keeps (Some f) p h = h

  carry_keeps : (c : Change) → Binds c → Keeps (carry_out c)
  carry_keeps c b p h = after_change p.layout p.state c b h

  fit_keeps : (c : Change) → Binds c → Keeps (make_fit c)
  fit_keeps c b p h = then_keeps (refuse_if (nat_lt p.left (change_weight c)) (x_code 13)) (λ u. carry_out c) (if_keeps (nat_lt p.left (change_weight c)) (x_code 13))
      (λ u. carry_keeps c b) p h

  make_keeps : (c : Change) → Binds c → Keeps (make c)
  make_keeps c b p h = then_keeps (refuse_for (fault p.layout p.state c)) (λ u. make_fit c) (fault_keeps (fault p.layout p.state c)) (λ u. fit_keeps c b) p h

  choice_keeps : (b : Bool) (c : Change) → Binds c → (p : Progress) → KeepsTypes p ((if b then nothing else make c) p).1
  choice_keeps true c b p h = h
  choice_keeps false c b p h = make_keeps c b p h

  -- values that are stored
  pub stored_keeps : (v : Value) → Keeps (refuse_unless_stored v)
  stored_keeps v p h = if_keeps (not (may_be_stored p.state v)) (x_code 12) p h

  pub holder_keeps : (v : Value) (a : ℕ) → Keeps (holder_of v a)
  holder_keeps v a p h = or_keeps (holder p.layout p.state v a) (x_code 5) p h

  replace_keeps : (o a : ℕ) (new old : Value) → Keeps (replace_slot o a new old)
  replace_keeps o a new old p h = choice_keeps (is_eq (value_cmp old new)) (SetSlot o a old new) tt p h

  put_keeps : (o a : ℕ) (v : Value) → Keeps (put_slot o a v)
  put_keeps o a v p h = then_keeps (or_refuse (value_of p.layout p.state o a) (x_code 5)) (replace_slot o a v)
      (or_keeps (value_of p.layout p.state o a) (x_code 5)) (replace_keeps o a v) p h

  pub slot_keeps : (target : Value) (a : ℕ) (v : Value) → Keeps (set_slot target a v)
  slot_keeps target a v = then_keeps (holder_of target a) (λ o. refuse_unless_stored v >> put_slot o a v) (holder_keeps target a)
      (λ o. then_keeps (refuse_unless_stored v) (λ u. put_slot o a v) (stored_keeps v) (λ u. put_keeps o a v))

  pub variable_keeps : (name : List ℕ) (t : OclType) (v : Value) → IsTypeOf m t → Keeps (set_variable name t v)
  variable_keeps name t v is = then_keeps (refuse_unless_stored v) (λ u p. (if names_itself p.state name v then nothing else bind name t v) p) (stored_keeps v)
      (λ u p. by (names_itself p.state name v) p)
    where
      by : (b : Bool) (p : Progress) → KeepsTypes p ((if b then nothing else bind name t v) p).1
      by true p h = h
      by false p h = make_keeps (Bind name (variable p.state name) (record { of_type = t; value = v })) is p h

  -- objects that come
  name_keeps : (name : List ℕ) → Keeps (refuse_unless_name name)
  name_keeps name p h = if_keeps _ (x_code 14) p h

  create_keeps : (class : ℕ) (name : List ℕ) → Keeps (create class name)
  create_keeps class name p h = make_keeps (Create (creation p.layout p.state name class)) tt p h

  pub all_keep : (class : ℕ) (names : List (List ℕ)) → Keeps (create_all class names)
  all_keep class names = then_keeps (each refuse_unless_name names) (λ u. each (create class) names) (each_keeps refuse_unless_name names name_keeps)
      (λ u. each_keeps (create class) names (create_keeps class))

  named_keeps : (class : ℕ) (name : List ℕ) → Keeps (create_named class name)
  named_keeps class name = then_keeps (refuse_unless_name name) (λ u. create class name) (name_keeps name) (λ u. create_keeps class name)

  unnamed_keeps : (class : ℕ) (word : List ℕ) → Keeps (create_unnamed class word)
  unnamed_keeps class word p h = named_keeps class (first_free p.state word p.state.next_object (weight p.state)) p h

  given_keeps : (class : ℕ) (v : Value) → Keeps (create_given class v)
  given_keeps class (Str bytes) p h = named_keeps class bytes p h
  given_keeps class v p h = h

  pub new_keeps : (class : ℕ) (word : List ℕ) (given : Option Value) → Keeps (create_new class word given)
  new_keeps class word None p h = unnamed_keeps class word p h
  new_keeps class word (Some v) p h = given_keeps class v p h

  -- links
  end_keeps : (a : ℕ) (e : End) (v : Value) → Keeps (end_of a e v)
  end_keeps a e v p h = or_keeps (at_end p.layout p.state a e v) (x_code 5) p h

  link_keeps : (a f g : ℕ) → Keeps (link a f g)
  link_keeps a f g p h = make_keeps (Link (linking p.state a f g)) tt p h

  pub insert_keeps : (a : ℕ) (v w : Value) → Keeps (insert a v w)
  insert_keeps a v w = then_keeps (end_of a First v) (λ o. end_of a Second w >>= link a o) (end_keeps a First v)
      (λ o. then_keeps (end_of a Second w) (link a o) (end_keeps a Second w) (link_keeps a o))

  unlink_keeps : (a f g stamp : ℕ) → Keeps (unlink a f g stamp)
  unlink_keeps a f g stamp p h = make_keeps (Unlink (unlinking p.state a f g stamp)) tt p h

  pair_keeps : (a f g : ℕ) → Keeps (unlink_pair a f g)
  pair_keeps a f g p h = then_keeps (or_refuse (stamp_of p.state a f g) (x_code 4)) (unlink a f g) (or_keeps (stamp_of p.state a f g) (x_code 4)) (unlink_keeps a f g) p h

  pub delete_keeps : (a : ℕ) (v w : Value) → Keeps (delete a v w)
  delete_keeps a v w = then_keeps (end_of a First v) (λ o. end_of a Second w >>= unlink_pair a o) (end_keeps a First v)
      (λ o. then_keeps (end_of a Second w) (unlink_pair a o) (end_keeps a Second w) (pair_keeps a o))

  -- objects that go
  entry_keeps : (e : (ℕ × ℕ) × (ℕ × ℕ)) → Keeps (unlink_entry e)
  entry_keeps e = unlink_keeps e.0.0 e.1.0 e.1.1 e.0.1

  links_keep : (o : ℕ) → Keeps (unlink_all o)
  links_keep o p h = each_keeps unlink_entry (links_of p.state o) entry_keeps p h

  value_keeps : (o : ℕ) (place : ℕ × ℕ) (u : Option Value) → Keeps (clear_value o place u)
  value_keeps o place None p h = h
  value_keeps o place (Some v) p h = make_keeps (SetSlot place.0 place.1 v _) tt p h

  clear_keeps : (o : ℕ) (place : ℕ × ℕ) → Keeps (clear_slot o place)
  clear_keeps o place p h = value_keeps o place (value_of p.layout p.state place.0 place.1) p h

  slots_keep : (o : ℕ) → Keeps (clear_slots o)
  slots_keep o p h = each_keeps (clear_slot o) (slots_referring_to p.layout p.state o) (clear_keeps o) p h

  -- a variable that is cleared keeps its type
  bound_keeps : (o : ℕ) (name : List ℕ) (u : Option Variable) → IfSome u HasType → Keeps (clear_bound o name u)
  bound_keeps o name None b p h = h
  bound_keeps o name (Some v) b p h = make_keeps (Bind name (Some v) (cleared o v)) b p h

  unbind_keeps : (o : ℕ) (name : List ℕ) → Keeps (clear_variable o name)
  unbind_keeps o name p h = bound_keeps o name (variable p.state name) (All-lookup HasType (is_at (text_cmp name)) p.state.variables h) p h

  variables_keep : (o : ℕ) → Keeps (clear_variables o)
  variables_keep o p h = each_keeps (clear_variable o) (variables_referring_to p.state o) (unbind_keeps o) p h

  remove_keeps : (o : ℕ) → Keeps (remove o)
  remove_keeps o p h = then_keeps (or_refuse (object p.state o) (x_code 5)) (λ x. make (Remove (removal p.state o x))) (or_keeps (object p.state o) (x_code 5))
      (λ x. make_keeps (Remove (removal p.state o x)) tt) p h

  object_keeps : (o : ℕ) → Keeps (destroy_object o)
  object_keeps o = then_keeps (unlink_all o >> clear_slots o >> clear_variables o) (λ u. remove o)
      (then_keeps (unlink_all o >> clear_slots o) (λ u. clear_variables o) (then_keeps (unlink_all o) (λ u. clear_slots o) (links_keep o) (λ u. slots_keep o))
      (λ u. variables_keep o))
      (λ u. remove_keeps o)

  live_keeps : (v : Value) → Keeps (live_object v)
  live_keeps v p h = or_keeps (option_and_then (λ o. option_and_then (λ x. Some o) (object p.state o)) (as_object v)) (x_code 5) p h

  destroy_keeps : (v : Value) → Keeps (destroy v)
  destroy_keeps v = then_keeps (live_object v) destroy_object (live_keeps v) object_keeps

  pub destroyed_keep : (values : List Value) → Keeps (destroy_all values)
  destroyed_keep values = each_keeps destroy values destroy_keeps
