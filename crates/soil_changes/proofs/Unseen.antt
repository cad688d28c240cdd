-- Acts do not see the frames of open calls: what an act gives, and all else that it leaves, is the same whatever the frames are.
use Rattle.std.proofs.Common.{◌≡◌, ℕ, Bool, true, false, List, [], ◌∷◌, Option, Some, None, Ok, Err, refl, sym, ap, ◌∙◌, is_eq}
use Rattle.std.specs.Prelude.{if◌then◌else◌, nat_lt, not}
use Rattle.std.specs.Option.{option_and_then}
use Rattle.use_text.specs.declared.code.Code.{Code}
use Rattle.class_model.specs.declared.numbers.End.{End}
use Rattle.class_model.specs.declared.numbers.End.TheVariants.{First, Second}
use Rattle.class_model.specs.declared.types.OclType.{OclType}
use Rattle.ocl_values.specs.declared.value.Value.{Value}
use Rattle.ocl_values.specs.declared.value.Value.TheVariants.{Str}
use Rattle.ocl_values.specs.Order.{value_cmp}
use Rattle.object_names.specs.Names.{is_name, made_name}
use Rattle.object_references.specs.References.{without_object}
use Rattle.object_referrers.specs.Referring.{links_of, slots_referring_to, variables_referring_to}
use Rattle.object_state.specs.declared.change.Change.{Change}
use Rattle.object_state.specs.declared.change.Change.TheVariants.{Bind, Create, Link, Remove, SetSlot, Unlink}
use Rattle.object_state.specs.declared.objects.Variable.{Variable}
use Rattle.object_state.specs.declared.store_fault.StoreFault.{StoreFault}
use Rattle.object_state.specs.Faults.{fault}
use Rattle.object_state.specs.Looks.{value_of}
use Rattle.object_state.specs.Proposals.{creation, linking}
use Rattle.object_state.specs.State.{object, stamp_of, variable}
use Rattle.object_state.specs.Weights.{change_weight}
use Rattle.soil_changes.specs.Acts.{Outcome, ◌>>=◌, ◌>>◌, each, nothing, or_refuse, refuse_if, then_act}
use Rattle.soil_changes.specs.Creating.{create, create_all, create_given, create_named, create_new, create_unnamed, refuse_unless_name}
use Rattle.soil_changes.specs.Destroying.{clear_bound, clear_slot, clear_slots, clear_value, clear_variable, clear_variables, cleared, destroy, destroy_all, destroy_object, live_object, removal, remove, unlink_all, unlink_entry}
use Rattle.soil_changes.specs.Joining.{at_end, delete, end_of, insert, link, unlink, unlink_pair, unlinking}
use Rattle.soil_changes.specs.Progress.{Changing, Progress, carry_out, make, make_fit, refuse_for, x_code}
use Rattle.soil_changes.specs.Storing.{as_object, bind, holder, holder_of, may_be_stored, names_itself, put_slot, refuse_unless_stored, replace_slot, set_slot, set_variable}

-- without frames
abbrev pub bare : Progress → Progress
bare p = record p { frames = [] }

abbrev pub bared : {A : Type 0} → Outcome Progress Code A → Outcome Progress Code A
bared o = (o.0, bare o.1)

abbrev pub Unseen : {A : Type 0} → Changing A → Type 0
Unseen act = (p : Progress) → bared (act (bare p)) ≡ bared (act p)

-- one act after another
goes_on : {A B : Type 0} (next : A → Changing B) → ((a : A) → Unseen (next a)) → (o : Outcome Progress Code A)
    → bared (then_act (bared o) next) ≡ bared (then_act o next)
goes_on next h (Ok a, q) = h a q
goes_on next h (Err e, q) = refl

then_unseen : {A B : Type 0} (act : Changing A) (next : A → Changing B) → Unseen act → ((a : A) → Unseen (next a)) → Unseen (act >>= next)
then_unseen act next f h p = sym (goes_on next h (act (bare p))) ∙ ap (λ o. bared (then_act o next)) (f p) ∙ goes_on next h (act p)

if_unseen : (b : Bool) (e : Code) → Unseen (refuse_if b e)
if_unseen true e p = refl
if_unseen false e p = refl

or_unseen : {A : Type 0} (u : Option A) (e : Code) → Unseen (or_refuse u e)
or_unseen (Some a) e p = refl
or_unseen None e p = refl

each_unseen : {A : Type 0} (f : A → Changing (Unit {0})) (xs : List A) → ((x : A) → Unseen (f x)) → Unseen (each f xs)
each_unseen f [] h p = refl
each_unseen f (x ∷ xs) h p = then_unseen (f x) (λ u. each f xs) (h x) (λ u. each_unseen f xs h) p

-- a change
fault_unseen : (u : Option StoreFault) → Unseen (refuse_for u)
fault_unseen None p = refl
fault_unseen (Some f) p = refl

carry_unseen : (c : Change) → Unseen (carry_out c)
carry_unseen c p = refl

fit_unseen : (c : Change) → Unseen (make_fit c)
fit_unseen c p = then_unseen (refuse_if (nat_lt p.left (change_weight c)) (x_code 13)) (λ u. carry_out c)
    (if_unseen (nat_lt p.left (change_weight c)) (x_code 13)) (λ u. carry_unseen c) p

make_unseen : (c : Change) → Unseen (make c)
make_unseen c p = then_unseen (refuse_for (fault p.layout p.state c)) (λ u. make_fit c) (fault_unseen (fault p.layout p.state c)) (λ u. fit_unseen c) p

choice_unseen : (b : Bool) (c : Change) → Unseen (if b then nothing else make c)
choice_unseen true c p = refl
choice_unseen false c p = make_unseen c p

-- values that are stored
pub stored_unseen : (v : Value) → Unseen (refuse_unless_stored v)
stored_unseen v p = if_unseen (not (may_be_stored p.state v)) (x_code 12) p

pub holder_unseen : (v : Value) (a : ℕ) → Unseen (holder_of v a)
holder_unseen v a p = or_unseen (holder p.layout p.state v a) (x_code 5) p

replace_unseen : (o a : ℕ) (new old : Value) → Unseen (replace_slot o a new old)
replace_unseen o a new old p = choice_unseen (is_eq (value_cmp old new)) (SetSlot o a old new) p

put_unseen : (o a : ℕ) (v : Value) → Unseen (put_slot o a v)
put_unseen o a v p = then_unseen (or_refuse (value_of p.layout p.state o a) (x_code 5)) (replace_slot o a v)
    (or_unseen (value_of p.layout p.state o a) (x_code 5)) (replace_unseen o a v) p

pub slot_unseen : (target : Value) (a : ℕ) (v : Value) → Unseen (set_slot target a v)
slot_unseen target a v = then_unseen (holder_of target a) (λ o. refuse_unless_stored v >> put_slot o a v) (holder_unseen target a)
    (λ o. then_unseen (refuse_unless_stored v) (λ u. put_slot o a v) (stored_unseen v) (λ u. put_unseen o a v))

pub variable_unseen : (name : List ℕ) (t : OclType) (v : Value) → Unseen (set_variable name t v)
variable_unseen name t v = then_unseen (refuse_unless_stored v) (λ u p. (if names_itself p.state name v then nothing else bind name t v) p) (stored_unseen v)
    (λ u p. by (names_itself p.state name v) p)
  where
    by : (b : Bool) → Unseen (if b then nothing else bind name t v)
    by true p = refl
    by false p = make_unseen (Bind name (variable p.state name) (record { of_type = t; value = v })) p

-- objects that come
name_unseen : (name : List ℕ) → Unseen (refuse_unless_name name)
name_unseen name p = if_unseen (not (is_name name)) (x_code 14) p

create_unseen : (class : ℕ) (name : List ℕ) → Unseen (create class name)
create_unseen class name p = make_unseen (Create (creation p.layout p.state name class)) p

pub all_unseen : (class : ℕ) (names : List (List ℕ)) → Unseen (create_all class names)
all_unseen class names = then_unseen (each refuse_unless_name names) (λ u. each (create class) names) (each_unseen refuse_unless_name names name_unseen)
    (λ u. each_unseen (create class) names (create_unseen class))

named_unseen : (class : ℕ) (name : List ℕ) → Unseen (create_named class name)
named_unseen class name = then_unseen (refuse_unless_name name) (λ u. create class name) (name_unseen name) (λ u. create_unseen class name)

unnamed_unseen : (class : ℕ) (word : List ℕ) → Unseen (create_unnamed class word)
unnamed_unseen class word p = named_unseen class (made_name p.state word) p

given_unseen : (class : ℕ) (v : Value) → Unseen (create_given class v)
given_unseen class (Str bytes) p = named_unseen class bytes p
given_unseen class v p = refl

pub new_unseen : (class : ℕ) (word : List ℕ) (given : Option Value) → Unseen (create_new class word given)
new_unseen class word None p = unnamed_unseen class word p
new_unseen class word (Some v) p = given_unseen class v p

-- links
end_unseen : (a : ℕ) (e : End) (v : Value) → Unseen (end_of a e v)
end_unseen a e v p = or_unseen (at_end p.layout p.state a e v) (x_code 5) p

link_unseen : (a f g : ℕ) → Unseen (link a f g)
link_unseen a f g p = make_unseen (Link (linking p.state a f g)) p

pub insert_unseen : (a : ℕ) (v w : Value) → Unseen (insert a v w)
insert_unseen a v w = then_unseen (end_of a First v) (λ o. end_of a Second w >>= link a o) (end_unseen a First v)
    (λ o. then_unseen (end_of a Second w) (link a o) (end_unseen a Second w) (link_unseen a o))

unlink_unseen : (a f g stamp : ℕ) → Unseen (unlink a f g stamp)
unlink_unseen a f g stamp p = make_unseen (Unlink (unlinking p.state a f g stamp)) p

pair_unseen : (a f g : ℕ) → Unseen (unlink_pair a f g)
pair_unseen a f g p = then_unseen (or_refuse (stamp_of p.state a f g) (x_code 4)) (unlink a f g) (or_unseen (stamp_of p.state a f g) (x_code 4)) (unlink_unseen a f g) p

pub delete_unseen : (a : ℕ) (v w : Value) → Unseen (delete a v w)
delete_unseen a v w = then_unseen (end_of a First v) (λ o. end_of a Second w >>= unlink_pair a o) (end_unseen a First v)
    (λ o. then_unseen (end_of a Second w) (unlink_pair a o) (end_unseen a Second w) (pair_unseen a o))

-- objects that go
entry_unseen : (e : (ℕ × ℕ) × (ℕ × ℕ)) → Unseen (unlink_entry e)
entry_unseen e = unlink_unseen e.0.0 e.1.0 e.1.1 e.0.1

links_unseen : (o : ℕ) → Unseen (unlink_all o)
links_unseen o p = each_unseen unlink_entry (links_of p.state o) entry_unseen p

value_unseen : (o : ℕ) (place : ℕ × ℕ) (u : Option Value) → Unseen (clear_value o place u)
value_unseen o place None p = refl
value_unseen o place (Some v) p = make_unseen (SetSlot place.0 place.1 v (without_object o v)) p

clear_unseen : (o : ℕ) (place : ℕ × ℕ) → Unseen (clear_slot o place)
clear_unseen o place p = value_unseen o place (value_of p.layout p.state place.0 place.1) p

slots_unseen : (o : ℕ) → Unseen (clear_slots o)
slots_unseen o p = each_unseen (clear_slot o) (slots_referring_to p.layout p.state o) (clear_unseen o) p

bound_unseen : (o : ℕ) (name : List ℕ) (u : Option Variable) → Unseen (clear_bound o name u)
bound_unseen o name None p = refl
bound_unseen o name (Some v) p = make_unseen (Bind name (Some v) (cleared o v)) p

unbind_unseen : (o : ℕ) (name : List ℕ) → Unseen (clear_variable o name)
unbind_unseen o name p = bound_unseen o name (variable p.state name) p

variables_unseen : (o : ℕ) → Unseen (clear_variables o)
variables_unseen o p = each_unseen (clear_variable o) (variables_referring_to p.state o) (unbind_unseen o) p

remove_unseen : (o : ℕ) → Unseen (remove o)
remove_unseen o p = then_unseen (or_refuse (object p.state o) (x_code 5)) (λ x. make (Remove (removal p.state o x))) (or_unseen (object p.state o) (x_code 5))
    (λ x. make_unseen (Remove (removal p.state o x))) p

object_unseen : (o : ℕ) → Unseen (destroy_object o)
object_unseen o = then_unseen (unlink_all o >> clear_slots o >> clear_variables o) (λ u. remove o)
    (then_unseen (unlink_all o >> clear_slots o) (λ u. clear_variables o)
    (then_unseen (unlink_all o) (λ u. clear_slots o) (links_unseen o) (λ u. slots_unseen o)) (λ u. variables_unseen o))
    (λ u. remove_unseen o)

live_unseen : (v : Value) → Unseen (live_object v)
live_unseen v p = or_unseen (option_and_then (λ o. option_and_then (λ x. Some o) (object p.state o)) (as_object v)) (x_code 5) p

destroy_unseen : (v : Value) → Unseen (destroy v)
destroy_unseen v = then_unseen (live_object v) destroy_object (live_unseen v) object_unseen

pub destroyed_unseen : (values : List Value) → Unseen (destroy_all values)
destroyed_unseen values = each_unseen destroy values destroy_unseen
