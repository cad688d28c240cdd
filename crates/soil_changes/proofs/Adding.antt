-- Each act leaves the layout and the first state of a transaction, and adds changes that lead on to the state and are noted.
use Rattle.std.proofs.Common.{◌≡◌, ℕ, Bool, true, false, List, [], ◌∷◌, ◌++◌, Option, Some, None, Ok, Err, refl, sym, ap, subst, ◌∙◌, append_assoc, append-nil, is_eq, length}
use Rattle.std.specs.Prelude.{if◌then◌else◌, nat_lt, not}
use Rattle.std.specs.Option.{option_and_then}
use Rattle.use_text.specs.declared.code.Code.{Code}
use Rattle.class_model.specs.declared.numbers.End.{End}
use Rattle.class_model.specs.declared.numbers.End.TheVariants.{First, Second}
use Rattle.class_model.specs.declared.types.OclType.{OclType}
use Rattle.ocl_values.specs.declared.value.Value.{Value}
use Rattle.ocl_values.specs.declared.value.Value.TheVariants.{Str}
use Rattle.ocl_values.specs.Order.{value_cmp}
use Rattle.object_names.specs.Names.{is_name, made_name}
use Rattle.object_references.specs.References.{without_object}
use Rattle.object_referrers.specs.Referring.{links_of, slots_referring_to, variables_referring_to}
use Rattle.object_state.specs.declared.cell.Cell.{Cell}
use Rattle.object_state.specs.declared.cell.Look.{Look}
use Rattle.object_state.specs.declared.change.Change.{Change}
use Rattle.object_state.specs.declared.change.Change.TheVariants.{Bind, Create, Link, Remove, SetSlot, Unlink}
use Rattle.object_state.specs.declared.layout.Layout.{Layout}
use Rattle.object_state.specs.declared.objects.Variable.{Variable}
use Rattle.object_state.specs.declared.store_fault.StoreFault.{StoreFault}
use Rattle.object_state.specs.Faults.{fault}
use Rattle.object_state.specs.Looks.{look, value_of}
use Rattle.object_state.specs.Proposals.{creation, linking}
use Rattle.object_state.specs.State.{State, object, stamp_of, variable}
use Rattle.object_state.specs.Valid.{IsValid}
use Rattle.object_state.specs.Weights.{change_weight}
use Rattle.entry_states.specs.declared.frame.Frame.{Frame}
use Rattle.entry_states.specs.Frames.{altered_by, noted}
use Rattle.entry_states.specs.Leading.{CanBeCarriedOut, led_on}
use Rattle.entry_states.specs.Noting.{AreNoted}
use Rattle.entry_states.proofs.Led.{on_apart, on_more, on_valid}
use Rattle.entry_states.proofs.Noted.{both_noted, change_noted, none_noted}
use Rattle.soil_changes.specs.Acts.{Outcome, ◌>>=◌, ◌>>◌, each, nothing, or_refuse, refuse_if, then_act}
use Rattle.soil_changes.specs.Creating.{create, create_all, create_given, create_named, create_new, create_unnamed, refuse_unless_name}
use Rattle.soil_changes.specs.Destroying.{clear_bound, clear_slot, clear_slots, clear_value, clear_variable, clear_variables, cleared, destroy, destroy_all, destroy_object, live_object, removal, remove, unlink_all, unlink_entry}
use Rattle.soil_changes.specs.Joining.{at_end, delete, end_of, insert, link, unlink, unlink_pair, unlinking}
use Rattle.soil_changes.specs.Progress.{Changing, Progress, carry_out, make, make_fit, refuse_for, x_code}
use Rattle.soil_changes.specs.Storing.{as_object, bind, holder, holder_of, may_be_stored, names_itself, put_slot, refuse_unless_stored, replace_slot, set_slot, set_variable}
use Rattle.soil_changes.specs.Adding.{Adds, OnlyAdds}

-- changes from one state to another, with the frames before and after
abbrev Noted : Layout → State → State → List Change → List Frame → List Frame → Type 0
Noted l s t cs fs gs = IsValid l s → CanBeCarriedOut l s cs → AreNoted l s t fs gs

noted_both : (l : Layout) (s t u : State) (cs ds : List Change) (fs gs hs : List Frame) → t ≡ led_on l s cs → Noted l s t cs fs gs → Noted l t u ds gs hs
    → Noted l s u (cs ++ ds) fs hs
noted_both l s t u cs ds fs gs hs e a b v h =
    let apart = on_apart l cs ds s h in
    let valid = subst (λ (x : State). IsValid l x) (sym e) (on_valid l cs s v apart.0) in
    let fits = subst (λ (x : State). CanBeCarriedOut l x ds) (sym e) apart.1 in
    both_noted l s t u fs gs hs (a v apart.0) (b valid fits)

noted_length : (fs : List Frame) (cs : List Cell) (q : Cell → Look) → length (noted fs cs q) ≡ length fs
noted_length [] cs q = refl
noted_length (f ∷ fs) cs q = refl

pub adds_none : (p : Progress) → Adds p p
adds_none p = record {
  layout = refl;
  start = refl;
  more = [];
  changes = sym (append-nil p.changes);
  state = refl;
  depth = refl;
  noted = λ v h. none_noted p.layout p.state p.frames;
}

pub adds_both : (p q r : Progress) → Adds p q → Adds q r → Adds p r
adds_both p q r a b = record {
  layout = b.layout ∙ a.layout;
  start = b.start ∙ a.start;
  more = a.more ++ b.more;
  changes = b.changes ∙ ap (λ cs. cs ++ b.more) a.changes ∙ append_assoc p.changes a.more b.more;
  state = b.state ∙ ap (λ l. led_on l q.state b.more) a.layout ∙ ap (λ s. led_on p.layout s b.more) a.state ∙ sym (on_more p.layout a.more b.more p.state);
  depth = b.depth ∙ a.depth;
  noted = noted_both p.layout p.state q.state r.state a.more b.more p.frames q.frames r.frames a.state a.noted
      (subst (λ l. Noted l q.state r.state b.more q.frames r.frames) a.layout b.noted);
}

pub then_adds : {A B : Type 0} (act : Changing A) (next : A → Changing B) → OnlyAdds act → ((a : A) → OnlyAdds (next a)) → OnlyAdds (act >>= next)
then_adds {A = A} act next f g p = by (act p) (f p)
  where
    by : (o : Outcome Progress Code A) → Adds p o.1 → Adds p (then_act o next).1
    by (Ok a, q) h = adds_both p q (next a q).1 h (g a q)
    by (Err e, q) h = h

if_adds : (b : Bool) (e : Code) → OnlyAdds (refuse_if b e)
if_adds true e p = adds_none p
if_adds false e p = adds_none p

or_adds : {A : Type 0} (u : Option A) (e : Code) → OnlyAdds (or_refuse u e)
or_adds (Some a) e p = adds_none p
or_adds None e p = adds_none p

each_adds : {A : Type 0} (f : A → Changing (Unit {0})) (xs : List A) → ((x : A) → OnlyAdds (f x)) → OnlyAdds (each f xs)
each_adds f [] h p = adds_none p
each_adds f (x ∷ xs) h p = then_adds (f x) (λ u. each f xs) (h x) (λ u. each_adds f xs h) p

-- a change
fault_adds : (u : Option StoreFault) → OnlyAdds (refuse_for u)
fault_adds None p = adds_none p
fault_adds (Some f) p = adds_none p

carry_adds : (c : Change) → OnlyAdds (carry_out c)
carry_adds c p = record {
  layout = refl;
  start = refl;
  more = c ∷ [];
  changes = refl;
  state = refl;
  depth = noted_length p.frames (altered_by p.layout c) (look p.layout p.state);
  noted = λ v h. change_noted p.layout p.state c p.frames v h.0;
}

fit_adds : (c : Change) → OnlyAdds (make_fit c)
fit_adds c p = then_adds (refuse_if (nat_lt p.left (change_weight c)) (x_code 13)) (λ u. carry_out c) (if_adds (nat_lt p.left (change_weight c)) (x_code 13)) (λ u.
    carry_adds c) p

make_adds : (c : Change) → OnlyAdds (make c)
make_adds c p = then_adds (refuse_for (fault p.layout p.state c)) (λ u. make_fit c) (fault_adds (fault p.layout p.state c)) (λ u. fit_adds c) p

choice_adds : (b : Bool) (c : Change) → (p : Progress) → Adds p ((if b then nothing else make c) p).1
choice_adds true c p = adds_none p
choice_adds false c p = make_adds c p

-- values that are stored
pub stored_adds : (v : Value) → OnlyAdds (refuse_unless_stored v)
stored_adds v p = if_adds (not (may_be_stored p.state v)) (x_code 12) p

pub holder_adds : (v : Value) (a : ℕ) → OnlyAdds (holder_of v a)
holder_adds v a p = or_adds (holder p.layout p.state v a) (x_code 5) p

replace_adds : (o a : ℕ) (new old : Value) → OnlyAdds (replace_slot o a new old)
replace_adds o a new old p = choice_adds (is_eq (value_cmp old new)) (SetSlot o a old new) p

put_adds : (o a : ℕ) (v : Value) → OnlyAdds (put_slot o a v)
put_adds o a v p = then_adds (or_refuse (value_of p.layout p.state o a) (x_code 5)) (replace_slot o a v) (or_adds (value_of p.layout p.state o a) (x_code
    5)) (replace_adds o a v) p

pub slot_adds : (target : Value) (a : ℕ) (v : Value) → OnlyAdds (set_slot target a v)
slot_adds target a v = then_adds (holder_of target a) (λ o. refuse_unless_stored v >> put_slot o a v) (holder_adds target a)
    (λ o. then_adds (refuse_unless_stored v) (λ u. put_slot o a v) (stored_adds v) (λ u. put_adds o a v))

pub variable_adds : (name : List ℕ) (t : OclType) (v : Value) → OnlyAdds (set_variable name t v)
variable_adds name t v = then_adds (refuse_unless_stored v) (λ u p. (if names_itself p.state name v then nothing else bind name t v) p) (stored_adds v)
    (λ u p. by (names_itself p.state name v) p)
  where
    by : (b : Bool) (p : Progress) → Adds p ((if b then nothing else bind name t v) p).1
    by true p = adds_none p
    by false p = make_adds (Bind name (variable p.state name) (record { of_type = t; value = v })) p

-- objects that come
name_adds : (name : List ℕ) → OnlyAdds (refuse_unless_name name)
name_adds name p = if_adds (not (is_name name)) (x_code 14) p

create_adds : (class : ℕ) (name : List ℕ) → OnlyAdds (create class name)
create_adds class name p = make_adds (Create (creation p.layout p.state name class)) p

pub all_add : (class : ℕ) (names : List (List ℕ)) → OnlyAdds (create_all class names)
all_add class names = then_adds (each refuse_unless_name names) (λ u. each (create class) names) (each_adds refuse_unless_name names name_adds)
    (λ u. each_adds (create class) names (create_adds class))

named_adds : (class : ℕ) (name : List ℕ) → OnlyAdds (create_named class name)
named_adds class name = then_adds (refuse_unless_name name) (λ u. create class name) (name_adds name) (λ u. create_adds class name)

unnamed_adds : (class : ℕ) (word : List ℕ) → OnlyAdds (create_unnamed class word)
unnamed_adds class word p = named_adds class (made_name p.state word) p

given_adds : (class : ℕ) (v : Value) → OnlyAdds (create_given class v)
given_adds class (Str bytes) p = named_adds class bytes p
given_adds class v p = adds_none p

pub new_adds : (class : ℕ) (word : List ℕ) (given : Option Value) → OnlyAdds (create_new class word given)
new_adds class word None p = unnamed_adds class word p
new_adds class word (Some v) p = given_adds class v p

-- links
end_adds : (a : ℕ) (e : End) (v : Value) → OnlyAdds (end_of a e v)
end_adds a e v p = or_adds (at_end p.layout p.state a e v) (x_code 5) p

link_adds : (a f g : ℕ) → OnlyAdds (link a f g)
link_adds a f g p = make_adds (Link (linking p.state a f g)) p

pub insert_adds : (a : ℕ) (v w : Value) → OnlyAdds (insert a v w)
insert_adds a v w = then_adds (end_of a First v) (λ o. end_of a Second w >>= link a o) (end_adds a First v)
    (λ o. then_adds (end_of a Second w) (link a o) (end_adds a Second w) (link_adds a o))

unlink_adds : (a f g stamp : ℕ) → OnlyAdds (unlink a f g stamp)
unlink_adds a f g stamp p = make_adds (Unlink (unlinking p.state a f g stamp)) p

pair_adds : (a f g : ℕ) → OnlyAdds (unlink_pair a f g)
pair_adds a f g p = then_adds (or_refuse (stamp_of p.state a f g) (x_code 4)) (unlink a f g) (or_adds (stamp_of p.state a f g) (x_code 4)) (unlink_adds a f g) p

pub delete_adds : (a : ℕ) (v w : Value) → OnlyAdds (delete a v w)
delete_adds a v w = then_adds (end_of a First v) (λ o. end_of a Second w >>= unlink_pair a o) (end_adds a First v)
    (λ o. then_adds (end_of a Second w) (unlink_pair a o) (end_adds a Second w) (pair_adds a o))

-- objects that go
entry_adds : (e : (ℕ × ℕ) × (ℕ × ℕ)) → OnlyAdds (unlink_entry e)
entry_adds e = unlink_adds e.0.0 e.1.0 e.1.1 e.0.1

links_add : (o : ℕ) → OnlyAdds (unlink_all o)
links_add o p = each_adds unlink_entry (links_of p.state o) entry_adds p

value_adds : (o : ℕ) (place : ℕ × ℕ) (u : Option Value) → OnlyAdds (clear_value o place u)
value_adds o place None p = adds_none p
value_adds o place (Some v) p = make_adds (SetSlot place.0 place.1 v (without_object o v)) p

clear_adds : (o : ℕ) (place : ℕ × ℕ) → OnlyAdds (clear_slot o place)
clear_adds o place p = value_adds o place (value_of p.layout p.state place.0 place.1) p

slots_add : (o : ℕ) → OnlyAdds (clear_slots o)
slots_add o p = each_adds (clear_slot o) (slots_referring_to p.layout p.state o) (clear_adds o) p

bound_adds : (o : ℕ) (name : List ℕ) (u : Option Variable) → OnlyAdds (clear_bound o name u)
bound_adds o name None p = adds_none p
bound_adds o name (Some v) p = make_adds (Bind name (Some v) (cleared o v)) p

unbind_adds : (o : ℕ) (name : List ℕ) → OnlyAdds (clear_variable o name)
unbind_adds o name p = bound_adds o name (variable p.state name) p

variables_add : (o : ℕ) → OnlyAdds (clear_variables o)
variables_add o p = each_adds (clear_variable o) (variables_referring_to p.state o) (unbind_adds o) p

remove_adds : (o : ℕ) → OnlyAdds (remove o)
remove_adds o p = then_adds (or_refuse (object p.state o) (x_code 5)) (λ x. make (Remove (removal p.state o x))) (or_adds (object p.state o) (x_code 5))
    (λ x. make_adds (Remove (removal p.state o x))) p

object_adds : (o : ℕ) → OnlyAdds (destroy_object o)
object_adds o = then_adds (unlink_all o >> clear_slots o >> clear_variables o) (λ u. remove o)
    (then_adds (unlink_all o >> clear_slots o) (λ u. clear_variables o) (then_adds (unlink_all o) (λ u. clear_slots o) (links_add o) (λ u. slots_add o)) (λ u. variables_add
    o))
    (λ u. remove_adds o)

live_adds : (v : Value) → OnlyAdds (live_object v)
live_adds v p = or_adds (option_and_then (λ o. option_and_then (λ x. Some o) (object p.state o)) (as_object v)) (x_code 5) p

destroy_adds : (v : Value) → OnlyAdds (destroy v)
destroy_adds v = then_adds (live_object v) destroy_object (live_adds v) object_adds

pub destroyed_add : (values : List Value) → OnlyAdds (destroy_all values)
destroyed_add values = each_adds destroy values destroy_adds
