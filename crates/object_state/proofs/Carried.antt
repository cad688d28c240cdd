-- A change that is carried out on what a store holds.
use Rattle.std.proofs.Common.{◌≡◌, ℕ, List, Option, Some, None, subst, sym}
use Rattle.std.specs.BTreeMap.{insert_entry, is_at}
use Rattle.std.specs.Map.{remove_entry, set_value}
use Rattle.std.specs.Option.{option_map_or}
use Rattle.std.specs.Ordering.{nat_cmp}
use Rattle.ocl_values.specs.declared.value.Value.{Value}
use Rattle.object_state.specs.declared.change.Change.{Change}
use Rattle.object_state.specs.declared.change.Change.TheVariants.{Create, Remove, SetSlot, Link, Unlink, Bind, Unbind}
use Rattle.object_state.specs.declared.change.LinkChange.{LinkChange}
use Rattle.object_state.specs.declared.change.ObjectChange.{ObjectChange}
use Rattle.object_state.specs.declared.objects.Object.{Object}
use Rattle.object_state.specs.declared.objects.Variable.{Variable}
use Rattle.object_state.specs.declared.layout.Layout.{Layout}
use Rattle.object_state.specs.Changes.{object_of, with_object, with_slot}
use Rattle.object_state.specs.Faults.{Fits}
use Rattle.object_state.specs.State.{Diagram, State, link_cmp, object, text_cmp}
use Rattle.object_state.specs.Valid.{IsValid}
use Rattle.object_state.proofs.Kept.{stays_valid}

abbrev pub diagram : Layout → State → Diagram
diagram l s = record { layout = l; state = s }

pub fits_inside : (d : Diagram) (l : Layout) (s : State) (c c' : Change) → diagram l s ≡ d → Fits d.layout d.state c → c ≡ c' → Fits l s c'
fits_inside d l s c c' e f g =
    let f' = subst (λ (x : Diagram). Fits x.layout x.state c) (sym e) f in
    subst (λ (x : Change). Fits l s x) g f'

-- what each kind of change leaves in the lists of a store
module _ (l : Layout) (s : State) (v : IsValid l s) where
  pub created : (d : ObjectChange) (objects : List (ℕ × Object)) → Fits l s (Create d) → objects ≡ insert_entry nat_cmp s.objects d.object (object_of d)
      → IsValid l (record { objects = objects; links = s.links; variables = s.variables; next_object = d.after; next_stamp = s.next_stamp })
  created d objects f e = subst (λ (es : List (ℕ × Object)). IsValid l (record {
    objects = es;
    links = s.links;
    variables = s.variables;
    next_object = d.after;
    next_stamp = s.next_stamp;
  })) (sym e) (stays_valid l s (Create d) v f)

  pub removed : (d : ObjectChange) (objects : List (ℕ × Object)) → Fits l s (Remove d) → objects ≡ remove_entry (is_at (nat_cmp d.object)) s.objects
      → IsValid l (record { objects = objects; links = s.links; variables = s.variables; next_object = d.after; next_stamp = s.next_stamp })
  removed d objects f e = subst (λ (es : List (ℕ × Object)). IsValid l (record {
    objects = es;
    links = s.links;
    variables = s.variables;
    next_object = d.after;
    next_stamp = s.next_stamp;
  })) (sym e) (stays_valid l s (Remove d) v f)

  pub linked : (d : LinkChange) (links : List ((ℕ × ℕ) × (ℕ × ℕ))) → Fits l s (Link d) → links ≡ insert_entry link_cmp s.links (d.assoc, d.stamp)
      (d.first, d.second)
      → IsValid l (record { objects = s.objects; links = links; variables = s.variables; next_object = s.next_object; next_stamp = d.after })
  linked d links f e = subst (λ (es : List ((ℕ × ℕ) × (ℕ × ℕ))). IsValid l (record {
    objects = s.objects;
    links = es;
    variables = s.variables;
    next_object =
        s.next_object;
    next_stamp = d.after;
  })) (sym e) (stays_valid l s (Link d) v f)

  pub unlinked : (d : LinkChange) (links : List ((ℕ × ℕ) × (ℕ × ℕ))) → Fits l s (Unlink d) → links ≡ remove_entry (is_at (link_cmp (d.assoc, d.stamp))) s.links
      → IsValid l (record { objects = s.objects; links = links; variables = s.variables; next_object = s.next_object; next_stamp = d.after })
  unlinked d links f e = subst (λ (es : List ((ℕ × ℕ) × (ℕ × ℕ))). IsValid l (record {
    objects = s.objects;
    links = es;
    variables = s.variables;
    next_object =
        s.next_object;
    next_stamp = d.after;
  })) (sym e) (stays_valid l s (Unlink d) v f)

  pub bound : (name : List ℕ) (old : Option Variable) (new : Variable) (variables : List (List ℕ × Variable)) → Fits l s (Bind name old new)
      → variables ≡ insert_entry text_cmp s.variables name new
      → IsValid l (record { objects = s.objects; links = s.links; variables = variables; next_object = s.next_object; next_stamp = s.next_stamp })
  bound name old new variables f e = subst (λ (es : List (List ℕ × Variable)). IsValid l (record {
    objects = s.objects;
    links = s.links;
    variables = es;
    next_object = s.next_object;
    next_stamp = s.next_stamp;
  })) (sym e) (stays_valid l s (Bind name old new) v f)

  pub unbound : (name : List ℕ) (old : Variable) (variables : List (List ℕ × Variable)) → Fits l s (Unbind name old)
      → variables ≡ remove_entry (is_at (text_cmp name)) s.variables
      → IsValid l (record { objects = s.objects; links = s.links; variables = variables; next_object = s.next_object; next_stamp = s.next_stamp })
  unbound name old variables f e = subst (λ (es : List (List ℕ × Variable)). IsValid l (record {
    objects = s.objects;
    links = s.links;
    variables = es;
    next_object = s.next_object;
    next_stamp = s.next_stamp;
  })) (sym e) (stays_valid l s (Unbind name old) v f)

  pub set : (o a : ℕ) (old new : Value) (objects : List (ℕ × Object)) → Fits l s (SetSlot o a old new)
      → objects ≡ option_map_or (λ x. set_value (is_at (nat_cmp o)) s.objects (with_slot l x a new)) (object s o) s.objects
      → IsValid l (record { objects = objects; links = s.links; variables = s.variables; next_object = s.next_object; next_stamp = s.next_stamp })
  set o a old new objects f e =
      subst (λ (es : List (ℕ × Object)). IsValid l (record {
        objects = es;
        links = s.links;
        variables = s.variables;
        next_object = s.next_object;
        next_stamp =
            s.next_stamp;
      })) (sym e)
      (by (object s o) (stays_valid l s (SetSlot o a old new) v f))
    where
      by : (u : Option Object) → IsValid l (option_map_or (λ x. with_object s o (with_slot l x a new)) u s)
          → IsValid l (record {
            objects = option_map_or (λ x. set_value (is_at (nat_cmp o)) s.objects
                (with_slot l x a new)) u s.objects;
            links = s.links;
            variables = s.variables;
            next_object = s.next_object;
            next_stamp = s.next_stamp;
          })
      by None h = h
      by (Some x) h = h
