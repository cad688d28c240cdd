-- What is seen of a valid state is well made.
use Rattle.std.proofs.Common.{◌≡◌, ℕ, zero, suc, ◌≤◌, Bool, true, false, cond, List, [], ◌∷◌, map, Option, Some, None, refl, sym, ap, ◌∙◌, subst, arith}
use Rattle.std.specs.List.{All, slice_get}
use Rattle.std.specs.Option.{option_and_then}
use Rattle.std.proofs.lemmas.List.Elements.{All-cons, All-head, All-nil, All-tail}
use Rattle.ocl_values.specs.declared.value.Value.{Value}
use Rattle.ocl_values.specs.declared.value.Value.TheVariants.{Obj}
use Rattle.ocl_values.specs.Shape.{IsWellMade}
use Rattle.class_model.specs.Ends.{opposite}
use Rattle.object_state.specs.declared.cell.Cell.{Cell}
use Rattle.object_state.specs.declared.cell.Cell.TheVariants.{Kind, Slot, Nav, Extent}
use Rattle.object_state.specs.declared.layout.Layout.{Layout}
use Rattle.object_state.specs.declared.objects.Object.{Object}
use Rattle.object_state.specs.Layouts.{place, slot}
use Rattle.object_state.specs.Looks.{IsWellMadeLook, class_look, extent, items_look, joined, look, stands, value_look}
use Rattle.object_state.specs.State.{State, object}
use Rattle.object_state.specs.Valid.{IsValid}

object_well : (o : ℕ) → IsWellMade (Obj o)
object_well o = record { tidy = tt; levels = omega arith }

objects_well : (os : List ℕ) → All IsWellMade (map Obj os)
objects_well [] = All-nil IsWellMade
objects_well (o ∷ os) = All-cons IsWellMade (Obj o) (map Obj os) (object_well o) (objects_well os)

class_well : (u : Option ℕ) → IsWellMadeLook (class_look u)
class_well None = tt
class_well (Some c) = tt

one_well : (vs : List Value) (i : ℕ) → All IsWellMade vs → IsWellMadeLook (value_look (slice_get vs i))
one_well [] i a = tt
one_well (v ∷ vs) zero a = All-head IsWellMade v vs a
one_well (v ∷ vs) (suc i) a = one_well vs i (All-tail IsWellMade v vs a)

slot_well : (p : Option ℕ) (x : Object) → All IsWellMade x.slots → IsWellMadeLook (value_look (option_and_then (slice_get x.slots) p))
slot_well None x a = tt
slot_well (Some i) x a = one_well x.slots i a

items_well : (b : Bool) (os : List ℕ) → IsWellMadeLook (items_look (cond b (Some (map Obj os)) None))
items_well true os = objects_well os
items_well false os = tt

pub well : (l : Layout) (s : State) (x : Cell) → IsValid l s → IsWellMadeLook (look l s x)
well l s (Kind o) v = class_well _
well l s (Slot o a) v = by (object s o) refl
  where
    by : (u : Option Object) → object s o ≡ u → IsWellMadeLook (value_look (option_and_then (λ (x : Object). slot l x a) u))
    by None e = tt
    by (Some x) e = slot_well (place l x.class a) x (v.objects.instances o x e).values
well l s (Nav a e o) v = items_well (stands l s a (opposite e) o) (joined s a e o)
well l s (Extent c) v = objects_well (extent l s c)
