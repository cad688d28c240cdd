-- The value of an attribute, after another value was set.
use Rattle.std.proofs.Common.{◌≡◌, ◌≢◌, ℕ, zero, suc, List, [], ◌∷◌, slice_set, Option, Some, None, refl, sym, ap, ◌∙◌}
use Rattle.std.specs.List.{slice_get}
use Rattle.std.specs.Option.{option_and_then}
use Rattle.std.specs.Prelude.{nat_eq}
use Rattle.std.proofs.lemmas.Bool.{eqb-true}
use Rattle.std.proofs.lemmas.List.Quantifiers.{position-Some}
use Rattle.ocl_values.specs.declared.value.Value.{Value}
use Rattle.object_state.specs.declared.layout.Layout.{Layout}
use Rattle.object_state.specs.declared.objects.Object.{Object}
use Rattle.object_state.specs.Changes.{with_slot}
use Rattle.object_state.specs.Layouts.{attrs, place, slot}
use Rattle.object_state.proofs.Altered.{one_place, slot_now, slot_other}
use Rattle.object_state.proofs.Back.{class_set_at}

pub slot_set : (l : Layout) (x : Object) (a : ℕ) (old new : Value) → slot l x a ≡ Some old → slot l (with_slot l x a new) a ≡ Some new
slot_set l x a old new h =
    slot_now (place l x.class a) (place l (with_slot l x a new).class a) x old new h (ap (λ (c : ℕ). place l c a) (class_set_at (place l x.class a) x new))

pub slot_kept : (l : Layout) (x : Object) (a b : ℕ) (new : Value) → b ≢ a → slot l (with_slot l x a new) b ≡ slot l x b
slot_kept l x a b new apart =
    ap (λ (c : ℕ). option_and_then (slice_get (with_slot l x a new).slots) (place l c b)) (class_set_at (place l x.class a) x new)
    ∙ slot_other (place l x.class a) (place l x.class b) x new (λ i e e'. apart (sym (one_place l x.class a b i e e')))
