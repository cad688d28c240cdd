-- Changes as a state stands agree with it.
use Rattle.std.proofs.Common.{◌≡◌, ◌≢◌, ℕ, ◌+◌, ◌<◌, ◌≤◌, min, Bool, true, false, List, [], ◌∷◌, length, map, Option, Some, None, refl, sym, ap, ◌∙◌, subst, arith}
use Rattle.std.specs.List.{All}
use Rattle.std.specs.Option.{option_map_or}
use Rattle.std.proofs.lemmas.List.{length-map}
use Rattle.std.proofs.lemmas.List.Elements.{All-cons, All-nil}
use Rattle.ocl_values.specs.declared.value.Value.{Value}
use Rattle.ocl_values.specs.declared.value.Value.TheVariants.{Null}
use Rattle.ocl_values.specs.Shape.{IsWellMade}
use Rattle.class_model.specs.declared.numbers.End.{End}
use Rattle.class_model.specs.declared.numbers.End.TheVariants.{First, Second}
use Rattle.object_state.specs.declared.layout.Layout.{Layout}
use Rattle.object_state.specs.declared.objects.Object.{Object}
use Rattle.object_state.specs.Faults.{CreationAgrees, EndsAgree, LinkingAgrees}
use Rattle.object_state.specs.Layouts.{attrs, may_stand}
use Rattle.object_state.specs.Proposals.{creation, linking, may_be_at, may_be_linked, next}
use Rattle.object_state.specs.State.{State, object}
use Rattle.object_state.specs.Valid.{IsValid, last_number}
use Rattle.object_state.proofs.Back.{absent}
use Rattle.object_state.proofs.Keyed.{both}

nulls_well : (xs : List ℕ) → All IsWellMade (map (λ a. Null) xs)
nulls_well [] = All-nil IsWellMade
nulls_well (a ∷ rest) = All-cons IsWellMade Null (map (λ a. Null) rest) (record { tidy = tt; levels = omega arith }) (nulls_well rest)

within : (n : ℕ) → next n ≤ last_number
within n = omega arith

rises : (n : ℕ) → n ≤ last_number → n ≢ last_number → n < next n
rises n h ne = omega arith

stays : (o n : ℕ) → o < n → n ≤ last_number → o < next n
stays o n h k = omega arith

not_below : (n : ℕ) → n < n → ⊥
not_below n h = omega arith

pub creation_agrees : (l : Layout) (s : State) (name : List ℕ) (class : ℕ) → IsValid l s → class < length l.classes
    → CreationAgrees l s (creation l s name class)
creation_agrees l s name class v h = record {
  known = h;
  whole = length-map (attrs l class) (λ a. Null);
  values = nulls_well (attrs l class);
  before = refl;
  after = within s.next_object;
  free = λ ne. absent (object s s.next_object) (λ x e. not_below s.next_object (v.objects.below s.next_object x e));
  number = λ ne. rises s.next_object v.objects.counter ne;
  others = λ ne o x e. stays o s.next_object (v.objects.below o x e) v.objects.counter;
}

pub linking_agrees : (l : Layout) (s : State) (a f g : ℕ) → IsValid l s → a < length l.assocs
    → may_be_linked l s a f g ≡ true → LinkingAgrees l s (linking s a f g)
linking_agrees l s a f g v h t = let r = both (may_be_at l s a First f) (may_be_at l s a Second g) t in record {
  ends = record {
    known = h;
    first = λ x e. sym (ap (λ (u : Option Object). option_map_or (λ (x : Object). may_stand l a First x.class) u true) e) ∙ r.0;
    second = λ x e. sym (ap (λ (u : Option Object). option_map_or (λ (x : Object). may_stand l a Second x.class) u true) e) ∙ r.1;
    before = refl;
    after = within s.next_stamp;
  };
  free = λ ne k pair e same. not_below s.next_stamp (subst (λ (n : ℕ). n < s.next_stamp) same (v.links.below k pair e));
  stamp = λ ne. rises s.next_stamp v.links.counter ne;
  others = λ ne k pair e. stays k.1 s.next_stamp (v.links.below k pair e) v.links.counter;
}
