use Rattle.std.proofs.Common.{◌≡◌, ◌∙◌, ap, refl, subst, true, false, ℕ, List}
use Rattle.std.specs.HashMap.{get_by_text}
use Rattle.std.specs.List.{list_any}
use Rattle.std.specs.Map.{keys_of, update}
use Rattle.std.specs.Prelude.{None, nat_eq}
use Rattle.std.specs.Str.{bytes_eq}
use Rattle.object_store.specs.Indexes.{Objects, has_pair, is_one, object_in}
use Rattle.object_store.proofs.Tables.{object_less, tied_with}
use Rattle.object_store.proofs.object_table.ObjectTable.remove.Goals as goal

pub invariant_of-self : goal.invariant_of-self
invariant_of-self c =
    tied_with c.self.inside.layout _ c.remove.new.self _ (get_by_text c.take_name.new.numbers) (keys_of c.take_extents.new.extents) (keys_of c.take_extents.new.extents)
    c.remove.ensures.map
    (λ n. refl) refl
    (object_less c.self.inside.layout c.self.inside.objects (get_by_text c.self.inside.names) (keys_of c.self.inside.extents) c.self.invariant
    (keys_of c.take_extents.new.extents) c.take_extents.ensures.ordered c.args.old.now
    (subst (λ (ks : List ℕ). (k o : ℕ) → is_one ks c.args.old.now.object k o ≡ false
    → has_pair (keys_of c.take_extents.new.extents) k o ≡ has_pair (keys_of c.self.inside.extents) k o) c.ancestors.ensures c.take_extents.ensures.others)
    (get_by_text c.take_name.new.numbers)
    (λ n. c.take_name.ensures n ∙ ap (λ (m : List ℕ). update bytes_eq (get_by_text c.self.inside.names) m None n) c.as_str.ensures)
    (subst (λ (ks : List ℕ). (k : ℕ) → list_any (nat_eq k) ks ≡ true → has_pair (keys_of c.take_extents.new.extents) k c.args.old.now.object ≡ false)
    c.ancestors.ensures c.take_extents.ensures.gone)
    (ap (λ (t : Objects). object_in t.objects c.args.old.now.object) c.self.view_is ∙ c.requires))
