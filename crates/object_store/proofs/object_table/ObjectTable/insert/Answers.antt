use Rattle.std.specs.Map.{keys_of}
use Rattle.std.proofs.Common.{◌∙◌, ap, refl}
use Rattle.std.specs.BTreeMap.{insert_entry}
use Rattle.std.specs.Cmp.{nat_cmp_total}
use Rattle.std.specs.HashMap.{get_by_text}
use Rattle.std.specs.Ordering.{nat_cmp}
use Rattle.object_state.specs.declared.objects.Object.{Object}
use Rattle.object_store.specs.Indexes.{Objects, named_in, object_in}
use Rattle.object_store.proofs.Changed.{restored}
use Rattle.object_store.proofs.Tables.{fresh_name, object_more, object_same, tied_with}
use Rattle.object_store.proofs.object_table.ObjectTable.insert.Goals as goal

pub put_indexes-requires-clause-fresh : goal.put_indexes-requires-clause-fresh
put_indexes-requires-clause-fresh c =
    fresh_name c.self.inside.layout c.self.inside.objects (get_by_text c.self.inside.names) (keys_of c.self.inside.extents) c.self.invariant c.args.new.now.name
    (ap (λ (t : Objects). named_in t.objects c.args.new.now.name) c.self.view_is ∙ c.requires.fresh)

pub invariant_of-self-in-Ok : goal.invariant_of-self-in-Ok
invariant_of-self-in-Ok c =
    tied_with c.self.inside.layout _ c.insert.new.self _ (get_by_text c.put_indexes.new.names) (keys_of c.put_indexes.new.extents) (keys_of c.put_indexes.new.extents)
    (c.in_ok-insert.ensures.ok ∙ ap (λ (x : Object). insert_entry nat_cmp c.self.inside.objects c.args.new.now.object x) c.in_ok-object.ensures)
    (λ n. refl) refl
    (object_more c.self.inside.layout c.self.inside.objects (get_by_text c.self.inside.names) (keys_of c.self.inside.extents) c.self.invariant
    (keys_of c.put_indexes.new.extents) c.in-Ok.ensures.ordered c.args.new.now c.in-Ok.ensures.others (get_by_text c.put_indexes.new.names) c.in-Ok.ensures.named
    c.in-Ok.ensures.there
    (ap (λ (t : Objects). object_in t.objects c.args.new.now.object) c.self.view_is ∙ c.requires.free)
    (ap (λ (t : Objects). named_in t.objects c.args.new.now.name) c.self.view_is ∙ c.requires.fresh)
    c.in-Ok.ensures.small)

pub invariant_of-self-in-Err : goal.invariant_of-self-in-Err
invariant_of-self-in-Err c =
    tied_with c.self.inside.layout c.self.inside.objects c.remove.new.self (get_by_text c.self.inside.names) (get_by_text c.put_indexes.new.names)
    (keys_of c.put_indexes.new.extents) (keys_of c.put_indexes.new.extents)
    (restored nat_cmp_total c.self.inside.objects c.insert.new.self c.remove.new.self c.args.new.now.object c.args.new.now.object
    c.args.new.now.object c.in_ok-object.object refl refl
    (ap (λ (t : Objects). object_in t.objects c.args.new.now.object) c.self.view_is ∙ c.requires.free) c.in_ok-insert.ensures.ok c.remove.ensures.map)
    c.in-Err.ensures.no_name refl
    (object_same c.self.inside.layout c.self.inside.objects (get_by_text c.self.inside.names) (keys_of c.self.inside.extents) c.self.invariant
    (keys_of c.put_indexes.new.extents) c.in-Err.ensures.ordered c.args.new.now c.in-Err.ensures.others c.in-Err.ensures.gone
    (ap (λ (t : Objects). object_in t.objects c.args.new.now.object) c.self.view_is ∙ c.requires.free))

pub returns-in-Err-clause-err : goal.returns-in-Err-clause-err
returns-in-Err-clause-err c =
    (λ i. record {
      layout = c.self.inside.layout;
      objects = restored nat_cmp_total c.self.inside.objects c.insert.new.self c.remove.new.self c.args.new.now.object
          c.args.new.now.object c.args.new.now.object c.in_ok-object.object refl refl
          (ap (λ (t : Objects). object_in t.objects c.args.new.now.object) c.self.view_is ∙ c.requires.free) c.in_ok-insert.ensures.ok c.remove.ensures.map i;
    }) ∙ c.self.view_is
