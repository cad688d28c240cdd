-- What a class has, as the table of what it inherits from tells it.
use Rattle.std.proofs.Common.{◌≡◌, ◌<◌, ◌&&◌, ℕ, Bool, List, Some, sym, ap, ◌∙◌, length, subst, arith, filter, true, ◌≤◌}
use Rattle.std.specs.HashMap.{get_by_text}
use Rattle.std.specs.List.{position_from, range_with_len}
use Rattle.std.specs.Option.{option_and_then}
use Rattle.std.proofs.Math.Path.{fun_ext}
use Rattle.std.proofs.lemmas.List.{length-map}
use Rattle.class_decls.specs.Texts.{first_numbered, same_text}
use Rattle.class_model.specs.declared.class_index.ClassIndex.{ClassIndex}
use Rattle.class_model.specs.declared.object_model.ObjectModel.{ObjectModel}
use Rattle.class_model.specs.Features.{chosen_by, declares, end_seen, listed_by, numbers_of}
use Rattle.class_model.specs.Indexes.{IsIndexOf, IsTable, above}
use Rattle.class_model.specs.Inheritance.{IsAcyclic, ancestors, is_a, parents_of}
use Rattle.class_model.proofs.Rows.{classes_are, inherits_low}

-- the same of a test of classes
pub record IsIndexBy (m : ObjectModel) (r : ℕ → ℕ → Bool) (c : ℕ) (index : ClassIndex) : Type 0 where
  pub classes : index.ancestors ≡ filter (r c) (range_with_len 0 (length m.classes))
  pub attrs : index.attrs ≡ numbers_of (λ a. r c a.class) m.attrs
  pub derived_attrs : index.derived ≡ numbers_of (λ a. r c a.class) m.derived
  pub ops : index.ops ≡ listed_by (r c) m.ops
  pub attr : (t : List ℕ) → get_by_text index.attrs_by_name t ≡ position_from (λ a. r c a.class && same_text a.name t) 0 m.attrs
  pub derived : (t : List ℕ) → get_by_text index.derived_by_name t ≡ position_from (λ a. r c a.class && same_text a.name t) 0 m.derived
  pub role : (t : List ℕ) → get_by_text index.roles_by_name t ≡ first_numbered
      (λ number a. option_and_then (λ e. Some (number, e)) (end_seen (r c) t a)) 0 m.assocs
  pub operation : (t : List ℕ) → get_by_text index.ops_by_name t ≡ chosen_by r m.ops (numbers_of (declares (r c) t) m.ops)

module _ (m : ObjectModel) (table : List (List Bool)) (is : IsTable (parents_of m) table) where
  table_is : above table ≡ is_a m
  table_is = fun_ext (λ c. fun_ext (is c))

  -- the table, too, tells no greater numbers
  pub table_low : IsAcyclic m → (c d : ℕ) → above table c d ≡ true → d ≤ c
  table_low down c d e = inherits_low (parents_of m) down c d (sym (is c d) ∙ e)

  pub index_is : IsAcyclic m → (c : ℕ) (index : ClassIndex) → c < length m.classes → IsIndexBy m (above table) c index → IsIndexOf m c index
  index_is down c index h by =
      let by' : IsIndexBy m (is_a m) c index = subst (λ r. IsIndexBy m r c index) table_is by in
      record {
        ancestors = by'.classes ∙ classes_are (parents_of m) down c (length m.classes) h;
        attrs = by'.attrs;
        derived_attrs = by'.derived_attrs;
        ops = by'.ops;
        attr = by'.attr;
        derived = by'.derived;
        role = by'.role;
        operation = by'.operation;
      }
