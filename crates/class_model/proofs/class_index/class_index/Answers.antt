use Rattle.class_model.proofs.Indexing.{index_is, table_low}
use Rattle.class_model.proofs.class_index.class_index.Goals as goal

pub chosen_operations-requires-clause-downward : goal.chosen_operations-requires-clause-downward
chosen_operations-requires-clause-downward c = table_low c.args.model.now c.args.rows.now c.requires.table c.requires.in_range.acyclic

pub returns : goal.returns
returns c =
    index_is c.args.model.now c.args.rows.now c.requires.table c.requires.in_range.acyclic c.args.class _ c.requires.class
    (record {
      classes = rw c.len.ensures at c.in_ok-classes_above.ensures;
      attrs = rw c.as_slice-attrs.ensures at c.in_ok-attributes.ensures;
      derived_attrs = rw c.as_slice-derived.ensures at c.in_ok-attributes-2.ensures;
      ops = rw c.as_slice-ops.ensures at c.in_ok-listed_operations.ensures;
      attr = rw c.as_slice-attrs.ensures at c.in_ok-attributes_by_name.ensures;
      derived = rw c.as_slice-derived.ensures at c.in_ok-attributes_by_name-2.ensures;
      role = rw c.as_slice.ensures at c.in_ok-roles_by_name.ensures;
      operation = rw c.as_slice-ops.ensures at c.in_ok-chosen_operations.ensures;
    })
