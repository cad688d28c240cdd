use Rattle.std.proofs.Common.{◌≡◌, ◌+◌, ◌*◌, ◌++◌, map}
use Rattle.std.specs.Vec.Iter.{into_iter_items}
use Rattle.ocl_syntax.specs.Expressions.{expression_in}
use Rattle.ocl_syntax.proofs.expression.+expression.Given as goal

-- The forms that may still be nested, and then which call passes to which with as many of them.
abbrev pub decreases-at_node : goal.decreases-at_node
decreases-at_node l = 16 * l.fuel

abbrev pub decreases-at_row : goal.decreases-at_row
decreases-at_row l = 16 * l.fuel

abbrev pub decreases-boxed_at : goal.decreases-boxed_at
decreases-boxed_at l = 16 * l.fuel + 1

abbrev pub decreases-at_piece : goal.decreases-at_piece
decreases-at_piece l = 16 * l.fuel + 1

abbrev pub decreases-all_at : goal.decreases-all_at
decreases-all_at l = 16 * l.fuel + 2

abbrev pub invariant-all_at-pieces : goal.invariant-all_at-pieces
invariant-all_at-pieces l = l.made.items ++ map (expression_in l.fuel l.lexed l.levels) (into_iter_items l.piece-iterator)
    ≡ map (expression_in l.fuel l.lexed l.levels) l.fn.pieces

abbrev pub decreases-of_layer : goal.decreases-of_layer
decreases-of_layer l = 16 * l.fuel + 3

abbrev pub decreases-of_binary : goal.decreases-of_binary
decreases-of_binary l = 16 * l.fuel + 4

abbrev pub decreases-of_row : goal.decreases-of_row
decreases-of_row l = 16 * l.fuel + 5

abbrev pub decreases-of_chain : goal.decreases-of_chain
decreases-of_chain l = 16 * l.fuel + 6

abbrev pub decreases-of_unary : goal.decreases-of_unary
decreases-of_unary l = 16 * l.fuel + 6

abbrev pub decreases-of_group : goal.decreases-of_group
decreases-of_group l = 16 * l.fuel + 6

abbrev pub decreases-of_named : goal.decreases-of_named
decreases-of_named l = 16 * l.fuel + 6

abbrev pub decreases-of_primary : goal.decreases-of_primary
decreases-of_primary l = 16 * l.fuel + 7

abbrev pub decreases-of_node : goal.decreases-of_node
decreases-of_node l = 16 * l.fuel + 8

abbrev pub decreases-of_enum_literal : goal.decreases-of_enum_literal
decreases-of_enum_literal l = 16 * l.fuel + 4

abbrev pub decreases-of_collection : goal.decreases-of_collection
decreases-of_collection l = 16 * l.fuel + 4

abbrev pub decreases-of_choice : goal.decreases-of_choice
decreases-of_choice l = 16 * l.fuel + 4

abbrev pub decreases-of_let : goal.decreases-of_let
decreases-of_let l = 16 * l.fuel + 4

abbrev pub decreases-of_binds : goal.decreases-of_binds
decreases-of_binds l = 16 * l.fuel + 4

abbrev pub decreases-of_step : goal.decreases-of_step
decreases-of_step l = 16 * l.fuel + 4

abbrev pub decreases-of_postfix : goal.decreases-of_postfix
decreases-of_postfix l = 16 * l.fuel + 6
