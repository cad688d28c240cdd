-- The order of values: by rank, and then, within a rank, by what they hold.
use Rattle.std.specs.Prelude.{ℕ}
use Rattle.std.specs.declared.cmp.Ordering.{Ordering}
use Rattle.std.specs.declared.cmp.Ordering.TheVariants.{Equal}
use Rattle.std.specs.Ordering.{ordering_then, nat_cmp, int_cmp, bool_cmp}
use Rattle.std.specs.Cmp.Lexicographic.{slice_cmp}
use Rattle.ocl_values.specs.declared.value.Kind.{Kind}
use Rattle.ocl_values.specs.declared.value.Kind.TheVariants.{Set, OrderedSet, Bag, Sequence}
use Rattle.ocl_values.specs.declared.value.Value.{Value, items-the_row-Value}
use Rattle.ocl_values.specs.declared.value.Value.TheVariants as V
use Rattle.ocl_values.specs.declared.value.Value.TheVariants.{Null, Invalid, Int, Str, Enum, Obj, Coll'}
use Rattle.ocl_values.specs.contracts.value.ValueOrd.TheImpl.{ghosts}

-- the order of values
abbrev pub value_cmp : Value → Value → Ordering
value_cmp = ghosts.cmp

-- where the kinds of values stand in the order
abbrev pub rank : Value → ℕ
rank Null = 0
rank Invalid = 1
rank (V.Bool b) = 2
rank (Int n) = 3
rank (Str bytes) = 4
rank (Enum e l) = 5
rank (Obj o) = 6
rank (Coll' kind shape row) = 7

-- where the kinds of collections stand
abbrev pub kind_rank : Kind → ℕ
kind_rank Set = 0
kind_rank OrderedSet = 1
kind_rank Bag = 2
kind_rank Sequence = 3

-- two values of one rank, by what they hold; elements are compared by the order given
abbrev pub within_rank : (Value → Value → Ordering) → Value → Value → Ordering
within_rank by (V.Bool a) (V.Bool b) = bool_cmp a b
within_rank by (Int a) (Int b) = int_cmp a b
within_rank by (Str a) (Str b) = slice_cmp nat_cmp a b
within_rank by (Enum e l) (Enum f m) = ordering_then (nat_cmp e f) (nat_cmp l m)
within_rank by (Obj a) (Obj b) = nat_cmp a b
within_rank by (Coll' k s p) (Coll' l t q) =
    ordering_then (nat_cmp (kind_rank k) (kind_rank l)) (slice_cmp by (items-the_row-Value _ p) (items-the_row-Value _ q))
within_rank by _ _ = Equal

-- rank by rank; `value_cmp` is the order that this gives of itself
abbrev pub by_rank : (Value → Value → Ordering) → Value → Value → Ordering
by_rank by a b = ordering_then (nat_cmp (rank a) (rank b)) (within_rank by a b)
