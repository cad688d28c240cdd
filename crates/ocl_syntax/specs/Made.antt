-- A form and the expressions in it, made into one.
use Rattle.std.specs.Prelude.{ℕ, zero, suc, Bool, true, false, List, [], ◌∷◌, Option, Some, None}
use Rattle.use_text.specs.declared.place.Place.{Place}
use Rattle.use_syntax.specs.Reading.{place_or}
use Rattle.ocl_syntax.specs.declared.layer.ArgumentHead.{ArgumentHead}
use Rattle.ocl_syntax.specs.declared.layer.ArgumentHead.TheVariants as a
use Rattle.ocl_syntax.specs.declared.layer.Head.{Head}
use Rattle.ocl_syntax.specs.declared.layer.Head.TheVariants as h
use Rattle.ocl_syntax.specs.declared.layer.PartHead.{PartHead}
use Rattle.ocl_syntax.specs.declared.layer.PartHead.TheVariants as p
use Rattle.ocl_syntax.specs.declared.tree.Argument.{Argument}
use Rattle.ocl_syntax.specs.declared.tree.Argument.TheVariants.{Item, Accumulator, Body}
use Rattle.ocl_syntax.specs.declared.tree.Written.{Written}
use Rattle.ocl_syntax.specs.declared.tree.Written.TheVariants as w
use Rattle.ocl_syntax.specs.declared.tree.WrittenPart.{WrittenPart}
use Rattle.ocl_syntax.specs.declared.tree.WrittenPart.TheVariants.{One, Range}

-- what is said of a node that lacks a part; none in a tree that was read does
abbrev pub left_out : Written
left_out = w.TooDeep (place_or None)

-- the first of the expressions that were made, and the others
abbrev pub first : List Written → Written
first [] = left_out
first (e ∷ more) = e

abbrev pub rest : List Written → List Written
rest [] = []
rest (e ∷ more) = more

abbrev pub start_of : Bool → List Written → Option Written
start_of true made = Some (first made)
start_of false made = None

-- an argument of the expressions that stand first
abbrev pub argument : ArgumentHead → List Written → Argument
argument (a.Item of_type has_start) made = Item (first made) of_type (start_of has_start (rest made))
argument (a.Accumulator of_type has_start) made = Accumulator (first made) of_type (start_of has_start (rest made))
argument a.Body made = Body (first made)

-- the expressions behind a start
abbrev pub behind_start : Bool → List Written → List Written
behind_start true made = rest made
behind_start false made = made

-- the expressions behind those of an argument
abbrev pub behind_argument : ArgumentHead → List Written → List Written
behind_argument (a.Item of_type has_start) made = behind_start has_start (rest made)
behind_argument (a.Accumulator of_type has_start) made = behind_start has_start (rest made)
behind_argument a.Body made = rest made

abbrev pub arguments : List ArgumentHead → List Written → List Argument
arguments [] made = []
arguments (head ∷ heads) made = argument head made ∷ arguments heads (behind_argument head made)

-- arguments, if there are parentheses
abbrev pub arguments_if : Option (List ArgumentHead) → List Written → Option (List Argument)
arguments_if None made = None
arguments_if (Some heads) made = Some (arguments heads made)

-- a part of a collection literal of the expressions that stand first
abbrev pub part : PartHead → List Written → WrittenPart
part p.One made = One (first made)
part (p.Range at) made = Range at (first made) (first (rest made))

abbrev pub behind_part : PartHead → List Written → List Written
behind_part p.One made = rest made
behind_part (p.Range at) made = rest (rest made)

abbrev pub parts : List PartHead → List Written → List WrittenPart
parts [] made = []
parts (head ∷ heads) made = part head made ∷ parts heads (behind_part head made)

-- the expression of a form and the expressions in it
abbrev pub made_of : Head → List Written → Written
made_of h.Lacking made = left_out
made_of h.Same made = first made
made_of (h.Literal at value) made = w.Literal at value
made_of (h.OnlyLiteral at name) made = w.OnlyLiteral at name
made_of (h.Named name literal is_before heads) made = w.Named name literal is_before (arguments_if heads made)
made_of (h.Collection at kind heads) made = w.Collection at kind (parts heads made)
made_of (h.If at) made = w.If at (first made) (first (rest made)) (first (rest (rest made)))
made_of (h.Let at name of_type) made = w.Let at name of_type (first made) (first (rest made))
made_of (h.Unary at operator) made = w.Unary at operator (first made)
made_of (h.Binary at operator) made = w.Binary at operator (first made) (first (rest made))
made_of (h.Dot name is_before heads) made = w.Dot (first made) name is_before (arguments_if heads (rest made))
made_of (h.Arrow name heads) made = w.Arrow (first made) name (arguments_if heads (rest made))
made_of (h.Group at) made = w.Group at (first made)

-- one level less, if one is left
abbrev pub deeper : ℕ → Option ℕ
deeper zero = None
deeper (suc n) = Some n

-- the levels that are left inside a form: each takes one but parentheses
abbrev pub levels_in : ℕ → Head → Option ℕ
levels_in n h.Lacking = Some n
levels_in n h.Same = Some n
levels_in n (h.Group at) = Some n
levels_in n head = deeper n

-- where a form is spoken of
abbrev pub head_place : Head → Place
head_place h.Lacking = place_or None
head_place h.Same = place_or None
head_place (h.Literal at value) = at
head_place (h.OnlyLiteral at name) = at
head_place (h.Named name literal is_before heads) = name.place
head_place (h.Collection at kind heads) = at
head_place (h.If at) = at
head_place (h.Let at name of_type) = name.place
head_place (h.Unary at operator) = at
head_place (h.Binary at operator) = at
head_place (h.Dot name is_before heads) = name.place
head_place (h.Arrow name heads) = name.place
head_place (h.Group at) = at
