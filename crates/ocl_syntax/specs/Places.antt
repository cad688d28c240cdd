-- Where an expression stands, and what it is without the parentheses around it.
use Rattle.std.specs.Prelude.{false, Option, Some, None}
use Rattle.use_text.specs.declared.place.Place.{Place}
use Rattle.class_decls.specs.declared.decls.Name.{Name}
use Rattle.ocl_syntax.specs.declared.tree.Written.{Written, Row_of-Written, end_of-Written, more_of-Written, Written-Named-3-None'}
use Rattle.ocl_syntax.specs.declared.tree.Written.TheVariants as w

abbrev mutual
  -- the place of its first token
  pub first_place : Written → Place
  first_place (w.TooDeep at) = at
  first_place (w.Literal at value) = at
  first_place (w.OnlyLiteral at name) = at
  first_place (w.Named' name literal is_before arguments) = name.place
  first_place (w.Collection' at kind shape parts) = at
  first_place (w.If' at p a q b r c) = at
  first_place (w.Let' at name of_type p value q behind) = at
  first_place (w.Unary' at operator p operand) = at
  first_place (w.Binary' at operator p left q right) = first_place_in at left
  first_place (w.Dot' p source name is_before arguments) = first_place_in name.place source
  first_place (w.Arrow' p source name arguments) = first_place_in name.place source
  first_place (w.Group' at p inner) = at

  -- the same of a part, which is a row of one
  pub first_place_in : {m : _} → Place → Row_of-Written m → Place
  first_place_in at end_of-Written = at
  first_place_in at (more_of-Written e rest) = first_place e

abbrev mutual
  -- the place at which it is spoken of: that of an operator, of a property, of a bind's name, or of the first token of another form; that of
  -- parentheses is the place of what is in them
  pub place : Written → Place
  place (w.TooDeep at) = at
  place (w.Literal at value) = at
  place (w.OnlyLiteral at name) = at
  place (w.Named' name literal is_before arguments) = name.place
  place (w.Collection' at kind shape parts) = at
  place (w.If' at p a q b r c) = at
  place (w.Let' at name of_type p value q behind) = name.place
  place (w.Unary' at operator p operand) = at
  place (w.Binary' at operator p left q right) = at
  place (w.Dot' p source name is_before arguments) = name.place
  place (w.Arrow' p source name arguments) = name.place
  place (w.Group' at p inner) = place_in at inner

  pub place_in : {m : _} → Place → Row_of-Written m → Place
  place_in at end_of-Written = at
  place_in at (more_of-Written e rest) = place e

abbrev mutual
  -- what is in the parentheses around it
  pub ungrouped : Written → Written
  ungrouped (w.Group' at p inner) = ungrouped_in (w.TooDeep at) inner
  ungrouped e = e

  pub ungrouped_in : {m : _} → Written → Row_of-Written m → Written
  ungrouped_in other end_of-Written = other
  ungrouped_in other (more_of-Written e rest) = ungrouped e

-- a name and nothing else
abbrev pub only_name : Written → Option Name
only_name (w.Named' name None false Written-Named-3-None') = Some name
only_name e = None

abbrev pub bare_name : Written → Option Name
bare_name e = only_name (ungrouped e)
