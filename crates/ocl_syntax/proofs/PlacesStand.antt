-- The places of an expression stand in it.
use Rattle.std.proofs.Common.{◌≡◌, ◌<◌, refl, sym, ap, subst, arith, length, List, [], ◌∷◌, Contains}
use Rattle.std.specs.List.{slice_index_or}
use Rattle.use_text.specs.declared.place.Place.{Place}
use Rattle.ocl_syntax.specs.declared.tree.Argument.{Argument}
use Rattle.ocl_syntax.specs.declared.tree.Written.{Written, more_of-Written, out-Written}
use Rattle.ocl_syntax.specs.declared.tree.Written.TheVariants as w
use Rattle.ocl_syntax.specs.Places.{first_place, place}
use Rattle.ocl_syntax.specs.Standing.{StandsIn, own_places}
use Rattle.ocl_syntax.specs.Within.{IsWithin, parts_of}

pub here : {p : Place} (e : Written) → Contains (own_places (out-Written e)) p → StandsIn p e
here e h = record { part = e; within = IsWithin.itself e; own = h }

pub inside : {p : Place} (e part : Written) → Contains (parts_of (out-Written e)) part → StandsIn p part → StandsIn p e
inside e part h k = record { part = k.part; within = IsWithin.inside k.part e part h k.within; own = k.own }

first_own : (e : Written) (p : Place) (more : List Place) → own_places (out-Written e) ≡ p ∷ more → StandsIn p e
first_own e p more h = here e (0, subst (λ xs. 0 < length xs) (sym h) (omega arith), ap (λ xs. slice_index_or xs 0 p) h)

first_within : (p : Place) (e part : Written) (more : List Written) → parts_of (out-Written e) ≡ part ∷ more → StandsIn p part → StandsIn p e
first_within p e part more h k = inside e part (0, subst (λ xs. 0 < length xs) (sym h) (omega arith), ap (λ xs. slice_index_or xs 0 part) h) k

pub every_first : (e : Written) → StandsIn (first_place e) e
unfolding Rattle.ocl_syntax.specs.declared.tree.Argument.TheViews.out-Written denote.Hole.Carrier.out
    Rattle.ocl_syntax.specs.declared.tree.Argument.TheBlock.shown-the_row-Written-0 denote.Hole.Carrier.shown denote.Hole.Carrier.hidden
every_first (w.TooDeep at) = first_own (w.TooDeep at) at [] refl
every_first (w.Literal at value) = first_own _ at [] refl
every_first (w.OnlyLiteral at name) = first_own _ at _ refl
every_first (w.Named' name literal is_before arguments) = first_own _ name.place _ refl
every_first (w.Collection' at kind shape parts) = first_own _ at _ refl
every_first (w.If' at p a q b r c) = first_own _ at _ refl
every_first (w.Let' at name of_type p value q behind) = first_own _ at _ refl
every_first (w.Unary' at operator p operand) = first_own _ at _ refl
every_first (w.Binary' at operator p (more_of-Written left rest) q right) = first_within _ _ left _ refl (every_first left)
every_first (w.Dot' p (more_of-Written source rest) name is_before arguments) = first_within _ _ source _ refl (every_first source)
every_first (w.Arrow' p (more_of-Written source rest) name arguments) = first_within _ _ source _ refl (every_first source)
every_first (w.Group' at p inner) = first_own _ at _ refl

pub every_place : (e : Written) → StandsIn (place e) e
unfolding Rattle.ocl_syntax.specs.declared.tree.Argument.TheViews.out-Written denote.Hole.Carrier.out
    Rattle.ocl_syntax.specs.declared.tree.Argument.TheBlock.shown-the_row-Written-0 denote.Hole.Carrier.shown denote.Hole.Carrier.hidden
every_place (w.TooDeep at) = first_own _ at _ refl
every_place (w.Literal at value) = first_own _ at _ refl
every_place (w.OnlyLiteral at name) = first_own _ at _ refl
every_place (w.Named' name literal is_before arguments) = first_own _ name.place _ refl
every_place (w.Collection' at kind shape parts) = first_own _ at _ refl
every_place (w.If' at p a q b r c) = first_own _ at _ refl
every_place (w.Let' at name of_type p value q behind) = here _ (1, omega arith, refl)
every_place (w.Unary' at operator p operand) = first_own _ at _ refl
every_place (w.Binary' at operator p left q right) = first_own _ at _ refl
every_place (w.Dot' p source name is_before arguments) = first_own _ name.place _ refl
every_place (w.Arrow' p source name arguments) = first_own _ name.place _ refl
every_place (w.Group' at p (more_of-Written inner rest)) = first_within _ _ inner _ refl (every_place inner)
