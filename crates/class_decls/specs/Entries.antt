-- Names that are declared twice in a space.
use Rattle.std.specs.Prelude.{Bool, ◌&&◌, if◌then◌else◌, List, [], ◌∷◌, Option, Some, None}
use Rattle.std.specs.declared.cmp.Ordering.{Ordering}
use Rattle.std.specs.Ordering.{is_lt}
use Rattle.use_orders.specs.Canon.{bag_of}
use Rattle.use_text.specs.declared.place.Place.{Place}
use Rattle.use_text.specs.contracts.place.PlaceOrd.TheImpl.{ghosts as place_ghosts}
use Rattle.class_decls.specs.declared.entry.Entry.{Entry}
use Rattle.class_decls.specs.contracts.entry.SpacePartialEq.TheImpl.{ghosts as space_ghosts}
use Rattle.class_decls.specs.contracts.entry.EntryOrd.TheImpl.{ghosts as entry_ghosts}
use Rattle.class_decls.specs.Texts.{same_text}

-- the order of places in a text
abbrev pub place_cmp : Place → Place → Ordering
place_cmp = place_ghosts.cmp

-- by space, then by name, then by place
abbrev pub entry_cmp : Entry → Entry → Ordering
entry_cmp = entry_ghosts.cmp

abbrev pub is_same_name : Entry → Entry → Bool
is_same_name a b = space_ghosts.eq a.space b.space && same_text a.text b.text

-- in a list in order, the places of names that stand right behind one of the same name, which stands at an earlier place
abbrev pub again_from : Entry → List Entry → List Place
again_from a [] = []
again_from a (b ∷ rest) = if is_same_name a b then b.place ∷ again_from b rest else again_from b rest

abbrev pub again : List Entry → List Place
again [] = []
again (a ∷ rest) = again_from a rest

-- the first of some places in a text
abbrev pub earlier : Place → Option Place → Place
earlier p None = p
earlier p (Some q) = if is_lt (place_cmp q p) then q else p

-- of some places and one more, if there is one
abbrev pub first_of : Option Place → List Place → Option Place
first_of more [] = more
first_of more (p ∷ ps) = Some (earlier p (first_of more ps))

abbrev pub first_place : List Place → Option Place
first_place ps = first_of None ps

-- the first place at which a name is declared for the second time in its space
abbrev pub declared_again : List Entry → Option Place
declared_again names = first_place (again (bag_of entry_cmp names))
