-- How much a model may declare.
use Rattle.std.specs.Prelude.{ℤ, pos, Bool, true, false, ◌||◌, filter, take, Option, slice_get, find}
use Rattle.std.specs.Option.{option_map, option_map_or, option_or}
use Rattle.std.specs.Ordering.{int_cmp, is_lt}
use Rattle.use_text.specs.declared.place.Place.{Place}
use Rattle.class_decls.specs.declared.decls.CondKind.{CondKind}
use Rattle.class_decls.specs.declared.decls.CondKind.TheVariants.{Inv, Pre, Post}
use Rattle.class_decls.specs.declared.decls.Decls.{Decls}
use Rattle.class_decls.specs.declared.decls.EndDecl.{EndDecl}
use Rattle.class_decls.specs.declared.decls.EnumDecl.{EnumDecl}
use Rattle.class_decls.specs.declared.decls.MultPart.{MultPart}
use Rattle.class_decls.specs.Texts.{first_given}

abbrev pub int_lt : ℤ → ℤ → Bool
int_lt a b = is_lt (int_cmp a b)

-- a number above the largest one of a multiplicity
abbrev pub is_past : ℤ → Bool
is_past n = int_lt (pos 4294967295) n

-- M11: the lower bound is above the upper one, a bound is too large, or nothing but 0 is allowed
abbrev pub is_bad_part : MultPart → Bool
is_bad_part p = is_past p.low || option_map_or (λ high. int_lt high p.low || is_past high || int_lt high (pos 1)) p.high false

abbrev pub bad_part : EndDecl → Option Place
bad_part e = option_map (λ p. p.place) (find is_bad_part e.parts)

abbrev pub bad_multiplicity : Decls → Option Place
bad_multiplicity ds = first_given (λ a. option_or (bad_part a.first) (bad_part a.second)) ds.assocs

-- M13: too many classes
abbrev pub too_many_classes : Decls → Option Place
too_many_classes ds = option_map (λ c. c.name.place) (slice_get ds.classes 200)

-- M15: too many associations
abbrev pub too_many_assocs : Decls → Option Place
too_many_assocs ds = option_map (λ a. a.name.place) (slice_get ds.assocs 200)

abbrev pub is_invariant : CondKind → Bool
is_invariant Inv = true
is_invariant (Pre op) = false
is_invariant (Post op) = false

-- M16: too many invariants
abbrev pub too_many_invariants : Decls → Option Place
too_many_invariants ds = option_map (λ c. c.name.place) (slice_get (filter (λ c. is_invariant c.kind) ds.conds) 200)

-- the name of a literal past the last one that an enumeration may have
abbrev pub excess_literal : EnumDecl → Option Place
excess_literal e = option_map (λ n. n.place) (slice_get e.literals 1000)

-- M18: too many enumerations or literals
abbrev pub too_many_literals : Decls → Option Place
too_many_literals ds = option_or (first_given excess_literal (take 200 ds.enums)) (option_map (λ e. e.name.place) (slice_get ds.enums 200))
