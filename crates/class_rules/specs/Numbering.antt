-- The numbers of classes, and cycles of inheritance.
use denote.Ref.{Bor}
use Rattle.std.specs.Prelude.{ℕ, zero, suc, Bool, true, not, ◌&&◌, ◌||◌, nat_eq, nat_lt, if◌then◌else◌, List, [], ◌∷◌, ◌++◌}
use Rattle.std.specs.Prelude.{map, take, length, Option, Some, None, slice_get, slice_index_or, unwrap_or}
use Rattle.std.specs.List.{filter_map, list_all, list_any, position_from}
use Rattle.std.specs.HashMap.{HashMap, get_by}
use Rattle.std.specs.Option.{option_and_then, option_map, option_map_or, option_or}
use Rattle.std.specs.Str.{bytes_eq}
use Rattle.use_text.specs.declared.place.Place.{Place}
use Rattle.class_decls.specs.declared.decls.Decls.{Decls}
use Rattle.class_decls.specs.Texts.{same_text}

-- where the class of a name stands among the classes
abbrev pub class_at : Decls → List ℕ → Option ℕ
class_at ds text = position_from (λ c. same_text c.name.text text) 0 ds.classes

-- where the parents of each class stand
abbrev pub parent_places : Decls → List (List ℕ)
parent_places ds = map (λ c. filter_map (λ p. class_at ds p.text) c.parents) ds.classes

-- the place of a name in a map
abbrev pub place_in : {S : Type 0} → HashMap (Bor (List ℕ)) ℕ S → List ℕ → Option ℕ
place_in m t = get_by (λ k. bytes_eq t k.now) m

abbrev pub some_if : Bool → ℕ → Option ℕ
some_if b n = if b then Some n else None

-- the entry of a list of lists, and none past its end
abbrev pub row_at : List (List ℕ) → ℕ → List ℕ
row_at rows i = unwrap_or (slice_get rows i) []

abbrev pub is_among : List ℕ → ℕ → Bool
is_among xs i = list_any (nat_eq i) xs

-- the least number below another that passes a test
abbrev pub least_below : (ℕ → Bool) → ℕ → Option ℕ
least_below test zero = None
least_below test (suc n) = option_or (least_below test n) (if test n then Some n else None)

-- whether a class has no number yet and its parents all have one; parents past the classes that are considered do not count
abbrev pub may_follow : List (List ℕ) → List ℕ → ℕ → Bool
may_follow parents done i = not (is_among done i) && list_all (λ p. is_among done p || not (nat_lt p (length parents))) (row_at parents i)

-- the same of flags that tell which classes have one
abbrev pub may_follow_flags : List (List ℕ) → List Bool → ℕ → Bool
may_follow_flags parents done i = not (slice_index_or done i true) && list_all (λ p. slice_index_or done p true) (row_at parents i)

-- the classes that have a number, and so many that get the next ones: each time the first class that may follow
abbrev pub numbered_on : List (List ℕ) → List ℕ → ℕ → List ℕ
numbered_on parents done zero = done
numbered_on parents done (suc n) = option_map_or (λ i. numbered_on parents (done ++ i ∷ []) n) (least_below (may_follow parents done) (length parents)) done

-- where the class of each number stands; a class on a cycle has no number
abbrev pub numbering : List (List ℕ) → List ℕ
numbering parents = numbered_on parents [] (length parents)

-- whether the classes before a place hold a cycle, among them alone
abbrev pub has_cycle : List (List ℕ) → ℕ → Bool
has_cycle parents n = nat_lt (length (numbering (take n parents))) (length (take n parents))

abbrev pub closes_cycle : List (List ℕ) → ℕ → Bool
closes_cycle parents i = has_cycle parents (suc i)

-- M4: inheritance has a cycle; where the classes hold one, the first class that closes one among the classes up to it
abbrev pub inheritance_cycle : Decls → Option Place
inheritance_cycle ds =
    if has_cycle (parent_places ds) (length ds.classes)
    then option_map (λ c. c.name.place) (option_and_then (slice_get ds.classes) (least_below (closes_cycle (parent_places ds)) (length ds.classes)))
    else None
