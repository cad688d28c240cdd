-- Which texts are names of objects, and names that are made of a class and a number.
use Rattle.std.specs.Prelude.{ℕ, zero, suc, ◌+◌, Bool, false, not, ◌&&◌, nat_eq, nat_le, if◌then◌else◌, List, [], ◌∷◌, ◌++◌, length, Ok, Err}
use Rattle.std.specs.Fmt.{decimal}
use Rattle.std.specs.Option.{is_some}
use Rattle.use_text.specs.Tokens.{Tokens, tokens}
use Rattle.use_decls.specs.Names.{is_name_kind}
use Rattle.object_state.specs.State.{State, object_named, variable}
use Rattle.object_state.specs.Weights.{weight}

-- the tokens of a text are a name that covers it, and the end
abbrev pub is_only_name : List ℕ → Tokens → Bool
is_only_name text (Ok (name ∷ end ∷ [])) = nat_eq name.start 0 && nat_eq name.end (length text) && is_name_kind name.kind
is_only_name text _ = false

-- a name: a word of at most 64 bytes that is not reserved
abbrev pub is_name : List ℕ → Bool
is_name text = if nat_le (length text) 64 then is_only_name text (tokens 1 text) else false

-- no object and no variable has a name
abbrev pub is_free : State → List ℕ → Bool
is_free s name = not (is_some (object_named s name)) && not (is_some (variable s name))

abbrev pub numbered : List ℕ → ℕ → List ℕ
numbered word n = word ++ decimal n

-- a word with the first number that makes a free name; so many numbers are tried
abbrev pub first_free : State → List ℕ → ℕ → ℕ → List ℕ
first_free s word n zero = numbered word n
first_free s word n (suc tries) = if is_free s (numbered word n) then numbered word n else first_free s word (n + 1) tries

-- the name that a new object of a class gets: from its number on, no more names are taken than the state weighs
abbrev pub made_name : State → List ℕ → List ℕ
made_name s class = first_free s class s.next_object (weight s)
