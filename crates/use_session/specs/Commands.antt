-- Commands of the stream, as they are read.
use Rattle.std.specs.Prelude.{ℕ, Bool, false, if◌then◌else◌, List, Option, nat_eq, slice_get}
use Rattle.std.specs.Option.{option_map_or}
use Rattle.use_text.specs.declared.cut.Cut.{Cut}
use Rattle.use_text.specs.declared.cut.Fate.{Fate}
use Rattle.use_text.specs.declared.cut.Fate.TheVariants.{Whole, TooLong, Unfinished}
use Rattle.use_text.specs.declared.token.Token.{Token}
use Rattle.use_text.specs.declared.token.TokenKind.{TokenKind}
use Rattle.use_text.specs.declared.token.TokenKind.TheVariants as k
use Rattle.use_text.specs.declared.place.Place.{Place}
use Rattle.use_text.specs.declared.code.Family.TheVariants.{K, S}
use Rattle.use_text.specs.declared.refusal.Refusal.{Refusal}
use Rattle.use_text.specs.Codes.{code_of}
use Rattle.use_text.specs.Kinds.{number_of}
use Rattle.use_text.specs.Places.{place_at}
use Rattle.use_text.specs.Refusals.{refusal_at}
use Rattle.use_syntax.specs.Reading.{Reading, refused, place_in, place_of_first, read_command}
use Rattle.use_session.specs.declared.starts.Start.{Start}
use Rattle.use_session.specs.Lines.{place_in_stream}

-- a form that is not built yet, at this place
abbrev pub unbuilt : Place → Refusal
unbuilt place = refusal_at (code_of S 0) place

-- by how the command ended; its lines count from 0
abbrev pub reading_of_fate : Fate → List ℕ → Reading
reading_of_fate Whole text = read_command 0 text
reading_of_fate TooLong text = refused (refusal_at (code_of K 1) (place_at 0 1))
reading_of_fate Unfinished text = refused (refusal_at (code_of K 2) (place_at 0 1))

-- what a command of the stream is read as that opens no file
abbrev pub reading_of : Cut → Reading
reading_of cut = reading_of_fate cut.fate cut.text

-- the places of its first token and of the one behind it, where it begins in a line
abbrev pub start_of : ℕ → List Token → Start
start_of line ts = record { first = place_in_stream line (place_of_first 0 ts); second = place_in_stream line (place_in ts 1) }

-- the word of a command stands behind `!`, where that is its first token
abbrev pub has_kind : TokenKind → Option Token → Bool
has_kind kind t = option_map_or (λ t. nat_eq t.kind (number_of kind)) t false

abbrev pub has_mark : List Token → Bool
has_mark ts = has_kind k.Bang (slice_get ts 0)

abbrev pub word_index : List Token → ℕ
word_index ts = if has_mark ts then 1 else 0

abbrev pub word_place : Start → List Token → Place
word_place at ts = if has_mark ts then at.second else at.first

-- the word is `opexit`
abbrev pub is_exit : List Token → Bool
is_exit ts = has_kind k.Opexit (slice_get ts (word_index ts))
