-- Commands as they are written before their answers.
use Rattle.std.specs.Prelude.{ℕ, ◌==◌, Bool, if◌then◌else◌, codes, List, [], ◌∷◌, ◌++◌}
use Rattle.use_text.specs.declared.cut.Cut.{Cut}
use Rattle.use_text.specs.declared.cut.Fate.{Fate}
use Rattle.use_text.specs.declared.cut.Fate.TheVariants.{TooLong}

-- what stands before each line
abbrev pub prompt : List ℕ
prompt = codes "use> "

-- a byte, and the prompt of the line that it begins
abbrev pub prompted : ℕ → List ℕ
prompted b = if b == 10 then b ∷ prompt else b ∷ []

-- a text behind a prompt, and the end of its last line
abbrev pub lines_on : List ℕ → List ℕ
lines_on [] = codes "\n"
lines_on (b ∷ text) = prompted b ++ lines_on text

-- each line of a text behind a prompt; an empty text has one empty line
abbrev pub shown : List ℕ → List ℕ
shown text = prompt ++ lines_on text

-- what is written before a command's answer: a command that is too long is not shown
abbrev pub shown_by_fate : Fate → List ℕ → List ℕ
shown_by_fate TooLong text = []
shown_by_fate _ text = shown text

abbrev pub echoed : Bool → Cut → List ℕ
echoed echo cut = if echo then shown_by_fate cut.fate cut.text else []
