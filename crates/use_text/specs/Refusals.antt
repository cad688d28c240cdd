-- Refusals and their texts.
use Rattle.std.specs.Prelude.{ℕ, List, ◌++◌, codes}
use Rattle.use_text.specs.declared.code.Code.{Code}
use Rattle.use_text.specs.declared.place.Place.{Place}
use Rattle.use_text.specs.declared.refusal.Refusal.{Refusal}
use Rattle.use_text.specs.Codes.{code_text, text_of}
use Rattle.use_text.specs.Places.{place_text}

abbrev pub refusal_at : Code → Place → Refusal
refusal_at code place = record { code = code; place = place }

-- `refused CODE at LINE:COLUMN: TEXT`
abbrev pub refusal_text : Refusal → List ℕ
refusal_text r = codes "refused " ++ code_text r.code ++ codes " at " ++ place_text r.place ++ codes ": " ++ text_of r.code
