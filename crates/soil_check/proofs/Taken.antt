-- What a name stands for, as it is told.
use Rattle.std.proofs.Common.{◌≡◌, ℕ, List, Option, Some, None, is_some, refl, sym, ◌∙◌}
use Rattle.std.specs.Option.{option_map}
use Rattle.std.specs.Str.{IsUtf8}
use Rattle.std.specs.Str.Lossy.{utf8_lossy}
use Rattle.std.proofs.lemmas.Str.{utf8_lossy-IsUtf8}

pub some_mapped : {A B : Type 0} (f : A → B) (o : Option A) → is_some (option_map f o) ≡ is_some o
some_mapped f None = refl
some_mapped f (Some x) = refl

-- bytes that are a text are kept whole
pub whole_lossy : (text bytes : List ℕ) → text ≡ bytes → IsUtf8 bytes → utf8_lossy bytes ≡ text
whole_lossy text bytes same whole = utf8_lossy-IsUtf8 bytes whole ∙ sym same
