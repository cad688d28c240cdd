-- What a shelf answers, where it tells its files.
use Rattle.std.specs.Prelude.{◌≡◌, ◌⊎◌, ℕ, ◌<◌, ◌≤◌, List, length, Option, Some, None, Result, Err, IsErrOf, IsOkUnless, ⊤}
use Rattle.use_io.specs.declared.ShelfFault.{ShelfFault}
use Rattle.use_io.specs.declared.ShelfFault.TheVariants.{Failed, Missing, TooLong, Memory}
use Rattle.std.specs.Ordering.{nat_cmp}
use Rattle.std.specs.Cmp.Lexicographic.{slice_cmp}
use Rattle.std.specs.FinMap.{FinMap, get}

-- files by name
abbrev pub Files : Type 0
Files = FinMap (slice_cmp nat_cmp) (List ℕ)

-- where it tells its files, it has none of this name
abbrev pub LacksFile : Option Files → List ℕ → Type 0
LacksFile None name = ⊤
LacksFile (Some files) name = get files name ≡ None

-- where it tells its files, the one of this name has these bytes
abbrev pub HasFile : Option Files → List ℕ → List ℕ → Type 0
HasFile None name bytes = ⊤
HasFile (Some files) name bytes = get files name ≡ Some bytes

-- where it tells its files, the one of this name is longer
abbrev pub HasLonger : Option Files → List ℕ → ℕ → Type 0
HasLonger None name limit = ⊤
HasLonger (Some files) name limit = (bytes : List ℕ) × (get files name ≡ Some bytes) × (limit < length bytes)

abbrev pub KeepsFiles : Option Files → Option Files → Type 0
KeepsFiles None new = ⊤
KeepsFiles (Some files) new = new ≡ Some files

-- what a fetch answers that did not fail, by what the shelf holds under the name
abbrev pub AnswersHeld : {T : Type 0} → Option (List ℕ) → ℕ → Result T ShelfFault → Type 0
AnswersHeld None limit result = result ≡ Err Missing
AnswersHeld (Some bytes) limit result = (limit < length bytes → result ≡ Err TooLong) × (length bytes ≤ limit → IsOkUnless result Memory)

-- where it tells its files, a fetch fails or answers by what it holds
abbrev pub AnswersUnlessFailed : {T : Type 0} → Option Files → List ℕ → ℕ → Result T ShelfFault → Type 0
AnswersUnlessFailed None name limit result = ⊤
AnswersUnlessFailed (Some files) name limit result = IsErrOf result Failed ⊎ AnswersHeld (get files name) limit result
