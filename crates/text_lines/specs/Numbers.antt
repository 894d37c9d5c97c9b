-- Lists of numbers as text, and which numbers a text may have.
use Rattle.std.specs.Prelude.{◌≡◌, ◌≢◌, ℕ, ℤ, Bool, List, [], ◌∷◌, ◌++◌, ◌⊎◌, All, MatchBool, codes, flat_map, FitsSigned}
use mir.Syntax.{w64}
use Rattle.std.specs.Fmt.{signed_decimal}

-- a number that fits 64 bits with its sign
abbrev pub FitsLong : ℤ → Type 0
FitsLong n = FitsSigned w64 n

abbrev pub AreLongs : List ℤ → Type 0
AreLongs numbers = All FitsLong numbers

-- no space (32) stands in the bytes; they are empty or begin with one
abbrev pub IsToken : List ℕ → Type 0
IsToken bytes = All (λ byte. byte ≢ 32) bytes

abbrev pub BeginsField : List ℕ → Type 0
BeginsField bytes = (bytes ≡ []) ⊎ ((more : List ℕ) × (bytes ≡ 32 ∷ more))

-- numbers with signs, each after a space; a row of them, the first without a space
unfoldable pub number_text : ℤ → List ℕ
number_text n = codes " " ++ signed_decimal n

abbrev pub numbers_text : List ℤ → List ℕ
numbers_text numbers = flat_map number_text numbers

abbrev pub numbers_line : List ℤ → List ℕ
numbers_line [] = []
numbers_line (n ∷ numbers) = signed_decimal n ++ numbers_text numbers

-- the numbers of a text were added to a list; or the text is no numbers
abbrev pub ArePushed : List ℕ → List ℤ → List ℤ → Bool → Type 0
ArePushed text old new all = MatchBool all ((row : List ℤ) × ((new ≡ old ++ row) × ((text ≡ numbers_text row) × AreLongs row))) ((row : List ℤ) → AreLongs row → text ≡ numbers_text row → ⊥)
