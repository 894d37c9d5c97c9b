-- What clap's matches have for the arguments of a command that it takes.
use Rattle.std.specs.Prelude.{◌≡◌, ◌≤◌, ℕ, List, Some}
use Rattle.std.specs.Str.Parse.{IsNumeral, digits_value, without_leading_plus}
use Rattle.clap.specs.Words.{Row, Text, first_of, one_of}
use Rattle.insar_words.specs.Forms.{Argument, Each, OfOne, Taking, any_number, arguments_of, checking, displacing, drawing, forms, names, numbers, parting, screening, solving, watching, whole_checking, whole_solving}

-- a number from `least` to `most`
pub record HasNumber (id : Text) (least most : ℕ) (rows : List Row) : Type 0 where
  pub text : Text
  pub told : one_of id rows ≡ Some text
  pub numeral : IsNumeral 10 (without_leading_plus text)
  pub at_least : least ≤ digits_value 10 (without_leading_plus text)
  pub at_most : digits_value 10 (without_leading_plus text) ≤ most

-- some text
abbrev pub HasText : Text → List Row → Type 0
HasText id rows = (text : Text) × (first_of id rows ≡ Some text)

-- what the argument takes, but for its names
abbrev pub HasValue : Taking → Text → List Row → Type 0
HasValue (numbers least most) id rows = HasNumber id least most rows
HasValue any_number id rows = HasNumber id 0 18446744073709551615 rows
HasValue (names all) id rows = HasText id rows

abbrev pub HasValues : List Argument → List Row → Type 0
HasValues arguments rows = Each (λ a. HasValue a.takes a.id rows) arguments

-- what `check` needs, what `unwrap`, `grid` and `trial` need, and the raster of a trial
abbrev pub HasChecking : List Row → Type 0
HasChecking rows = HasValues checking rows

abbrev pub HasSolving : List Row → Type 0
HasSolving rows = HasValues solving rows

abbrev pub HasRaster : List Row → Type 0
HasRaster rows = HasValues drawing rows

-- what `watch` needs
abbrev pub HasWatching : List Row → Type 0
HasWatching rows = HasValues watching rows

-- what `check-whole` needs, and what `whole` needs
abbrev pub HasTerms : List Row → Type 0
HasTerms rows = HasValues whole_checking rows

abbrev pub HasWholeSolving : List Row → Type 0
HasWholeSolving rows = HasValues whole_solving rows

-- what `parts` needs
abbrev pub HasParting : List Row → Type 0
HasParting rows = HasValues parting rows

-- what `screen` needs, and what `displacement` needs
abbrev pub HasScreening : List Row → Type 0
HasScreening rows = HasValues screening rows

abbrev pub HasDisplacing : List Row → Type 0
HasDisplacing rows = HasValues displacing rows

-- a command of the table, with what its arguments have
abbrev pub ReadsAs : Text → List Row → Type 0
ReadsAs command rows = OfOne (λ form. (command ≡ form.command) × HasValues (arguments_of form) rows) forms
