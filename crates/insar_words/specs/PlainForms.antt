-- Words in plain form: the command, its positionals, and then pairs `--name value`, each name at most once.
use Rattle.std.specs.Prelude.{◌≡◌, ◌≢◌, ◌*◌, ◌<◌, ◌≤◌, ◌&&◌, ◌^◌, ℕ, Bool, true, false, if◌then◌else◌, List, [], ◌∷◌, ◌++◌, Option, Some, None, codes, decimal, is_some, map, ⊤}
use Rattle.std.specs.Borrow.{Bor}
use Rattle.std.specs.List.{find, list_all}
use Rattle.std.specs.Option.{option_map_or}
use Rattle.std.specs.Str.{bytes_eq}
use Rattle.clap.specs.Words.{Row, Text, first_of}
use Rattle.clap.specs.Walk.{texts}
use Rattle.raster_model.specs.declared.weights.RuleKind.{RuleKind}
use Rattle.raster_model.specs.declared.weights.RuleKind.TheVariants.{Least, Mean, Product}
use Rattle.raster_model.specs.Limits.{max_tiled_pixels}
use Rattle.insar_words.specs.Asked.{AreTaken, AsksWorkers, IsCheck, IsCheckWhole, IsTrialCommand, IsWholeWith, Options, asked, number_asked, slope_for}
use Rattle.insar_words.specs.Forms.{Argument, CommandForm, Each, OfOne, Value, block_entry, checking, count_entry, displacing, fits, forms, least_entry, margin_entry, name, number, parting, patch_entry, radius_entry, ramp_x_entry, ramp_y_entry, readers_entry, reads_entry, rule_entry, screening, solving, steep_entry, tile_entry, watching, wavelength_entry, weight_entry, whole_checking, whole_solving, word_of, workers_entry, x_entry, y_entry}
use Rattle.insar_words.specs.Requests.{IsRequest, options_of}
use Rattle.insar_words.specs.declared.request.Request.TheVariants.{Screen, Closure, Displacement, Watch, Nearest, Parts}
use Rattle.insar_words.specs.declared.screening.Screening.{Screening}
use Rattle.insar_words.specs.declared.displacing.Displacing.{Displacing}
use Rattle.insar_words.specs.declared.parting.Parting.{Parting}
use Rattle.insar_words.specs.declared.watching.Watching.{Watching}
use Rattle.insar_words.specs.Limits.{IsTrialSide}

-- what one pair sets: an option by its name, to a value
abbrev pub Setting : Type 0
Setting = Text × Value

-- pairs `--name value`, one after another
abbrev pub pairs : List Setting → List Text
pairs [] = []
pairs (s ∷ rest) = (codes "--" ++ s.0) ∷ word_of s.1 ∷ pairs rest

-- no pair has this name
abbrev pub IsUnset : Text → List Setting → Type 0
IsUnset id [] = ⊤
IsUnset id (s ∷ rest) = (s.0 ≢ id) × IsUnset id rest

-- each name stands at most once
abbrev pub EachOnce : List Setting → Type 0
EachOnce [] = ⊤
EachOnce (s ∷ rest) = IsUnset s.0 rest × EachOnce rest

-- the pair names one of the options, and gives it a value that it takes
abbrev pub option_named : List Argument → Text → Option Argument
option_named options id = find (λ a. bytes_eq a.id id) options

abbrev pub is_setting : List Argument → Setting → Bool
is_setting options s = option_map_or (λ a. fits a.takes s.1) (option_named options s.0) false

-- the value that pairs give an option, or its default
abbrev pub set_to : Argument → List Setting → Option Value
set_to argument [] = argument.default
set_to argument (s ∷ rest) = if bytes_eq s.0 argument.id then Some s.1 else set_to argument rest

-- the pairs may stand for these options: each name at most once, each value taken, and all is given that must be
pub record ArePlain (options : List Argument) (settings : List Setting) : Type 0 where
  pub once : EachOnce settings
  pub taken : list_all (is_setting options) settings ≡ true
  pub given : list_all (λ a. is_some (set_to a settings)) options ≡ true

-- the values may stand for the positionals
abbrev pub are_values : List Argument → List Value → Bool
are_values [] [] = true
are_values (a ∷ rest) (v ∷ values) = fits a.takes v && are_values rest values
are_values positionals values = false

-- the matches have this value
abbrev pub Has : List Row → Text → Option Value → Type 0
Has rows id None = ⊥
Has rows id (Some (number n)) = number_asked id rows ≡ Some n
Has rows id (Some (name text)) = first_of id rows ≡ Some text

abbrev pub HasGiven : List Row → List Argument → List Value → Type 0
HasGiven rows (a ∷ rest) (v ∷ values) = Has rows a.id (Some v) × HasGiven rows rest values
HasGiven rows positionals values = ⊤

abbrev pub HasSet : List Row → List Argument → List Setting → Type 0
HasSet rows options settings = Each (λ a. Has rows a.id (set_to a settings)) options

-- the words are read as this command, with these values and settings
pub record IsPlainlyRead (form : CommandForm) (words : List (Bor Text)) (values : List Value) (settings : List Setting) : Type 0 where
  pub taken : AreTaken words
  pub rows : List Row
  pub named : asked words ≡ Some (form.command, rows)
  pub positionals : HasGiven rows form.positionals values
  pub options : HasSet rows form.options settings

-- a command of the table, its positionals and its pairs are read, and ask just what they say
abbrev pub PlainFormsAreRead : Type 0
PlainFormsAreRead = (words : List (Bor Text)) (form : CommandForm) (values : List Value) (settings : List Setting) → OfOne (λ each. form ≡ each) forms → are_values form.positionals values ≡ true → ArePlain form.options settings
    → texts words ≡ form.command ∷ (map word_of values ++ pairs settings) → IsPlainlyRead form words values settings

-- ---- the commands of today

-- the number that pairs set
abbrev pub number_in_value : Option Value → ℕ
number_in_value (Some (number n)) = n
number_in_value other = 0

abbrev pub workers_set : List Setting → ℕ
workers_set settings = number_in_value (set_to workers_entry settings)

-- the rule of a name
abbrev pub rule_called : Option Value → RuleKind
rule_called (Some (name text)) = if bytes_eq (codes "mean") text then Mean else (if bytes_eq (codes "product") text then Product else Least)
rule_called other = Least

-- the options that pairs set
abbrev pub options_set : List Setting → Options
options_set settings = record { rule = rule_called (set_to rule_entry settings); side = number_in_value (set_to tile_entry settings); ramp_x = slope_for (number_in_value (set_to ramp_x_entry settings)); ramp_y = slope_for (number_in_value (set_to ramp_y_entry settings)); steep = number_in_value (set_to steep_entry settings) }

-- so are `unwrap` and `grid`
abbrev pub PlainSolvingIsRead : Text → Type 0
PlainSolvingIsRead command = (words : List (Bor Text)) (settings : List Setting) → ArePlain solving settings → texts words ≡ command ∷ pairs settings
    → AsksWorkers command words (options_set settings) (workers_set settings)

-- `whole`, with the default of the side
abbrev pub whole_options_set : List Setting → Options
whole_options_set settings = record (options_set settings) { side = 64 }

abbrev pub PlainWholeIsRead : Type 0
PlainWholeIsRead = (words : List (Bor Text)) (settings : List Setting) → ArePlain whole_solving settings → texts words ≡ codes "whole" ∷ pairs settings
    → IsWholeWith words (whole_options_set settings) (workers_set settings)

-- `check-whole` and `check`, which have no `--workers`
abbrev pub PlainCheckWholeIsRead : Type 0
PlainCheckWholeIsRead = (words : List (Bor Text)) (settings : List Setting) → ArePlain whole_checking settings → texts words ≡ codes "check-whole" ∷ pairs settings
    → IsCheckWhole words (whole_options_set settings)

abbrev pub PlainCheckIsRead : Type 0
PlainCheckIsRead = (words : List (Bor Text)) (settings : List Setting) → ArePlain checking settings → texts words ≡ codes "check" ∷ pairs settings
    → IsCheck words (options_set settings)

-- and `trial` with its positionals
abbrev pub PlainTrialIsRead : Type 0
PlainTrialIsRead = (words : List (Bor Text)) (seed width height : ℕ) (settings : List Setting) → seed < 2 ^ 64 → IsTrialSide width → IsTrialSide height → width * height ≤ max_tiled_pixels → ArePlain solving settings
    → texts words ≡ codes "trial" ∷ decimal seed ∷ decimal width ∷ decimal height ∷ pairs settings
    → IsTrialCommand words seed width height (options_set settings) × AsksWorkers (codes "trial") words (options_set settings) (workers_set settings)

-- the number that pairs set for an option
abbrev pub number_set : Argument → List Setting → ℕ
number_set argument settings = number_in_value (set_to argument settings)

-- `screen`, with the numbers that are set
pub record IsScreeningSet (settings : List Setting) (s : Screening) : Type 0 where
  pub weight : s.weight ≡ number_set weight_entry settings
  pub radius : s.radius ≡ number_set radius_entry settings
  pub count : s.count ≡ number_set count_entry settings
  pub patch : s.patch ≡ number_set patch_entry settings
  pub side : s.side ≡ number_set tile_entry settings

abbrev pub PlainScreenIsRead : Type 0
PlainScreenIsRead = (words : List (Bor Text)) (settings : List Setting) → ArePlain screening settings → texts words ≡ codes "screen" ∷ pairs settings
    → (s : Screening) × (IsScreeningSet settings s × IsRequest words (Screen s))

-- `closure` and `nearest`, which have no options
abbrev pub PlainClosureIsRead : Type 0
PlainClosureIsRead = (words : List (Bor Text)) → texts words ≡ codes "closure" ∷ [] → IsRequest words Closure

abbrev pub PlainNearestIsRead : Type 0
PlainNearestIsRead = (words : List (Bor Text)) → texts words ≡ codes "nearest" ∷ [] → IsRequest words Nearest

-- and `displacement`, whose wavelength must be set
pub record IsDisplacingSet (settings : List Setting) (d : Displacing) : Type 0 where
  pub wavelength : d.wavelength ≡ number_set wavelength_entry settings
  pub x : d.x ≡ number_set x_entry settings
  pub y : d.y ≡ number_set y_entry settings
  pub block : d.block ≡ number_set block_entry settings

abbrev pub PlainDisplacementIsRead : Type 0
PlainDisplacementIsRead = (words : List (Bor Text)) (settings : List Setting) → ArePlain displacing settings → texts words ≡ codes "displacement" ∷ pairs settings
    → (d : Displacing) × (IsDisplacingSet settings d × IsRequest words (Displacement d))

-- `watch`, with the options, the workers and the numbers that are set
pub record IsWatchingSet (settings : List Setting) (w : Watching) : Type 0 where
  pub options : options_of w.settings ≡ options_set settings
  pub workers : w.settings.workers ≡ workers_set settings
  pub readers : w.readers ≡ number_set readers_entry settings
  pub reads : w.reads ≡ number_set reads_entry settings

abbrev pub PlainWatchIsRead : Type 0
PlainWatchIsRead = (words : List (Bor Text)) (settings : List Setting) → ArePlain watching settings → texts words ≡ codes "watch" ∷ pairs settings
    → (w : Watching) × (IsWatchingSet settings w × IsRequest words (Watch w))

-- `parts`, with the options of `check-whole` and the numbers that are set
pub record IsPartingSet (settings : List Setting) (p : Parting) : Type 0 where
  pub options : options_of p.settings ≡ whole_options_set settings
  pub margin : p.margin ≡ number_set margin_entry settings
  pub least : p.least ≡ number_set least_entry settings

abbrev pub PlainPartsIsRead : Type 0
PlainPartsIsRead = (words : List (Bor Text)) (settings : List Setting) → ArePlain parting settings → texts words ≡ codes "parts" ∷ pairs settings
    → (p : Parting) × (IsPartingSet settings p × IsRequest words (Parts p))
