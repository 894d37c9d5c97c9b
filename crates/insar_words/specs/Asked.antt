-- What words ask, by what clap reads of them as the stated command.
use Rattle.std.specs.Prelude.{◌≡◌, ◌⊎◌, ◌||◌, ◌*◌, ◌-ℤ◌, ◌<◌, ◌≤◌, ℕ, ℤ, pos, nat_lt, Bool, true, if◌then◌else◌, not, List, [], Option, Some, None, codes, option_map}
use Rattle.std.specs.Borrow.{Bor}
use Rattle.std.specs.List.{list_all}
use Rattle.std.specs.Str.{bytes_eq}
use Rattle.std.specs.Str.Parse.{digits_value, without_leading_plus}
use Rattle.clap.specs.Words.{Row, Text, fault_of, first_of, one_of, subcommand_of}
use Rattle.clap.specs.Walk.{texts}
use Rattle.raster_model.specs.declared.weights.RuleKind.{RuleKind}
use Rattle.raster_model.specs.Limits.{max_tiled_pixels}
use Rattle.insar_words.specs.Forms.{CommandForm, Taking, arguments_of, forms, is_among, names, rule_name}
use Rattle.insar_words.specs.Stated.{stated}

-- the subcommand that the words name, with what clap found for each of its arguments
abbrev pub asked : List (Bor Text) → Option (Text × List Row)
asked words = subcommand_of stated (texts words)

-- the number that an argument has, from the words or by default
abbrev pub number_asked : Text → List Row → Option ℕ
number_asked id rows = option_map (λ text. digits_value 10 (without_leading_plus text)) (one_of id rows)

-- an argument of names has one of them
abbrev pub is_named : Taking → Option Text → Bool
is_named (names all) (Some text) = is_among text all
is_named taking text = true

abbrev pub has_names : List Row → CommandForm → Bool
has_names rows form = list_all (λ a. is_named a.takes (first_of a.id rows)) (arguments_of form)

abbrev pub asks_by_names : Option (Text × List Row) → Bool
asks_by_names None = true
asks_by_names (Some p) = list_all (λ form. not (bytes_eq form.command p.0) || has_names p.1 form) forms

-- the words are taken: a parse by clap fails only for lack of memory, and each argument of names has one of them
pub record AreTaken (words : List (Bor Text)) : Type 0 where
  pub parsed : fault_of stated (texts words) ≡ []
  pub in_names : asks_by_names (asked words) ≡ true

-- ---- what options say of a session: the rule of weights, the side of tiles, what an expected ramp rises along a right and along a down edge, and the steepness of costs
pub record Options : Type 0 where
  pub rule : RuleKind
  pub side : ℕ
  pub ramp_x : ℤ
  pub ramp_y : ℤ
  pub steep : ℕ

-- the slope for which a number from 0 to 65535 stands: itself, or from 32768 on itself less 65536
abbrev pub slope_for : ℕ → ℤ
slope_for n = if nat_lt n 32768 then pos n else (pos n -ℤ pos 65536)

abbrev pub slope_asked : Text → List Row → Option ℤ
slope_asked id rows = option_map slope_for (number_asked id rows)

-- the side of tiles is asked for; or it is the default, where a subcommand has no word for it
abbrev pub IsSideAsked : List Row → ℕ → Type 0
IsSideAsked rows side = number_asked (codes "tile") rows ≡ Some side

abbrev pub IsSideByDefault : List Row → ℕ → Type 0
IsSideByDefault rows side = side ≡ 64

-- the words ask for this subcommand with these options, the side of tiles among them as it is said
pub record AsksBy (IsSide : List Row → ℕ → Type 0) (command : Text) (words : List (Bor Text)) (options : Options) : Type 0 where
  pub taken : AreTaken words
  pub rows : List Row
  pub named : asked words ≡ Some (command, rows)
  pub rule_is : first_of (codes "rule") rows ≡ Some (rule_name options.rule)
  pub side_is : IsSide rows options.side
  pub ramp_x_is : slope_asked (codes "ramp-x") rows ≡ Some options.ramp_x
  pub ramp_y_is : slope_asked (codes "ramp-y") rows ≡ Some options.ramp_y
  pub steep_is : number_asked (codes "steep") rows ≡ Some options.steep

abbrev pub Asks : Text → List (Bor Text) → Options → Type 0
Asks command words options = AsksBy IsSideAsked command words options

-- and with this number of workers
pub record AsksWorkers (command : Text) (words : List (Bor Text)) (options : Options) (workers : ℕ) : Type 0 where
  pub asks : Asks command words options
  pub workers_are : number_asked (codes "workers") asks.rows ≡ Some workers

-- the words ask for `unwrap`, for `grid`, or for `check`
abbrev pub IsCommand : List (Bor Text) → Options → Type 0
IsCommand words options = Asks (codes "unwrap") words options

abbrev pub IsGridCommand : List (Bor Text) → Options → Type 0
IsGridCommand words options = Asks (codes "grid") words options

abbrev pub IsCheck : List (Bor Text) → Options → Type 0
IsCheck words options = Asks (codes "check") words options

-- the words ask for `watch`
abbrev pub IsWatch : List (Bor Text) → Options → Type 0
IsWatch words options = Asks (codes "watch") words options

-- the words ask for `whole`, also with a number of workers, or for `check-whole`
abbrev pub IsWhole : List (Bor Text) → Options → Type 0
IsWhole words options = AsksBy IsSideByDefault (codes "whole") words options

abbrev pub IsWholeWith : List (Bor Text) → Options → ℕ → Type 0
IsWholeWith words options workers = (asks : IsWhole words options) × (number_asked (codes "workers") asks.rows ≡ Some workers)

abbrev pub IsCheckWhole : List (Bor Text) → Options → Type 0
IsCheckWhole words options = AsksBy IsSideByDefault (codes "check-whole") words options

-- the words ask for a test session of any size
pub record AsksTrial (words : List (Bor Text)) (seed width height : ℕ) (options : Options) : Type 0 where
  pub asks : Asks (codes "trial") words options
  pub seed_is : number_asked (codes "seed") asks.rows ≡ Some seed
  pub width_is : number_asked (codes "width") asks.rows ≡ Some width
  pub height_is : number_asked (codes "height") asks.rows ≡ Some height

-- the words ask for `trial`, with no more pixels than a session may have
pub record IsTrialCommand (words : List (Bor Text)) (seed width height : ℕ) (options : Options) : Type 0 where
  pub asks : AsksTrial words seed width height options
  pub pixels : width * height ≤ max_tiled_pixels

-- the words ask for a test session with more pixels
abbrev pub IsTooLarge : List (Bor Text) → Type 0
IsTooLarge words = (seed : ℕ) × (width : ℕ) × (height : ℕ) × (options : Options) × (AsksTrial words seed width height options × (max_tiled_pixels < width * height))

-- the words are refused: they are not taken, or they ask for too many pixels
abbrev pub IsRefused : List (Bor Text) → Type 0
IsRefused words = (AreTaken words → ⊥) ⊎ IsTooLarge words

-- words ask for one subcommand at most, with one choice of options
abbrev pub OneCommand : Type 0
OneCommand = (words : List (Bor Text)) (command other : Text) (options others : Options) → Asks command words options → Asks other words others → (command ≡ other) × (options ≡ others)
