-- Requests, as words ask for them, and why words are refused.
use Rattle.std.specs.Prelude.{◌≡◌, ◌⊎◌, ◌*◌, ◌<◌, ℕ, false, List, Some, codes, ⊤}
use Rattle.std.specs.Borrow.{Bor}
use Rattle.clap.specs.Words.{Row, Text, first_of}
use Rattle.raster_model.specs.Limits.{max_tiled_pixels}
use Rattle.insar_words.specs.Asked.{AreTaken, IsCheck, IsCheckWhole, IsCommand, IsGridCommand, IsRefused, IsSideAsked, IsSideByDefault, IsTrialCommand, IsWatch, IsWhole, Options, asked, asks_by_names, is_named, number_asked, slope_asked}
use Rattle.insar_words.specs.Forms.{rule_entry, rule_name}
use Rattle.insar_words.specs.declared.fault.WordsFault.{WordsFault}
use Rattle.insar_words.specs.declared.fault.WordsFault.TheVariants as faults
use Rattle.insar_words.specs.declared.request.Request.{Request}
use Rattle.insar_words.specs.declared.request.Request.TheVariants.{Unwrap, Grid, Check, Trial, Screen, Closure, Displacement, Whole, CheckWhole, Watch, Nearest, Parts}
use Rattle.insar_words.specs.declared.screening.Screening.{Screening}
use Rattle.insar_words.specs.declared.displacing.Displacing.{Displacing}
use Rattle.insar_words.specs.declared.parting.Parting.{Parting}
use Rattle.insar_words.specs.declared.settings.Settings.{Settings}
use Rattle.insar_words.specs.declared.trial.Trial.{Trial as TrialSession}
use Rattle.insar_words.specs.declared.watching.Watching.{Watching}

-- ---- what matches tell

-- these settings, but for the side of tiles and the workers
abbrev pub TellsTerms : List Row → Settings → Type 0
TellsTerms rows settings = (first_of (codes "rule") rows ≡ Some (rule_name settings.rule))
    × ((slope_asked (codes "ramp-x") rows ≡ Some settings.terms.ramp_x) × ((slope_asked (codes "ramp-y") rows ≡ Some settings.terms.ramp_y) × (number_asked (codes "steep") rows ≡ Some settings.terms.steep)))

-- and with the side, as it is asked for or by default; and with the workers
abbrev pub TellsSettings : List Row → Settings → Type 0
TellsSettings rows settings = TellsTerms rows settings × IsSideAsked rows settings.side

abbrev pub TellsWhole : List Row → Settings → Type 0
TellsWhole rows settings = TellsTerms rows settings × IsSideByDefault rows settings.side

abbrev pub TellsAll : List Row → Settings → Type 0
TellsAll rows settings = TellsSettings rows settings × (number_asked (codes "workers") rows ≡ Some settings.workers)

-- this test session
abbrev pub TellsTrial : List Row → TrialSession → Type 0
TellsTrial rows trial = TellsAll rows trial.settings × ((number_asked (codes "seed") rows ≡ Some trial.seed)
    × ((number_asked (codes "width") rows ≡ Some trial.width) × (number_asked (codes "height") rows ≡ Some trial.height)))

-- this run beside readers
abbrev pub TellsWatching : List Row → Watching → Type 0
TellsWatching rows watching = TellsAll rows watching.settings × ((number_asked (codes "readers") rows ≡ Some watching.readers) × (number_asked (codes "reads") rows ≡ Some watching.reads))

-- these parts
abbrev pub TellsParting : List Row → Parting → Type 0
TellsParting rows parting = (TellsWhole rows parting.settings × (parting.settings.workers ≡ 2)) × ((number_asked (codes "margin") rows ≡ Some parting.margin) × (number_asked (codes "least") rows ≡ Some parting.least))

-- this screen
abbrev pub TellsScreening : List Row → Screening → Type 0
TellsScreening rows screening = (number_asked (codes "weight") rows ≡ Some screening.weight) × ((number_asked (codes "radius") rows ≡ Some screening.radius)
    × ((number_asked (codes "count") rows ≡ Some screening.count) × ((number_asked (codes "patch") rows ≡ Some screening.patch) × (number_asked (codes "tile") rows ≡ Some screening.side))))

-- these displacements
abbrev pub TellsDisplacing : List Row → Displacing → Type 0
TellsDisplacing rows displacing = (number_asked (codes "wavelength") rows ≡ Some displacing.wavelength)
    × ((number_asked (codes "x") rows ≡ Some displacing.x) × ((number_asked (codes "y") rows ≡ Some displacing.y) × (number_asked (codes "block") rows ≡ Some displacing.block)))

-- a raster with too many pixels
abbrev pub TellsTooMany : List Row → Type 0
TellsTooMany rows = (width : ℕ) × (height : ℕ) × ((number_asked (codes "width") rows ≡ Some width) × ((number_asked (codes "height") rows ≡ Some height) × (max_tiled_pixels < width * height)))

-- a rule that there is not
abbrev pub NamesNoRule : List Row → Type 0
NamesNoRule rows = is_named rule_entry.takes (first_of rule_entry.id rows) ≡ false

-- a subcommand asks for this by its matches
abbrev pub TellsRequest : Text → List Row → Request → Type 0
TellsRequest command rows (Unwrap settings) = (command ≡ codes "unwrap") × TellsAll rows settings
TellsRequest command rows (Grid settings) = (command ≡ codes "grid") × TellsAll rows settings
TellsRequest command rows (Check settings) = (command ≡ codes "check") × (TellsSettings rows settings × (settings.workers ≡ 2))
TellsRequest command rows (Trial trial) = (command ≡ codes "trial") × TellsTrial rows trial
TellsRequest command rows (Screen screening) = (command ≡ codes "screen") × TellsScreening rows screening
TellsRequest command rows Closure = (command ≡ codes "closure") × ⊤
TellsRequest command rows (Displacement displacing) = (command ≡ codes "displacement") × TellsDisplacing rows displacing
TellsRequest command rows (Whole settings) = (command ≡ codes "whole") × (TellsWhole rows settings × (number_asked (codes "workers") rows ≡ Some settings.workers))
TellsRequest command rows (CheckWhole settings) = (command ≡ codes "check-whole") × (TellsWhole rows settings × (settings.workers ≡ 2))
TellsRequest command rows (Watch watching) = (command ≡ codes "watch") × TellsWatching rows watching
TellsRequest command rows Nearest = (command ≡ codes "nearest") × ⊤
TellsRequest command rows (Parts parting) = (command ≡ codes "parts") × TellsParting rows parting

-- it is refused, for a name or for too many pixels
abbrev pub TellsNothing : Text → List Row → Type 0
TellsNothing command rows = (asks_by_names (Some (command, rows)) ≡ false) ⊎ ((command ≡ codes "trial") × TellsTooMany rows)

abbrev pub TellsRefusal : Text → List Row → WordsFault → Type 0
TellsRefusal command rows fault = (fault ≡ faults.Refused) × TellsNothing command rows

-- ---- what words ask for

-- the words are taken, and what clap finds of them tells it
pub record IsRequest (words : List (Bor Text)) (request : Request) : Type 0 where
  pub taken : AreTaken words
  pub command : Text
  pub rows : List Row
  pub named : asked words ≡ Some (command, rows)
  pub tells : TellsRequest command rows request

-- the words ask for something
abbrev pub AskSomething : List (Bor Text) → Type 0
AskSomething words = (request : Request) × IsRequest words request

-- words are not read because they are refused, or for lack of memory
abbrev pub HasWordsCause : List (Bor Text) → WordsFault → Type 0
HasWordsCause words faults.Refused = IsRefused words
HasWordsCause words faults.Memory = ⊤

-- ---- laws

-- words are one request at most
abbrev pub OneRequest : Type 0
OneRequest = (words : List (Bor Text)) (request other : Request) → IsRequest words request → IsRequest words other → request ≡ other

-- what settings say of a session
abbrev pub options_of : Settings → Options
options_of settings = record { rule = settings.rule; side = settings.side; ramp_x = settings.terms.ramp_x; ramp_y = settings.terms.ramp_y; steep = settings.terms.steep }

-- what is asked with some options is one request; and a request is asked with its options
abbrev pub UnwrapIsRequest : Type 0
UnwrapIsRequest = (words : List (Bor Text)) → ((options : Options) → IsCommand words options → (settings : Settings) × (options_of settings ≡ options) × IsRequest words (Unwrap settings))
    × ((settings : Settings) → IsRequest words (Unwrap settings) → IsCommand words (options_of settings))

abbrev pub GridIsRequest : Type 0
GridIsRequest = (words : List (Bor Text)) → ((options : Options) → IsGridCommand words options → (settings : Settings) × (options_of settings ≡ options) × IsRequest words (Grid settings))
    × ((settings : Settings) → IsRequest words (Grid settings) → IsGridCommand words (options_of settings))

abbrev pub CheckIsRequest : Type 0
CheckIsRequest = (words : List (Bor Text)) → ((options : Options) → IsCheck words options → (settings : Settings) × (options_of settings ≡ options) × IsRequest words (Check settings))
    × ((settings : Settings) → IsRequest words (Check settings) → IsCheck words (options_of settings))

abbrev pub WholeIsRequest : Type 0
WholeIsRequest = (words : List (Bor Text)) → ((options : Options) → IsWhole words options → (settings : Settings) × (options_of settings ≡ options) × IsRequest words (Whole settings))
    × ((settings : Settings) → IsRequest words (Whole settings) → IsWhole words (options_of settings))

abbrev pub CheckWholeIsRequest : Type 0
CheckWholeIsRequest = (words : List (Bor Text)) → ((options : Options) → IsCheckWhole words options → (settings : Settings) × (options_of settings ≡ options) × IsRequest words (CheckWhole settings))
    × ((settings : Settings) → IsRequest words (CheckWhole settings) → IsCheckWhole words (options_of settings))

abbrev pub WatchIsRequest : Type 0
WatchIsRequest = (words : List (Bor Text)) → ((options : Options) → IsWatch words options → (watching : Watching) × (options_of watching.settings ≡ options) × IsRequest words (Watch watching))
    × ((watching : Watching) → IsRequest words (Watch watching) → IsWatch words (options_of watching.settings))

-- this test session
pub record IsSession (seed width height : ℕ) (options : Options) (trial : TrialSession) : Type 0 where
  pub seed_is : trial.seed ≡ seed
  pub width_is : trial.width ≡ width
  pub height_is : trial.height ≡ height
  pub options_are : options_of trial.settings ≡ options

abbrev pub TrialIsRequest : Type 0
TrialIsRequest = (words : List (Bor Text))
    → ((seed width height : ℕ) (options : Options) → IsTrialCommand words seed width height options → (trial : TrialSession) × IsSession seed width height options trial × IsRequest words (Trial trial))
    × ((trial : TrialSession) → IsRequest words (Trial trial) → IsTrialCommand words trial.seed trial.width trial.height (options_of trial.settings))

-- words are refused or ask for something, and never both
abbrev pub RefusedOrAsking : Type 0
RefusedOrAsking = (words : List (Bor Text)) → (IsRefused words ⊎ AskSomething words) × (IsRefused words → AskSomething words → ⊥)
