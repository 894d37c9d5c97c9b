-- What a request reads and what answers it, for every command.
use Rattle.std.specs.Prelude.{◌≡◌, ◌≤◌, ℕ, List, [], Option, Some, IfSome, ⊤}
use Rattle.insar_ports.specs.Bytes.{GainsProperPrefix, with_end}
use Rattle.insar_words.specs.declared.request.Request.{Request}
use Rattle.insar_words.specs.declared.request.Request.TheVariants.{Unwrap, Grid, Check, Trial, Screen, Closure, Displacement, Whole, CheckWhole, Watch, Nearest, Parts}
use Rattle.insar_words.specs.Requests.{options_of}
use Rattle.insar_commands.specs.Check.{IsCheckable, IsVerdictAnswer}
use Rattle.insar_commands.specs.CheckWhole.{IsWholeCheckable, IsWholeVerdictAnswer}
use Rattle.insar_commands.specs.Closure.{IsClosureAnswer, IsLoopInput}
use Rattle.insar_commands.specs.Displacement.{IsDisplacementAnswer, IsSightInput, sight_of}
use Rattle.insar_commands.specs.Grid.{IsGridAnswer}
use Rattle.insar_commands.specs.Nearest.{IsNearestAnswer, IsNearestInput}
use Rattle.insar_commands.specs.Parts.{IsPartsAnswer}
use Rattle.insar_commands.specs.Run.{IsUnread, Run}
use Rattle.insar_commands.specs.Screen.{IsScreenAnswer}
use Rattle.insar_commands.specs.Trial.{IsTrialText}
use Rattle.insar_commands.specs.Unwrap.{IsReportAnswer, IsSomeInput}
use Rattle.insar_commands.specs.Watch.{IsWatchAnswer}
use Rattle.insar_commands.specs.Whole.{IsSomeWholeInput, IsWholeAnswer}

-- the bytes that a request is about, where the source tells them; `trial` is about none
abbrev pub input_of : Request → Run → Option (List ℕ)
input_of (Trial trial) run = Some []
input_of asked run = run.told

-- nothing of them is left, and `trial` takes nothing
abbrev pub IsUsedUp : Request → Run → Type 0
IsUsedUp (Trial trial) run = IsUnread run
IsUsedUp asked run = run.left ≡ Some []

-- nothing is taken for a request that is about no bytes
abbrev pub IsWithinInput : Request → Run → Type 0
IsWithinInput (Trial trial) run = IsUnread run
IsWithinInput asked run = ⊤

-- the bytes are of the form that a request reads
abbrev pub IsInputTo : Request → List ℕ → Type 0
IsInputTo (Unwrap settings) bytes = IsSomeInput settings.side bytes
IsInputTo (Grid settings) bytes = IsSomeInput settings.side bytes
IsInputTo (Check settings) bytes = IsCheckable settings.side bytes
IsInputTo (Trial trial) bytes = ⊤
IsInputTo (Screen screening) bytes = IsSomeInput screening.side bytes
IsInputTo Closure bytes = IsLoopInput bytes
IsInputTo (Displacement displacing) bytes = IsSightInput (sight_of displacing) bytes
IsInputTo (Whole settings) bytes = IsSomeWholeInput bytes
IsInputTo (CheckWhole settings) bytes = IsWholeCheckable bytes
IsInputTo (Watch watching) bytes = IsSomeInput watching.settings.side bytes
IsInputTo Nearest bytes = IsNearestInput bytes
IsInputTo (Parts parting) bytes = IsWholeCheckable bytes

-- with this status, the text answers a request that is about these bytes
abbrev pub IsAnswerTo : Request → List ℕ → ℕ → List ℕ → Type 0
IsAnswerTo (Unwrap settings) bytes status text = (status ≡ 0) × IsReportAnswer (options_of settings) bytes text
IsAnswerTo (Grid settings) bytes status text = (status ≡ 0) × IsGridAnswer (options_of settings) bytes text
IsAnswerTo (Check settings) bytes status text = IsVerdictAnswer (options_of settings) bytes status text
IsAnswerTo (Trial trial) bytes status text = (status ≡ 0) × IsTrialText trial.seed trial.width trial.height (options_of trial.settings) text
IsAnswerTo (Screen screening) bytes status text = (status ≡ 0) × IsScreenAnswer screening bytes text
IsAnswerTo Closure bytes status text = (status ≡ 0) × IsClosureAnswer bytes text
IsAnswerTo (Displacement displacing) bytes status text = (status ≡ 0) × IsDisplacementAnswer (sight_of displacing) bytes text
IsAnswerTo (Whole settings) bytes status text = (status ≡ 0) × IsWholeAnswer (options_of settings) bytes text
IsAnswerTo (CheckWhole settings) bytes status text = IsWholeVerdictAnswer (options_of settings) bytes status text
IsAnswerTo (Watch watching) bytes status text = (status ≡ 0) × IsWatchAnswer (options_of watching.settings) watching.readers bytes text
IsAnswerTo Nearest bytes status text = (status ≡ 0) × IsNearestAnswer bytes text
IsAnswerTo (Parts parting) bytes status text = IsPartsAnswer (options_of parting.settings) parting.margin parting.least bytes status text

-- a request that was done may end with this status: 1 is of `check`, `check-whole` and `parts` alone
abbrev pub IsDoneStatus : Request → ℕ → Type 0
IsDoneStatus (Check settings) status = status ≤ 1
IsDoneStatus (CheckWhole settings) status = status ≤ 1
IsDoneStatus (Parts parting) status = status ≤ 1
IsDoneStatus asked status = status ≡ 0

-- a request was done with this status: where the bytes are told, a text answers it, nothing is left, and the sink gained exactly the text
abbrev pub HasAnswered : Request → Run → ℕ → Type 0
HasAnswered asked run status = IsDoneStatus asked status × IfSome (input_of asked run) (λ bytes. (text : List ℕ) × (IsAnswerTo asked bytes status text × (IsUsedUp asked run × (run.held_now ≡ with_end run.held text))))

-- where the bytes are told, the sink gained a part of a text that answers the request, and not the whole
abbrev pub HasCutShort : Request → Run → Type 0
HasCutShort asked run = IfSome (input_of asked run) (λ bytes. (status : ℕ) × (text : List ℕ) × (IsAnswerTo asked bytes status text × GainsProperPrefix run.held text run.held_now))
