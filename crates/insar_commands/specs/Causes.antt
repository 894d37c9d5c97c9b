-- Why a request is refused, for every command.
use Rattle.std.specs.Prelude.{ℕ, List, Option, IfSome, ⊤}
use Rattle.insar_ports.specs.Bytes.{HasRisen}
use Rattle.answer_lines.specs.declared.refusal.Refusal.{Refusal}
use Rattle.answer_lines.specs.declared.refusal.Refusal.TheVariants as refusals
use Rattle.insar_words.specs.declared.request.Request.{Request}
use Rattle.insar_words.specs.declared.request.Request.TheVariants.{Unwrap, Grid, Check, Trial, Screen, Closure, Displacement, Whole, CheckWhole, Watch, Nearest, Parts}
use Rattle.insar_commands.specs.Answers.{HasCutShort, IsInputTo, input_of}
use Rattle.insar_commands.specs.Check.{BreaksBoth}
use Rattle.insar_commands.specs.CheckWhole.{BreaksBothWhole}
use Rattle.insar_commands.specs.Closure.{BreaksLoop}
use Rattle.insar_commands.specs.Displacement.{BreaksSight, sight_of}
use Rattle.insar_commands.specs.Nearest.{BreaksNearest}
use Rattle.insar_commands.specs.Run.{HasKept, Run, SinkFailed}
use Rattle.insar_commands.specs.Unwrap.{BreaksAlone}
use Rattle.insar_commands.specs.Whole.{BreaksWhole}

-- the break of the bytes for which a request is refused
abbrev pub BreaksInput : Request → List ℕ → Refusal → Type 0
BreaksInput (Unwrap settings) = BreaksAlone settings.side
BreaksInput (Grid settings) = BreaksAlone settings.side
BreaksInput (Check settings) = BreaksBoth settings.side
BreaksInput (Trial trial) = λ bytes refusal. ⊥
BreaksInput (Screen screening) = BreaksAlone screening.side
BreaksInput Closure = BreaksLoop
BreaksInput (Displacement displacing) = BreaksSight (sight_of displacing)
BreaksInput (Whole settings) = BreaksWhole
BreaksInput (CheckWhole settings) = BreaksBothWhole
BreaksInput (Watch watching) = BreaksAlone watching.settings.side
BreaksInput Nearest = BreaksNearest
BreaksInput (Parts parting) = BreaksBothWhole

-- why bytes are not read: lack of memory, a counted fault of the source, or a break of the bytes where they are told
abbrev pub HasReadCause : (List ℕ → Refusal → Type 0) → Option (List ℕ) → ℕ → ℕ → Refusal → Type 0
HasReadCause Breaks told before after refusals.Words = ⊥
HasReadCause Breaks told before after refusals.Memory = ⊤
HasReadCause Breaks told before after refusals.ReadFault = HasRisen before after
HasReadCause Breaks told before after refusals.WriteFault = ⊥
HasReadCause Breaks told before after broken = IfSome told (λ bytes. Breaks bytes broken)

-- why a request is refused: its input is not read, and the sink holds what it held; or a fault of the sink was counted, which gained a part of an answer
abbrev pub HasRefusalCause : Request → Run → Refusal → Type 0
HasRefusalCause asked run refusals.WriteFault = SinkFailed run × HasCutShort asked run
HasRefusalCause asked run refusal = HasReadCause (BreaksInput asked) (input_of asked run) run.source_before run.source_after refusal × HasKept run

-- bytes that have a break are not of the form that the request reads
abbrev pub BrokenBytesAreNoInput : Type 0
BrokenBytesAreNoInput = (asked : Request) (bytes : List ℕ) (refusal : Refusal) → BreaksInput asked bytes refusal → IsInputTo asked bytes → ⊥
