-- From what a command wrote, or why it was refused, to what its request promises.
use Rattle.std.proofs.Common.{◌≡◌, ◌≤◌, ℕ, List, Result, Ok, Err, refl, arith}
use Rattle.std.specs.Prelude.{IfSome}
use Rattle.insar_ports.specs.Bytes.{GainsProperPrefix, with_end}
use Rattle.insar_ports.specs.declared.sink.WriteFault.{WriteFault}
use Rattle.insar_ports.proofs.CallLemmas.{at_told, if_told}
use Rattle.text_lines.specs.Adding.{Puts}
use Rattle.session_script.specs.Sessions.{session_of, whole_session_of}
use Rattle.report_text.specs.Text.{report_text}
use Rattle.insar_words.specs.Requests.{options_of}
use Rattle.insar_words.specs.declared.request.Request.{Request}
use Rattle.insar_words.specs.declared.request.Request.TheVariants.{Unwrap, Grid, Check, Trial, Screen, Closure, Displacement, Whole, CheckWhole, Watch, Nearest, Parts}
use Rattle.answer_lines.specs.declared.refusal.Refusal.{Refusal}
use Rattle.answer_lines.specs.declared.refusal.Refusal.TheVariants as refusals
use Rattle.insar_commands.specs.Answers.{HasAnswered, HasCutShort, IsAnswerTo, IsDoneStatus, IsInputTo, IsUsedUp, IsWithinInput, input_of}
use Rattle.insar_commands.specs.Causes.{BreaksInput, HasReadCause, HasRefusalCause}
use Rattle.insar_commands.specs.Displacement.{sight_of}
use Rattle.insar_commands.specs.Ends.{EndsBy, end_of_put}
use Rattle.insar_commands.specs.Run.{HasKept, IsUnread, Run}
use Rattle.insar_commands.proofs.LoopLemmas.{loop_input}
use Rattle.insar_commands.proofs.NearestLemmas.{nearest_input}
use Rattle.insar_commands.proofs.PartsLemmas.{judged_input, parts_input}
use Rattle.insar_commands.proofs.SightLemmas.{sight_input}

-- the text answers the request, and nothing is left
module _ (asked : Request) (r : Run) (status : ℕ) (text : List ℕ) (ready : IfSome (input_of asked r) (λ bytes. IsAnswerTo asked bytes status text × IsUsedUp asked r)) where
  answered : IsDoneStatus asked status → r.held_now ≡ with_end r.held text → HasAnswered asked r status
  answered may e = (may, if_told (input_of asked r) _ (λ bytes t. let k = at_told (input_of asked r) _ bytes t ready in (text, (k.0, (k.1, e)))))

  cut_short : GainsProperPrefix r.held text r.held_now → HasCutShort asked r
  cut_short e = if_told (input_of asked r) _ (λ bytes t. let k = at_told (input_of asked r) _ bytes t ready in (status, text, (k.0, e)))

  pub put_ends : (put : Result (Unit {0}) WriteFault) → IsDoneStatus asked status → Puts r.held r.sink_before r.held_now r.sink_after text put → EndsBy (HasAnswered asked r) (HasRefusalCause asked r) (end_of_put put status)
  put_ends (Ok done) may puts = answered may puts.written
  put_ends (Err fault) may puts = (puts.fault, cut_short puts.cut)

-- why the input was not read is why the request is refused
pub read_cause : (asked : Request) (r : Run) (refusal : Refusal) → HasKept r → HasReadCause (BreaksInput asked) (input_of asked r) r.source_before r.source_after refusal → HasRefusalCause asked r refusal
read_cause asked r refusals.WriteFault kept h = absurd h
read_cause asked r refusal kept h = (h, kept)

-- what is answered was read
pub answer_input : (asked : Request) (bytes : List ℕ) (status : ℕ) (text : List ℕ) → IsAnswerTo asked bytes status text → IsInputTo asked bytes
answer_input (Unwrap settings) bytes status text a = (session_of a.1.session, a.1.given.spelled)
answer_input (Grid settings) bytes status text a = (session_of a.1.session, a.1.given.spelled)
answer_input (Check settings) bytes status text a = (session_of a.1.0.session, report_text a.1.0.told, (a.1.0.both.spelled, ((a.1.0.told, (a.1.0.in_range, refl)), a.1.0.both.within)))
answer_input (Trial trial) bytes status text a = tt
answer_input (Screen screening) bytes status text a = (session_of a.1.session, a.1.spelled)
answer_input Closure bytes status text a = loop_input bytes a.1.0 a.1.1.0
answer_input (Displacement displacing) bytes status text a = sight_input (sight_of displacing) bytes a.1.output a.1.displaced
answer_input (Whole settings) bytes status text a = (whole_session_of a.1.session, a.1.given.spelled)
answer_input (CheckWhole settings) bytes status text a = judged_input (options_of settings) bytes a.0 a.1.0
answer_input (Watch watching) bytes status text a = (session_of a.1.session, a.1.given.spelled)
answer_input Nearest bytes status text a = nearest_input bytes a.1.output a.1.nearest
answer_input (Parts parting) bytes status text a = parts_input (options_of parting.settings) parting.margin parting.least bytes status text a

pub unread_within : (asked : Request) (r : Run) → IsUnread r → IsWithinInput asked r
unread_within (Trial trial) r unread = unread
unread_within asked r unread = tt

pub small_status : (asked : Request) (status : ℕ) → IsDoneStatus asked status → status ≤ 1
small_status (Check settings) status e = e
small_status (CheckWhole settings) status e = e
small_status (Parts parting) status e = e
small_status asked status e = omega (arith, e)
