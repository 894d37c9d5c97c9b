-- Bytes that have a break are not of the form that a request reads.
use Rattle.std.proofs.Common.{[]}
use Rattle.session_script.specs.declared.session_use.SessionUse.TheVariants.{Alone}
use Rattle.session_script.specs.Layouts.{as_whole, in_tiles}
use Rattle.session_script.proofs.AskSession.{no_fault_of_laid, no_fault_of_session}
use Rattle.report_text.specs.Contents.{IsReportText}
use Rattle.whole_text.specs.Text.{IsWholeText}
use Rattle.insar_words.specs.declared.request.Request.TheVariants.{Unwrap, Grid, Check, Screen, Closure, Displacement, Whole, CheckWhole, Watch, Nearest, Parts}
use Rattle.answer_lines.specs.declared.refusal.Refusal.TheVariants as refusals
use Rattle.insar_commands.specs.Causes.{BrokenBytesAreNoInput}
use Rattle.insar_commands.specs.Displacement.{sight_of}
use Rattle.insar_commands.proofs.BothLemmas.{not_checkable}
use Rattle.insar_commands.proofs.LoopLemmas.{no_loop}
use Rattle.insar_commands.proofs.NearestLemmas.{no_nearest}
use Rattle.insar_commands.proofs.SightLemmas.{no_sight}

pub broken_bytes_are_no_input : BrokenBytesAreNoInput
broken_bytes_are_no_input (Unwrap settings) bytes (refusals.Input fault) h input = no_fault_of_session Alone settings.side bytes input.0 [] fault input.1 h
broken_bytes_are_no_input (Grid settings) bytes (refusals.Input fault) h input = no_fault_of_session Alone settings.side bytes input.0 [] fault input.1 h
broken_bytes_are_no_input (Check settings) bytes refusal h input = not_checkable IsReportText (in_tiles settings.side) bytes input refusal h
broken_bytes_are_no_input (Screen screening) bytes (refusals.Input fault) h input = no_fault_of_session Alone screening.side bytes input.0 [] fault input.1 h
broken_bytes_are_no_input Closure bytes refusal h input = no_loop bytes refusal h input
broken_bytes_are_no_input (Displacement displacing) bytes refusal h input = no_sight (sight_of displacing) bytes input refusal h
broken_bytes_are_no_input (Whole settings) bytes (refusals.Input fault) h input = no_fault_of_laid Alone as_whole bytes input.0 [] fault input.1 h
broken_bytes_are_no_input (CheckWhole settings) bytes refusal h input = not_checkable IsWholeText as_whole bytes input refusal h
broken_bytes_are_no_input (Watch watching) bytes (refusals.Input fault) h input = no_fault_of_session Alone watching.settings.side bytes input.0 [] fault input.1 h
broken_bytes_are_no_input Nearest bytes refusal h input = no_nearest bytes input refusal h
broken_bytes_are_no_input (Parts parting) bytes refusal h input = not_checkable IsWholeText as_whole bytes input refusal h
broken_bytes_are_no_input asked bytes refusal h input = h
