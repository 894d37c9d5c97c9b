-- Refusals, their statuses and the lines that tell them.
use Rattle.std.specs.Prelude.{ℕ}
use Rattle.session_script.specs.declared.fault.SessionFault.{SessionFault}
use Rattle.session_script.specs.declared.fault.SessionFault.TheVariants as session_faults
use Rattle.text_lines.specs.declared.fault.LineFault.{LineFault}
use Rattle.text_lines.specs.declared.fault.LineFault.TheVariants as report_faults
use Rattle.trial_maker.specs.declared.fault.TrialFault.{TrialFault}
use Rattle.trial_maker.specs.declared.fault.TrialFault.TheVariants as trial_faults
use Rattle.grid_writer.specs.declared.fault.GridsFault.{GridsFault}
use Rattle.grid_writer.specs.declared.fault.GridsFault.TheVariants as grids_faults
use Rattle.loop_closure.specs.declared.fault.LoopFault.{LoopFault}
use Rattle.loop_closure.specs.declared.fault.LoopFault.TheVariants as loop_faults
use Rattle.displacement.specs.declared.fault.SightFault.{SightFault}
use Rattle.displacement.specs.declared.fault.SightFault.TheVariants as sight_faults
use Rattle.nearest_surface.specs.declared.fault.NearestFault.{NearestFault}
use Rattle.nearest_surface.specs.declared.fault.NearestFault.TheVariants as nearest_faults
use Rattle.insar_words.specs.declared.fault.WordsFault.{WordsFault}
use Rattle.insar_words.specs.declared.fault.WordsFault.TheVariants as words_faults
use Rattle.answer_lines.specs.declared.refusal.Refusal.{Refusal}
use Rattle.answer_lines.specs.declared.refusal.Refusal.TheVariants as refusals

abbrev pub status_of : Refusal → ℕ
status_of refusals.Words = 2
status_of (refusals.Input fault) = 3
status_of (refusals.ReportLine n) = 3
status_of refusals.ReportLong = 3
status_of (refusals.GridLine grid line) = 3
status_of (refusals.GridLong grid) = 3
status_of (refusals.GridSizes grid) = 3
status_of (refusals.AfterGrids byte) = 3
status_of (refusals.Wide x y) = 3
status_of refusals.Reference = 3
status_of (refusals.Missing x y) = 3
status_of refusals.Memory = 4
status_of refusals.ReadFault = 5
status_of refusals.WriteFault = 6

abbrev pub session_refusal : SessionFault → Refusal
session_refusal (session_faults.Input fault) = refusals.Input fault
session_refusal session_faults.ReadFault = refusals.ReadFault
session_refusal session_faults.Memory = refusals.Memory

abbrev pub report_refusal : LineFault → Refusal
report_refusal (report_faults.Line n) = refusals.ReportLine n
report_refusal report_faults.TooLong = refusals.ReportLong
report_refusal report_faults.ReadFault = refusals.ReadFault
report_refusal report_faults.Memory = refusals.Memory

abbrev pub trial_refusal : TrialFault → Refusal
trial_refusal trial_faults.Size = refusals.Words
trial_refusal trial_faults.Memory = refusals.Memory

abbrev pub grids_refusal : GridsFault → Refusal
grids_refusal (grids_faults.Line grid line) = refusals.GridLine grid line
grids_refusal (grids_faults.Long grid) = refusals.GridLong grid
grids_refusal (grids_faults.Sizes grid) = refusals.GridSizes grid
grids_refusal (grids_faults.After byte) = refusals.AfterGrids byte
grids_refusal grids_faults.ReadFault = refusals.ReadFault
grids_refusal grids_faults.Memory = refusals.Memory

abbrev pub loop_refusal : LoopFault → Refusal
loop_refusal (loop_faults.Wide x y) = refusals.Wide x y
loop_refusal loop_faults.Memory = refusals.Memory

abbrev pub sight_refusal : SightFault → Refusal
sight_refusal sight_faults.Reference = refusals.Reference
sight_refusal (sight_faults.Wide x y) = refusals.Wide x y
sight_refusal sight_faults.Memory = refusals.Memory

abbrev pub nearest_refusal : NearestFault → Refusal
nearest_refusal nearest_faults.Sizes = refusals.GridSizes 1
nearest_refusal (nearest_faults.Missing x y) = refusals.Missing x y
nearest_refusal (nearest_faults.Wide x y) = refusals.Wide x y

abbrev pub words_refusal : WordsFault → Refusal
words_refusal words_faults.Refused = refusals.Words
words_refusal words_faults.Memory = refusals.Memory
