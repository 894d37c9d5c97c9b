-- Why a report is not read, and what reading it promises.
use Rattle.std.specs.Prelude.{ℕ, List, Result}
use Rattle.insar_ports.specs.Calls.{Call}
use Rattle.text_lines.specs.declared.fault.LineFault.{LineFault}
use Rattle.text_parts.specs.Reading.{BreaksTextAt, BrokenTextLineIsOne, EndsTextIn, HasBrokenTextLine, HasTextCause, IsTextRead, IsTextRefusedAt}
use Rattle.report_text.specs.declared.contents.Report.{Report}
use Rattle.report_text.specs.Contents.{IsReportText, report_told}
use Rattle.report_text.specs.Text.{report_text}

-- the bytes that were taken end with line n, the first with which no report begins; they end in line n, and are no report
abbrev pub BreaksReportAt : ℕ → List ℕ → Type 0
BreaksReportAt n text = BreaksTextAt IsReportText n text

abbrev pub EndsReportIn : ℕ → List ℕ → Type 0
EndsReportIn n text = EndsTextIn IsReportText n text

-- Where bytes are told: those that were taken end with the first line that breaks the form, or the input ends in a line that is
-- cut or missing; or the limit cuts a line. Otherwise a fault of the source was counted, or memory ran out.
abbrev pub HasReportCause : Call → LineFault → Type 0
HasReportCause call fault = HasTextCause IsReportText call fault

-- of bytes of which so many are let out, line n is the first that breaks the form
abbrev pub HasBrokenReportLine : ℕ → ℕ → List ℕ → Type 0
HasBrokenReportLine room n bytes = HasBrokenTextLine IsReportText room n bytes

-- a report's text is read as a report that has it, and nothing is left; or a fault of the source was counted, or memory ran out
abbrev pub IsReportRead : Call → List ℕ → Result Report LineFault → Type 0
IsReportRead call bytes result = IsTextRead report_told report_text call bytes result

-- a first broken line is told; or one of the same happened
abbrev pub IsReportRefusedAt : Call → ℕ → Result Report LineFault → Type 0
IsReportRefusedAt call n result = IsTextRefusedAt call n result

-- bytes have no two first broken lines, however many are let out, and the text of a report has none
abbrev pub BrokenReportLineIsOne : Type 0
BrokenReportLineIsOne = BrokenTextLineIsOne IsReportText
