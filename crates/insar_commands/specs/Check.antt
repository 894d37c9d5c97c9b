-- What `check` reads, which is a session and then a report, and what it answers.
use Rattle.std.specs.Prelude.{◌≡◌, ℕ, List}
use Rattle.insar_words.specs.Asked.{Options}
use Rattle.session_script.specs.declared.session_use.SessionUse.TheVariants.{BeforeReport}
use Rattle.session_script.specs.Layouts.{in_tiles}
use Rattle.session_script.specs.Sessions.{IsSessionIn, session_of}
use Rattle.report_text.specs.Contents.{IsReport, IsReportText}
use Rattle.report_text.specs.Text.{report_text}
use Rattle.report_check.specs.declared.verdict.CheckVerdict.{CheckVerdict}
use Rattle.report_check.specs.declared.verdict.CheckVerdict.TheVariants.{Accepted}
use Rattle.report_check.specs.Verdicts.{IsCheckVerdict}
use Rattle.insar_commands.specs.Both.{BreaksBothBy, IsBoth, IsCheckableBy, IsJudgedBy, IsStatusBy, IsToldBy, IsVerdictBy}
use Rattle.insar_commands.specs.Run.{Run}
use Rattle.insar_commands.specs.Unwrap.{IsReportAnswer}
use Rattle.answer_lines.specs.declared.refusal.Refusal.{Refusal}
use Rattle.answer_lines.specs.VerdictLines.{verdict_line}

-- the bytes are the text of a session and then of a report that is not too long
abbrev pub IsCheckable : ℕ → List ℕ → Type 0
IsCheckable side bytes = IsCheckableBy IsReportText (in_tiles side) bytes

-- the break of the bytes for which a check is refused
abbrev pub BreaksBoth : ℕ → List ℕ → Refusal → Type 0
BreaksBoth side bytes refusal = BreaksBothBy IsReportText (in_tiles side) bytes refusal

-- the bytes are the text of a session and then of a report that is not too long, for which, on these options, this is the verdict
abbrev pub IsJudged : Options → List ℕ → CheckVerdict → Type 0
IsJudged options bytes verdict = IsJudgedBy (IsBoth options) report_text IsReport IsCheckVerdict bytes verdict

-- the status is 0 if the report is accepted, and 1 if it is not
abbrev pub IsStatusOf : CheckVerdict → ℕ → Type 0
IsStatusOf verdict status = IsStatusBy Accepted verdict status

-- this is the verdict on the bytes, with its status and its line
abbrev pub IsVerdictAnswer : Options → List ℕ → ℕ → List ℕ → Type 0
IsVerdictAnswer options bytes status text = IsVerdictBy Accepted verdict_line (IsJudged options bytes) status text

-- a verdict is told: by status 0 if it is Accepted and by 1 if it is not, and by its line
abbrev pub IsVerdictTold : ℕ → Run → CheckVerdict → Type 0
IsVerdictTold status run verdict = IsToldBy Accepted verdict_line status run verdict

-- what is written for a session is accepted, where the text of the session stands before it
abbrev pub AnswersAreAccepted : Type 0
AnswersAreAccepted = (options : Options) (bytes text both : List ℕ) (answer : IsReportAnswer options bytes text) → IsSessionIn BeforeReport options.side both (session_of answer.session) text → IsJudged options both Accepted

-- bytes have one verdict, whatever session and report they are the text of
abbrev pub BytesHaveOneVerdict : Type 0
BytesHaveOneVerdict = (options : Options) (bytes : List ℕ) (one other : CheckVerdict) → IsJudged options bytes one → IsJudged options bytes other → one ≡ other
