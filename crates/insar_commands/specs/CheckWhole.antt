-- What `check-whole` reads, which is a session without tiles and then the text of a whole surface, and what it answers.
use Rattle.std.specs.Prelude.{◌≡◌, ℕ, List}
use Rattle.edge_weights.specs.declared.whole.WholeSession.{WholeSession}
use Rattle.insar_words.specs.Asked.{Options}
use Rattle.session_script.specs.declared.session_use.SessionUse.TheVariants.{BeforeReport}
use Rattle.session_script.specs.Layouts.{as_whole}
use Rattle.session_script.specs.Sessions.{IsWholeSessionIn, whole_session_of}
use Rattle.whole_text.specs.Text.{IsWhole, IsWholeText, WholeOf, whole_text}
use Rattle.whole_check.specs.declared.verdict.WholeVerdict.{WholeVerdict}
use Rattle.whole_check.specs.declared.verdict.WholeVerdict.TheVariants.{Accepted}
use Rattle.whole_check.specs.Verdicts.{IsWholeVerdict, surface_told}
use Rattle.raster_model.specs.Masks.{open_at}
use Rattle.raster_model.specs.Whole.{IsLeastOfAll}
use Rattle.insar_commands.specs.Both.{BreaksBothBy, IsBothBy, IsCheckableBy, IsJudgedBy, IsStatusBy, IsToldBy, IsVerdictBy}
use Rattle.insar_commands.specs.Options.{HasWholeOptions}
use Rattle.insar_commands.specs.Run.{Run}
use Rattle.insar_commands.specs.Whole.{IsWholeAnswer, raster_laid, whole_task}
use Rattle.answer_lines.specs.declared.refusal.Refusal.{Refusal}
use Rattle.answer_lines.specs.WholeLines.{whole_verdict_line}

-- the bytes are the text of a session and then of a whole surface that is not too long
abbrev pub IsWholeCheckable : List ℕ → Type 0
IsWholeCheckable bytes = IsCheckableBy IsWholeText as_whole bytes

-- the break of the bytes for which a check is refused
abbrev pub BreaksBothWhole : List ℕ → Refusal → Type 0
BreaksBothWhole bytes refusal = BreaksBothBy IsWholeText as_whole bytes refusal

-- the bytes are the text of this session, which is on these options, and then this text, which is not too long
abbrev pub IsBothWhole : Options → List ℕ → WholeSession → List ℕ → Type 0
IsBothWhole options = IsBothBy as_whole whole_session_of (HasWholeOptions options)

-- this is the verdict on a text for a session
abbrev pub IsVerdictFor : WholeSession → WholeOf → WholeVerdict → Type 0
IsVerdictFor session whole verdict = IsWholeVerdict (whole_task session) whole verdict

-- the bytes are the text of a session and then of a whole surface that is not too long, for which, on these options, this is the verdict
abbrev pub IsWholeJudged : Options → List ℕ → WholeVerdict → Type 0
IsWholeJudged options bytes verdict = IsJudgedBy (IsBothWhole options) whole_text IsWhole IsVerdictFor bytes verdict

-- the status is 0 if the surface is accepted, and 1 if it is not
abbrev pub IsWholeStatus : WholeVerdict → ℕ → Type 0
IsWholeStatus verdict status = IsStatusBy Accepted verdict status

-- this is the verdict on the bytes, with its status and its line
abbrev pub IsWholeVerdictAnswer : Options → List ℕ → ℕ → List ℕ → Type 0
IsWholeVerdictAnswer options bytes status text = IsVerdictBy Accepted whole_verdict_line (IsWholeJudged options bytes) status text

-- a verdict is told: by status 0 if it is Accepted and by 1 if it is not, and by its line
abbrev pub IsWholeVerdictTold : ℕ → Run → WholeVerdict → Type 0
IsWholeVerdictTold status run verdict = IsToldBy Accepted whole_verdict_line status run verdict

-- what `whole` writes for a session is accepted, where the text of the session stands before it
abbrev pub WholesAreAccepted : Type 0
WholesAreAccepted = (options : Options) (bytes text both : List ℕ) (answer : IsWholeAnswer options bytes text) → IsWholeSessionIn BeforeReport both (whole_session_of answer.session) text → IsWholeJudged options both Accepted

-- an accepted surface is least of all, whoever wrote it
abbrev pub AcceptedWholesAreLeast : Type 0
AcceptedWholesAreLeast = (options : Options) (bytes : List ℕ) (j : IsWholeJudged options bytes Accepted) → IsLeastOfAll (raster_laid j.session.scene) (open_at j.session.first_mask) (surface_told (whole_task j.session) j.told)

-- bytes have one verdict, whatever session and surface they are the text of
abbrev pub BytesHaveOneWholeVerdict : Type 0
BytesHaveOneWholeVerdict = (options : Options) (bytes : List ℕ) (one other : WholeVerdict) → IsWholeJudged options bytes one → IsWholeJudged options bytes other → one ≡ other
