-- What a run of `parts` promises.
use Rattle.std.proofs.Common.{◌≡◌, ◌≢◌, ℕ, List, Some, inl, inr, refl}
use Rattle.std.specs.Prelude.{IfSome}
use Rattle.insar_ports.proofs.CallLemmas.{at_told, if_told}
use Rattle.raster_model.specs.Masks.{open_at}
use Rattle.edge_weights.specs.declared.whole.WholeSession.{WholeSession}
use Rattle.session_script.specs.Sessions.{whole_session_of}
use Rattle.whole_text.specs.Text.{IsWhole, WholeOf, whole_text}
use Rattle.whole_check.specs.Verdicts.{IsCertifiedText}
use Rattle.whole_check.specs.declared.verdict.WholeVerdict.{WholeVerdict}
use Rattle.whole_check.specs.declared.verdict.WholeVerdict.TheVariants.{Accepted}
use Rattle.certain_parts.specs.Labels.{ArePartsOf}
use Rattle.certain_parts.specs.PartsText.{parts_text}
use Rattle.certain_parts.specs.PartsView.{PartsView}
use Rattle.certain_parts.specs.Told.{faced_told}
use Rattle.answer_lines.specs.WholeLines.{whole_verdict_line}
use Rattle.insar_words.specs.Asked.{Options}
use Rattle.insar_words.specs.Requests.{options_of}
use Rattle.insar_words.specs.declared.parting.Parting.{Parting}
use Rattle.insar_words.specs.declared.request.Request.TheVariants.{Parts}
use Rattle.insar_commands.specs.Answers.{IsAnswerTo, IsUsedUp}
use Rattle.insar_commands.specs.Both.{AreRead}
use Rattle.insar_commands.specs.CheckWhole.{IsBothWhole, IsVerdictFor, IsWholeCheckable, IsWholeJudged}
use Rattle.insar_commands.specs.Parts.{IsPartsAnswer}
use Rattle.insar_commands.specs.Run.{Run}
use Rattle.insar_commands.specs.Whole.{whole_task}

-- what is judged was read
pub judged_input : (options : Options) (bytes : List ℕ) (verdict : WholeVerdict) → IsWholeJudged options bytes verdict → IsWholeCheckable bytes
judged_input options bytes verdict j = (whole_session_of j.session, whole_text j.told, (j.both.spelled, ((j.told, (j.in_range, refl)), j.both.within)))

pub parts_input : (options : Options) (limit least : ℕ) (bytes : List ℕ) (status : ℕ) (text : List ℕ) → IsPartsAnswer options limit least bytes status text → IsWholeCheckable bytes
parts_input options limit least bytes status text (inl a) = judged_input options bytes Accepted a.1.judged
parts_input options limit least bytes status text (inr a) = judged_input options bytes a.1.0 a.1.1.0

-- what was read answers, with the parts of a surface that is accepted, or with the line of another verdict
module _ (parting : Parting) (r : Run) (s : WholeSession) (told : WholeOf) (read : AreRead (IsBothWhole (options_of parting.settings)) r.told r.left s (whole_text told)) (ranges : IsWhole told) where
  abbrev judged : (verdict : WholeVerdict) → IsVerdictFor s told verdict → (bytes : List ℕ) → r.told ≡ Some bytes → IsWholeJudged (options_of parting.settings) bytes verdict
  judged verdict is bytes t = record { session = s; told = told; both = (at_told r.told _ bytes t read).0; in_range = ranges; verdict_is = is }

  pub parts_ready : (parts : PartsView) → IsCertifiedText (whole_task s) told → ArePartsOf (faced_told (whole_task s) told) parting.margin parting.least parts
      → IfSome r.told (λ bytes. IsAnswerTo (Parts parting) bytes 0 (parts_text parts (open_at s.first_mask) parting.margin parting.least) × IsUsedUp (Parts parting) r)
  parts_ready parts certified found = if_told r.told _ (λ bytes t. (inl (refl, record { judged = judged Accepted certified bytes t; parts = parts; found = found; written = refl }), (at_told r.told _ bytes t read).1))

  pub refused_ready : (verdict : WholeVerdict) → IsVerdictFor s told verdict → verdict ≢ Accepted → IfSome r.told (λ bytes. IsAnswerTo (Parts parting) bytes 1 (whole_verdict_line verdict) × IsUsedUp (Parts parting) r)
  refused_ready verdict is other = if_told r.told _ (λ bytes t. (inr (refl, (verdict, (judged verdict is bytes t, (inr (other, refl), refl)))), (at_told r.told _ bytes t read).1))
