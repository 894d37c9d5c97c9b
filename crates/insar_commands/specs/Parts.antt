-- What `parts` answers of a session and the text of a whole surface: the parts of a surface that is accepted.
use Rattle.std.specs.Prelude.{◌≡◌, ◌⊎◌, ℕ, List}
use Rattle.raster_model.specs.Masks.{open_at}
use Rattle.certain_parts.specs.Labels.{ArePartsOf}
use Rattle.certain_parts.specs.PartsText.{parts_text}
use Rattle.certain_parts.specs.PartsView.{PartsView}
use Rattle.certain_parts.specs.Told.{faced_told}
use Rattle.whole_check.specs.declared.verdict.WholeVerdict.TheVariants.{Accepted}
use Rattle.insar_words.specs.Asked.{Options}
use Rattle.insar_commands.specs.CheckWhole.{IsWholeJudged, IsWholeVerdictAnswer}
use Rattle.insar_commands.specs.Whole.{whole_task}

-- the bytes spell a session and a whole surface that is accepted, and the text is that of its parts at a limit that have at least so many pixels
pub record IsPartsText (options : Options) (limit least : ℕ) (bytes text : List ℕ) : Type 0 where
  pub judged : IsWholeJudged options bytes Accepted
  pub parts : PartsView
  pub found : ArePartsOf (faced_told (whole_task judged.session) judged.told) limit least parts
  pub written : text ≡ parts_text parts (open_at judged.session.first_mask) limit least

-- the status is 0 with the text of the parts, or 1 with what `check-whole` answers with that status
abbrev pub IsPartsAnswer : Options → ℕ → ℕ → List ℕ → ℕ → List ℕ → Type 0
IsPartsAnswer options limit least bytes status text = ((status ≡ 0) × IsPartsText options limit least bytes text) ⊎ ((status ≡ 1) × IsWholeVerdictAnswer options bytes 1 text)
