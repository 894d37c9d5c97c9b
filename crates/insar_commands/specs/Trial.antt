-- What `trial` writes: four lines of numbers that depend on its words alone.
use Rattle.std.specs.Prelude.{◌≡◌, ℕ, List}
use Rattle.raster_model.specs.declared.session.Session.{Session}
use Rattle.insar_words.specs.Asked.{Options}
use Rattle.answer_lines.specs.TrialLines.{AreLinesOf}
use Rattle.trial_maker.specs.Trials.{IsTrialOf}
use Rattle.insar_commands.specs.Options.{HasOptions}

-- the session is the one that a seed gives to a width, a height and options
pub record IsTrialSession (seed width height : ℕ) (options : Options) (s : Session) : Type 0 where
  pub made : IsTrialOf seed width height s
  pub options_are : HasOptions options s

-- and the text is its four lines
pub record IsTrialText (seed width height : ℕ) (options : Options) (text : List ℕ) : Type 0 where
  pub session : Session
  pub made : IsTrialSession seed width height options session
  pub lines : AreLinesOf session text

-- the words determine the four lines
abbrev pub TrialsHaveOneText : Type 0
TrialsHaveOneText = (seed width height : ℕ) (options : Options) (one other : List ℕ) → IsTrialText seed width height options one → IsTrialText seed width height options other → one ≡ other
