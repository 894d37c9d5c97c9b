-- What `screen` reads and writes: a session, and the session with a screened first mask.
use Rattle.std.specs.Prelude.{◌≡◌, ℕ, List}
use Rattle.auto_masks.specs.declared.terms.ScreenTerms.{ScreenTerms}
use Rattle.auto_masks.specs.Screened.{IsScreened}
use Rattle.insar_words.specs.declared.screening.Screening.{Screening}
use Rattle.raster_model.specs.declared.session.Session.{Session}
use Rattle.raster_model.specs.Masks.{open_at}
use Rattle.session_script.specs.Sessions.{session_of}
use Rattle.session_script.specs.Text.{session_text}
use Rattle.insar_commands.specs.Unwrap.{IsInput}

-- the terms of a screen that words ask for
abbrev pub screen_terms : Screening → ScreenTerms
screen_terms screening = record { weight = screening.weight; radius = screening.radius; count = screening.count; patch = screening.patch }

-- the new session starts from the mask that screening makes of the old one's first mask, and has all else as the old one has it
pub record HasScreenedMask (terms : ScreenTerms) (old new : Session) : Type 0 where
  pub scene : new.scene ≡ old.scene
  pub first_mask : IsScreened terms old.scene.weights (open_at old.first_mask) new.first_mask
  pub scripts : new.scripts ≡ old.scripts

-- the text is that of the session that the bytes spell, with a screened first mask
pub record IsScreenAnswer (screening : Screening) (bytes text : List ℕ) : Type 0 where
  pub session : Session
  pub screened : Session
  pub spelled : IsInput screening.side bytes (session_of session)
  pub changed : HasScreenedMask (screen_terms screening) session screened
  pub written : text ≡ session_text (session_of screened)
