-- A session on the options of words: their rule of weights, their side of tiles, and their terms: a ramp and the steepness of costs.
use Rattle.std.specs.Prelude.{◌≡◌}
use Rattle.insar_words.specs.Asked.{Options}
use Rattle.edge_weights.specs.declared.whole.WholeSession.{WholeSession}
use Rattle.raster_model.specs.declared.session.Session.{Session}

pub record HasOptions (options : Options) (session : Session) : Type 0 where
  pub rule : session.scene.rule ≡ options.rule
  pub side : session.scene.tiling.side ≡ options.side
  pub ramp_x : session.scene.terms.ramp_x ≡ options.ramp_x
  pub ramp_y : session.scene.terms.ramp_y ≡ options.ramp_y
  pub steepness : session.scene.terms.steep ≡ options.steep

-- a session without tiles on them: their side of tiles does not matter
pub record HasWholeOptions (options : Options) (session : WholeSession) : Type 0 where
  pub rule : session.scene.rule ≡ options.rule
  pub ramp_x : session.scene.terms.ramp_x ≡ options.ramp_x
  pub ramp_y : session.scene.terms.ramp_y ≡ options.ramp_y
  pub steepness : session.scene.terms.steep ≡ options.steep
