-- A session whose terms are changed.
use Rattle.std.specs.Prelude.{◌≡◌}
use Rattle.raster_model.specs.declared.session.Session.{Session}
use Rattle.raster_model.specs.declared.terms.Terms.{Terms}

-- the new session has these terms, and all else as the old one has it
pub record HasNewTerms (old : Session) (t : Terms) (new : Session) : Type 0 where
  pub terms : new.scene.terms ≡ t
  pub phase : new.scene.phase ≡ old.scene.phase
  pub weights : new.scene.weights ≡ old.scene.weights
  pub rule : new.scene.rule ≡ old.scene.rule
  pub edges : new.scene.edges ≡ old.scene.edges
  pub tiling : new.scene.tiling ≡ old.scene.tiling
  pub first_mask : new.first_mask ≡ old.first_mask
  pub scripts : new.scripts ≡ old.scripts
