-- A session that is put together of its parts, and a scene on settings.
use Rattle.std.specs.Prelude.{◌≡◌}
use Rattle.edge_weights.specs.declared.parts.SessionParts.{SessionParts}
use Rattle.edge_weights.specs.declared.settings.SceneSettings.{SceneSettings}
use Rattle.raster_model.specs.declared.scene.Scene.{Scene}
use Rattle.raster_model.specs.declared.session.Session.{Session}
use Rattle.raster_model.specs.MaskView.{MaskView}

-- the scene has tiles of the side, the rule and the terms that are set
pub record HasSettings (settings : SceneSettings) (scene : Scene) : Type 0 where
  pub side : scene.tiling.side ≡ settings.side
  pub rule : scene.rule ≡ settings.rule
  pub terms : scene.terms ≡ settings.terms

-- the session has the planes, the tiles and the scripts of these parts, this mask, and the rule and the terms that are set
pub record IsPutTogether (parts : SessionParts) (settings : SceneSettings) (first_mask : MaskView) (session : Session) : Type 0 where
  pub phase : session.scene.phase ≡ parts.phase
  pub weights : session.scene.weights ≡ parts.weights
  pub tiling : session.scene.tiling ≡ parts.tiling
  pub rule : session.scene.rule ≡ settings.rule
  pub terms : session.scene.terms ≡ settings.terms
  pub mask : session.first_mask ≡ first_mask
  pub scripts : session.scripts ≡ parts.scripts
