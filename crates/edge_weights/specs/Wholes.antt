-- Scenes and sessions without tiles.
use Rattle.std.specs.Prelude.{◌≡◌}
use Rattle.edge_weights.specs.declared.whole.WholeParts.{WholeParts}
use Rattle.edge_weights.specs.declared.whole.WholeScene.{WholeScene}
use Rattle.edge_weights.specs.declared.whole.WholeSession.{WholeSession}
use Rattle.raster_model.specs.MaskView.{MaskView}
use Rattle.raster_model.specs.declared.sheet.Sheet.{Sheet}
use Rattle.raster_model.specs.declared.terms.Terms.{Terms}
use Rattle.raster_model.specs.declared.weights.RuleKind.{RuleKind}

-- the sheet has the parts of the scene
pub record IsSheetOfWhole (scene : WholeScene) (sheet : Sheet) : Type 0 where
  pub phase : sheet.phase.now ≡ scene.phase
  pub weights : sheet.weights.now ≡ scene.weights
  pub rule : sheet.rule ≡ scene.rule
  pub edges : sheet.edges.now ≡ scene.edges
  pub terms : sheet.terms ≡ scene.terms

-- the session has the planes and the scripts of these parts, this mask, this rule and these terms
pub record IsWholeOf (parts : WholeParts) (rule : RuleKind) (terms : Terms) (first_mask : MaskView) (session : WholeSession) : Type 0 where
  pub phase : session.scene.phase ≡ parts.phase
  pub weights : session.scene.weights ≡ parts.weights
  pub rule_is : session.scene.rule ≡ rule
  pub terms_are : session.scene.terms ≡ terms
  pub mask : session.first_mask ≡ first_mask
  pub scripts : session.scripts ≡ parts.scripts
