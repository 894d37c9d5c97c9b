-- A desk whose analysts are done.
use Rattle.std.specs.Prelude.{◌≡◌, List, All, length}
use Rattle.board_desk.specs.Passes.{DeskView, HaveAnalysts, IsPassOf, PassView, first_passes}
use Rattle.tile_workers.specs.Scripts.{AreEnded, AreLater}

-- the first passes of a desk
abbrev pub passes_at_start : DeskView → List PassView
passes_at_start desk = first_passes desk (length desk.session.scripts.items)

-- they are those passes
pub record AreFirst (desk : DeskView) (passes : List PassView) : Type 0 where
  pub first : passes ≡ passes_at_start desk
  pub own : All (IsPassOf desk) passes
  pub analysts : HaveAnalysts passes

-- they are the passes of the desk's analysts, later, each at the end of its script
pub record HaveRun (desk : DeskView) (passes : List PassView) : Type 0 where
  pub own : All (IsPassOf desk) passes
  pub count : length passes ≡ length (passes_at_start desk)
  pub later : AreLater (passes_at_start desk) passes
  pub ended : AreEnded passes
