-- What contracts see of a seat at the desk's table. No clause of a public function cites this file.
use Rattle.std.specs.Prelude.{◌≡◌, Bool, length}
use Rattle.atomic_table.specs.Seated.{TableId}
use Rattle.tile_board.specs.Histories.{newest_of}
use Rattle.board_desk.specs.declared.pass.Heard.{Heard}
use Rattle.board_desk.specs.Passes.{PassView}
use Rattle.board_desk.specs.Rules.{Place}

abbrev pub pass_view : TableId → Place → Bool → PassView
pass_view table place ended = record { table = table; session = place.0.session; analyst = place.0.own.analyst; seen = place.0.own.seen; mine = place.0.own.mine; ended = ended }

-- what a pass remembers of what it has seen: how long it is, its newest publication, and how much was added in the analyst's name
pub record IsHeard (pass : PassView) (h : Heard) : Type 0 where
  pub front : length pass.seen ≡ h.front
  pub newest : newest_of pass.seen ≡ h.newest
  pub done : length pass.mine ≡ h.done
