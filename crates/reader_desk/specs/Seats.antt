-- Which shelf a seat names. No clause of a public function cites this file.
use Rattle.std.specs.Prelude.{◌≡◌, Option, Some}
use Rattle.logbook.specs.Pages.{Book}
use Rattle.reader_desk.specs.Fronts.{ShelfView}

-- the view names this shelf
pub record NamesShelf (shelf : Book) (view : Option ShelfView) : Type 0 where
  pub front : ShelfView
  pub is : view ≡ Some front
  pub same : front.shelf ≡ shelf
