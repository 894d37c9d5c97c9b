-- What contracts see of a writer, a reader or a note: which shelf it is of, and the surfaces that were placed there, as far as it knows.
use Rattle.std.specs.Prelude.{◌≡◌, ◌⊎◌, ◌-◌, ℕ, List, Option, length, option_map, slice_get}
use Rattle.std.specs.List.{filter_map}
use mathlib.Core.List.{IsPrefix}
use Rattle.logbook.specs.Pages.{Book}
use Rattle.surface_snapshots.specs.Parts.{Parts}

pub record ShelfView : Type 0 where
  pub shelf : Book
  pub surfaces : List Parts

abbrev pub shelf_view : Book → List Parts → ShelfView
shelf_view shelf surfaces = record { shelf = shelf; surfaces = surfaces }

-- the surfaces of a list of entries, of which each is one
abbrev pub surfaces_in : List (Option Parts) → List Parts
surfaces_in log = filter_map (λ item. item) log

-- the last of a list; None if it is empty
abbrev pub last_of : {A : Type 0} → List A → Option A
last_of xs = slice_get xs (length xs - 1)

-- the revision of the last of these surfaces
abbrev pub last_revision : List Parts → Option ℕ
last_revision surfaces = option_map (λ p. p.seams.revision) (last_of surfaces)

-- both are beginnings of one list, and q has what p has
pub record HasAllOf (p q : ShelfView) : Type 0 where
  pub same : q.shelf ≡ p.shelf
  pub begins : IsPrefix p.surfaces q.surfaces

-- a reader was told: it knows the longer of both lists, which begins with the shorter one
pub record Learned (old note new : ShelfView) : Type 0 where
  pub one : (new ≡ old) ⊎ (new ≡ note)
  pub own : HasAllOf old new
  pub told : HasAllOf note new
