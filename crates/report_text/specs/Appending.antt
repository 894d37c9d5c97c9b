-- Which numbers a text was made of: words of the functions that add pieces of lines.
use Rattle.std.specs.Borrow.{Bor}
use Rattle.std.specs.List.{AllByRecursion}
use Rattle.std.specs.Prelude.{◌≡◌, ℕ, List, Option, Some, None, slice_get}
use Rattle.raster_model.specs.declared.session.Session.{Session}
use Rattle.surface_snapshots.specs.declared.snapshot.Snapshot.{Snapshot}
use Rattle.surface_snapshots.specs.Views.{parts_of}
use Rattle.report_text.specs.Contents.{IsEntryOfWords, MayBeInRange}
use Rattle.report_text.specs.Reports.{ItemOf, SurfaceOf, surface_of}

-- the snapshots are of surfaces of a session
abbrev pub AreOver : Session → List Snapshot → Type 0
AreOver session snapshots = (k : ℕ) (snapshot : Snapshot) → slice_get snapshots k ≡ Some snapshot → (parts_of snapshot).session ≡ session

-- the surface of a snapshot that may be there
abbrev pub next_surface : Option (Bor Snapshot) → Option SurfaceOf
next_surface (Some n) = Some (surface_of (parts_of n.now))
next_surface None = None

-- the numbers of an entry and of the surface after it are in their ranges; so are those of all items
pub record IsSmallItem (width height tiles : ℕ) (i : ItemOf) : Type 0 where
  pub entry : IsEntryOfWords i.entry
  pub surface : MayBeInRange width height tiles i.surface

abbrev pub AreSmallItems : ℕ → ℕ → ℕ → List ItemOf → Type 0
AreSmallItems width height tiles items = AllByRecursion (IsSmallItem width height tiles) items
