-- A report: the whole history of a session, and each published surface with its costs and certificates.
use Rattle.std.specs.Prelude.{◌≡◌, ◌↔◌, ℕ, ℤ, Bool, true, false, if◌then◌else◌, List, [], ◌∷◌, drop, Option, Some, None, is_some, unsigned_abs}
use Rattle.raster_model.specs.declared.session.Session.{Session}
use Rattle.raster_model.specs.declared.weights.RuleKind.{RuleKind}
use Rattle.raster_model.specs.Raster.{seam_cost}
use Rattle.raster_model.specs.Sums.{Field}
use Rattle.surface_snapshots.specs.Parts.{Parts, faces_in, flows_in, open_in, raster_in, surface_in, tile_costs}
use Rattle.grid_writer.specs.Shown.{shown_in}
use Rattle.tile_board.specs.declared.entry.Entry.{Entry}
use Rattle.tile_board.specs.declared.entry.Entry.TheVariants.{Revised, Kept, Published, Settled, Shown}
use Rattle.sums_and_lists.specs.Sums.{one_if}
use Rattle.text_parts.specs.Terms.{TermsOf, terms_of}
use Rattle.report_text.specs.Terms.{plain_terms, version_on}

-- a surface as a report gives it: its two costs, the values of its grid, the faces of each tile, and the flows
pub record SurfaceOf : Type 0 where
  pub tile_cost : ℕ
  pub seam_cost : ℕ
  pub values : Field ℤ
  pub faces : ℕ → List ℤ
  pub flows : List ℤ

-- an entry, and the surface after it, if any
pub record ItemOf : Type 0 where
  pub entry : Entry
  pub surface : Option SurfaceOf

pub record ReportOf : Type 0 where
  pub version : ℕ
  pub width : ℕ
  pub height : ℕ
  pub side : ℕ
  pub rule : RuleKind
  pub terms : TermsOf
  pub items : List ItemOf

-- a report has version 1 exactly where its terms are the plain ones
abbrev pub HasItsVersion : ReportOf → Type 0
HasItsVersion report = (report.version ≡ 1) ↔ (report.terms ≡ plain_terms)

-- the surface of a snapshot's parts
abbrev pub surface_of : Parts → SurfaceOf
surface_of parts = record { tile_cost = unsigned_abs (tile_costs (raster_in parts) (open_in parts) (surface_in parts)); seam_cost = unsigned_abs (seam_cost (raster_in parts) (open_in parts) (surface_in parts)); values = shown_in parts; faces = faces_in parts; flows = flows_in parts }

-- whether an entry is a publication
abbrev pub is_published : Entry → Bool
is_published (Revised analyst edit) = false
is_published (Kept tile stamp) = false
is_published (Published analyst revision) = true
is_published (Settled analyst revision) = false
is_published (Shown analyst revision) = false

-- a surface is there exactly after a publication
abbrev pub HasSurface : {A : Type 0} → Entry → Option A → Type 0
HasSurface e surface = is_some surface ≡ is_published e

-- the first of some surfaces, where there is one
abbrev pub first_of : List Parts → Option SurfaceOf
first_of [] = None
first_of (p ∷ ps) = Some (surface_of p)

-- an entry with the surface after it, which only a publication has
abbrev pub item_of : Entry → Option SurfaceOf → ItemOf
item_of e surface = record { entry = e; surface = if is_published e then surface else None }

-- the entries of a history, and after each publication the next of the published surfaces
unfoldable pub items_of : List Entry → List Parts → List ItemOf
items_of [] ps = []
items_of (e ∷ es) ps = item_of e (first_of ps) ∷ items_of es (drop (one_if (is_published e)) ps)

-- the report of a session with this history and these published surfaces
abbrev pub report_of : Session → List Entry → List Parts → ReportOf
report_of session entries surfaces = record { version = version_on (terms_of session.scene.terms); width = session.scene.phase.width; height = session.scene.phase.height; side = session.scene.tiling.side; rule = session.scene.rule; terms = terms_of session.scene.terms; items = items_of entries surfaces }
