-- A report that was read, as its text tells it.
use Rattle.std.specs.Prelude.{◌≡◌, ℕ, ◌<◌, ℤ, IsTrue, List, [], map, slice_index_or, Option, Some, None, ⊤}
use Rattle.std.specs.List.{AllByRecursion}
use Rattle.std.specs.Global.{Vec, Box}
use Rattle.raster_model.specs.Limits.{is_tiled_size, IsTileSide}
use Rattle.raster_model.specs.declared.script.Edit.TheVariants.{Mask, Unmask}
use Rattle.text_lines.specs.Forms.{Form}
use Rattle.grid_writer.specs.Grids.{AreLong, value_at}
use Rattle.text_lines.specs.Numbers.{AreLongs}
use Rattle.text_lines.specs.Parsing.{IsRectOfWords, IsWide, IsWord}
use Rattle.tile_board.specs.declared.entry.Entry.{Entry}
use Rattle.tile_board.specs.declared.entry.Entry.TheVariants.{Revised, Kept, Published, Settled, Shown}
use Rattle.report_text.specs.declared.items.Item.{Item}
use Rattle.report_text.specs.declared.contents.Report.{Report}
use Rattle.report_text.specs.declared.items.ReportSurface.{ReportSurface}
use Rattle.report_text.specs.Reports.{HasSurface, ItemOf, ReportOf, SurfaceOf}
use Rattle.report_text.specs.Terms.{AreTermsIn, IsVersion}
use Rattle.text_parts.specs.Terms.{terms_of}
use Rattle.report_text.specs.Text.{report_text, tiles_in}

-- what the items tell
abbrev pub lists_of : List (Vec ℤ) → ℕ → List ℤ
lists_of lists tile = slice_index_or (map (λ list. list.items) lists) tile []

abbrev pub told_surface : ReportSurface → SurfaceOf
told_surface k = record { tile_cost = k.tile_cost; seam_cost = k.seam_cost; values = value_at k.grid.width k.grid.values.items; faces = lists_of k.faces.items; flows = k.flows.items }

abbrev pub told_after : Option (Box ReportSurface) → Option SurfaceOf
told_after None = None
told_after (Some k) = Some (told_surface k.value)

abbrev pub told_item : Item → ItemOf
told_item i = record { entry = i.entry; surface = told_after i.surface }

abbrev pub report_told : Report → ReportOf
report_told report = record { version = report.version; width = report.width; height = report.height; side = report.side; rule = report.rule; terms = terms_of report.terms; items = map told_item report.items.items }

-- ---- the numbers of a report are in their ranges

abbrev pub MayBeWord : Option ℕ → Type 0
MayBeWord None = ⊤
MayBeWord (Some n) = IsWord n

abbrev pub IsEntryOfWords : Entry → Type 0
IsEntryOfWords (Revised analyst (Mask rect)) = IsWord analyst × IsRectOfWords rect
IsEntryOfWords (Revised analyst (Unmask rect)) = IsWord analyst × IsRectOfWords rect
IsEntryOfWords (Kept tile stamp) = IsWord tile × IsWord stamp
IsEntryOfWords (Published analyst revision) = IsWord analyst × IsWord revision
IsEntryOfWords (Settled analyst revision) = IsWord analyst × IsWord revision
IsEntryOfWords (Shown analyst revision) = IsWord analyst × MayBeWord revision

pub record IsSurfaceInRange (width height tiles : ℕ) (k : SurfaceOf) : Type 0 where
  pub tile_cost : IsWide k.tile_cost
  pub seam_cost : IsWide k.seam_cost
  pub values : AreLong width height k.values
  pub faces : (t : ℕ) → t < tiles → AreLongs (k.faces t)
  pub flows : AreLongs k.flows

abbrev pub MayBeInRange : ℕ → ℕ → ℕ → Option SurfaceOf → Type 0
MayBeInRange width height tiles None = ⊤
MayBeInRange width height tiles (Some k) = IsSurfaceInRange width height tiles k

pub record IsItemInRange (width height tiles : ℕ) (i : ItemOf) : Type 0 where
  pub entry : IsEntryOfWords i.entry
  pub published : HasSurface i.entry i.surface
  pub surface : MayBeInRange width height tiles i.surface

pub record IsReport (report : ReportOf) : Type 0 where
  pub versioned : IsVersion report.version
  pub sized : IsTrue (is_tiled_size report.width report.height)
  pub sides : IsTileSide report.side
  pub terms : AreTermsIn report.version report.terms
  pub items : AllByRecursion (IsItemInRange report.width report.height (tiles_in report)) report.items

-- the text of a report
abbrev pub IsReportText : Form
IsReportText text = (report : ReportOf) × (IsReport report × (text ≡ report_text report))
