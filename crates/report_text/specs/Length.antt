-- How long the text of a certified report can be, and how many results its history can keep.
use Rattle.std.specs.Prelude.{◌+◌, ◌*◌, ◌^◌, ◌≤◌, ◌<◌, Bool, true, false, List, length, count_by}
use Rattle.raster_model.specs.declared.session.Session.{Session}
use Rattle.raster_model.specs.Limits.{max_report_bytes}
use Rattle.raster_model.specs.Tiles.{tiles_of}
use Rattle.tile_board.specs.declared.entry.Entry.{Entry}
use Rattle.tile_board.specs.declared.entry.Entry.TheVariants.{Revised, Kept, Published, Settled, Shown}
use Rattle.tile_board.specs.Histories.{IsLegal}
use Rattle.report_text.specs.Certified.{IsCertifiedReport}
use Rattle.report_text.specs.Contents.{IsReport}
use Rattle.report_text.specs.Reports.{ReportOf}
use Rattle.report_text.specs.Text.{report_text}

-- whether an entry keeps a tile's result, and whether it changes the mask
abbrev pub keeps_result : Entry → Bool
keeps_result (Revised analyst edit) = false
keeps_result (Kept tile stamp) = true
keeps_result (Published analyst revision) = false
keeps_result (Settled analyst revision) = false
keeps_result (Shown analyst revision) = false

abbrev pub is_revised : Entry → Bool
is_revised (Revised analyst edit) = true
is_revised (Kept tile stamp) = false
is_revised (Published analyst revision) = false
is_revised (Settled analyst revision) = false
is_revised (Shown analyst revision) = false

-- a legal history keeps a result of each tile once, and after each change of the mask at most once more
abbrev pub LegalHistoriesKeepFew : Type 0
LegalHistoriesKeepFew = (session : Session) (H : List Entry) → IsLegal session H → count_by keeps_result H ≤ tiles_of session.scene.tiling * (1 + count_by is_revised H)

-- no certified report is longer than a check reads
abbrev pub CertifiedReportsAreShort : Type 0
CertifiedReportsAreShort = (session : Session) (report : ReportOf) → session.scene.weights.maxval < 2 ^ 16 → IsReport report → IsCertifiedReport session report → length (report_text report) ≤ max_report_bytes
