-- The text of a report, in the one spelling of this project.
use Rattle.std.specs.Prelude.{ℕ, ◌+◌, ◌-◌, ◌*◌, ◌/◌, ◌==◌, ℤ, if◌then◌else◌, List, [], ◌++◌, Option, Some, None, codes, flat_map}
use Rattle.raster_model.specs.declared.script.Edit.TheVariants.{Mask, Unmask}
use Rattle.grid_writer.specs.Grid.{grid_text}
use Rattle.text_lines.specs.Numbers.{numbers_text}
use Rattle.tile_board.specs.declared.entry.Entry.{Entry}
use Rattle.tile_board.specs.declared.entry.Entry.TheVariants.{Revised, Kept, Published, Settled, Shown}
use Rattle.text_lines.specs.Text.{field_text, rect_text, texts_below}
use Rattle.report_text.specs.Reports.{ItemOf, ReportOf, SurfaceOf}
use Rattle.text_parts.specs.Terms.{TermsOf}
use Rattle.text_parts.specs.Text.{line_end, size_line, rule_line, ramp_line, steep_line, ended_line}

-- ---- lines, each without its end

-- the lines of the head
abbrev pub version_line : ℕ → List ℕ
version_line version = codes "insar-report" ++ field_text version

abbrev pub tile_line : ℕ → List ℕ
tile_line side = codes "tile" ++ field_text side

-- an entry's words
abbrev pub revision_text : Option ℕ → List ℕ
revision_text (Some revision) = field_text revision
revision_text None = codes " none"

abbrev pub entry_text : Entry → List ℕ
entry_text (Revised analyst (Mask rect)) = codes "revised" ++ (field_text analyst ++ (codes " mask" ++ rect_text rect))
entry_text (Revised analyst (Unmask rect)) = codes "revised" ++ (field_text analyst ++ (codes " unmask" ++ rect_text rect))
entry_text (Kept tile stamp) = codes "kept" ++ (field_text tile ++ field_text stamp)
entry_text (Published analyst revision) = codes "published" ++ (field_text analyst ++ field_text revision)
entry_text (Settled analyst revision) = codes "settled" ++ (field_text analyst ++ field_text revision)
entry_text (Shown analyst revision) = codes "shown" ++ (field_text analyst ++ revision_text revision)

-- the line of an entry; without one, the last line
abbrev pub history_line : Option Entry → List ℕ
history_line (Some entry) = entry_text entry
history_line None = codes "end"

-- the costs of a surface: of all tiles, and at the seams
abbrev pub costs_line : ℕ × ℕ → List ℕ
costs_line costs = codes "costs" ++ (field_text costs.0 ++ field_text costs.1)

-- what stands before the faces of a tile, and their line; the line of the flows
abbrev pub faces_front : ℕ → List ℕ
faces_front tile = codes "faces" ++ field_text tile

abbrev pub faces_line : ℕ → List ℤ → List ℕ
faces_line tile faces = faces_front tile ++ numbers_text faces

abbrev pub flows_line : List ℤ → List ℕ
flows_line flows = codes "flows" ++ numbers_text flows

-- ---- texts of whole lines

-- the lines of faces of the tiles below a number
abbrev pub faces_text : (ℕ → List ℤ) → ℕ → List ℕ
faces_text faces tile = faces_line tile (faces tile) ++ line_end

abbrev pub all_faces_text : ℕ → (ℕ → List ℤ) → List ℕ
all_faces_text tiles faces = texts_below tiles (faces_text faces)

-- how many tiles of this side cover a raster, and the raster of a report
abbrev pub tiles_by : ℕ → ℕ → ℕ → ℕ
tiles_by width height side = ((height + side - 1) / side) * ((width + side - 1) / side)

abbrev pub tiles_in : ReportOf → ℕ
tiles_in report = tiles_by report.width report.height report.side

unfoldable pub surface_block_text : ℕ → ℕ → ℕ → SurfaceOf → List ℕ
surface_block_text width height tiles surface = ended_line costs_line (surface.tile_cost, surface.seam_cost) ++ (grid_text width height surface.values ++ (all_faces_text tiles surface.faces ++ ended_line flows_line surface.flows))

-- an entry's line, and after it the lines of its surface, if any
abbrev pub after_text : ℕ → ℕ → ℕ → Option SurfaceOf → List ℕ
after_text width height tiles (Some k) = surface_block_text width height tiles k
after_text width height tiles None = []

unfoldable pub item_text : ℕ → ℕ → ℕ → ItemOf → List ℕ
item_text width height tiles i = entry_text i.entry ++ (line_end ++ after_text width height tiles i.surface)

-- the lines of the terms, which version 1 does not have
abbrev pub terms_text : ℕ → TermsOf → List ℕ
terms_text version terms = if version == 1 then [] else (ended_line ramp_line (terms.ramp_x, terms.ramp_y) ++ ended_line steep_line terms.steep)

-- the head, the items, and the line `end`
abbrev pub head_text : ReportOf → List ℕ
head_text report = ended_line version_line report.version ++ (ended_line size_line (report.width, report.height) ++ (ended_line tile_line report.side ++ (ended_line rule_line report.rule ++ terms_text report.version report.terms)))

unfoldable pub report_text : ReportOf → List ℕ
report_text report = head_text report ++ (flat_map (item_text report.width report.height (tiles_in report)) report.items ++ codes "end\n")
