use Rattle.std.proofs.Common.{◌≡◌, refl, arith, pos}
use Rattle.std.proofs.lemmas.Result.{IfOk-weaker}
use Rattle.raster_model.specs.Cells.{IsCertifiedTile}
use Rattle.raster_model.specs.Masks.{open_at}
use Rattle.raster_model.specs.Raster.{lifted, tile_cost}
use Rattle.raster_model.specs.Sheets.{sheet_raster}
use Rattle.raster_model.specs.Whole.{IsCertifiedWhole, IsLeastOfAll, whole_cost, whole_of}
use Rattle.raster_model.proofs.Windows.{whole_window}
use Rattle.certificates.proofs.WholeLemmas.{checked_good, whole_checked, whole_least}
use Rattle.certificates.proofs.beside.check_whole_side_by_side.Goals as goal

pub invariant_of-tile : goal.invariant_of-tile
invariant_of-tile g c =
    let s = c.args.sheet.now in
    record { same_size = c.requires.same_size; pixels = whole_window (sheet_raster s) _ refl refl (omega (arith, s.phase.now.wide)) (omega (arith, s.phase.now.high)) }

pub check_beside-requires-clause-whole : goal.check_beside-requires-clause-whole
check_beside-requires-clause-whole g c κs within = (refl, omega (arith, c.args.sheet.now.phase.now.high))

pub check_beside-requires-clause-known : goal.check_beside-requires-clause-known
check_beside-requires-clause-known g c κs within x y l m e o = c.requires.known x y l m o

pub returns-clause-certified : goal.returns-clause-certified
returns-clause-certified g c =
    let r = sheet_raster c.args.sheet.now in
    let mask = open_at c.args.mask.now in
    let cycles = g.H.Heights.cycles_at c.args.heights.now in
    let faces = c.args.faces.now in
    IfOk-weaker c.check_beside.result (λ cost. IsCertifiedTile (whole_of r) mask 0 (lifted r cycles) faces × (pos cost ≡ tile_cost (whole_of r) mask 0 (lifted r cycles)))
    (λ cost. IsCertifiedWhole r mask (lifted r cycles) faces × (pos cost ≡ whole_cost r mask (lifted r cycles)))
    (whole_checked r mask cycles faces) c.check_beside.ensures.certified

pub returns-clause-least : goal.returns-clause-least
returns-clause-least g c =
    let r = sheet_raster c.args.sheet.now in
    let mask = open_at c.args.mask.now in
    let cycles = g.H.Heights.cycles_at c.args.heights.now in
    let faces = c.args.faces.now in
    IfOk-weaker c.check_beside.result (λ cost. IsCertifiedTile (whole_of r) mask 0 (lifted r cycles) faces × (pos cost ≡ tile_cost (whole_of r) mask 0 (lifted r cycles)))
    (λ cost. IsLeastOfAll r mask (lifted r cycles))
    (whole_least r mask cycles faces) c.check_beside.ensures.certified

pub returns-clause-refused : goal.returns-clause-refused
returns-clause-refused g c = c.check_beside.ensures.refused

pub returns-clause-good : goal.returns-clause-good
returns-clause-good g c =
    let r = sheet_raster c.args.sheet.now in
    let mask = open_at c.args.mask.now in
    let S = lifted r (g.H.Heights.cycles_at c.args.heights.now) in
    checked_good (whole_of r) mask 0 S c.args.faces.now (λ cost. pos cost ≡ tile_cost (whole_of r) mask 0 S) c.check_beside.result c.check_beside.ensures.certified c.check_beside.ensures.refused
