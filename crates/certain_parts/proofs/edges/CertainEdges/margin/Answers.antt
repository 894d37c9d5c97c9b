use Rattle.std.proofs.Common.{◌≡◌, ◌∙◌, arith, w64}
use Rattle.std.proofs.lemmas.Nat.{mul-le}
use Rattle.std.proofs.lemmas.Int.{to_z-of_z}
use Rattle.raster_model.specs.Masks.{open_at}
use Rattle.raster_model.specs.Raster.{masked_weight}
use Rattle.raster_model.specs.Sheets.{sheet_raster}
use Rattle.certain_parts.specs.Faces.{faced_by}
use Rattle.certain_parts.proofs.Excesses.{step_fits}
use Rattle.certain_parts.proofs.MarginLemmas.{certified_by, margin_told, open_weight}
use Rattle.certain_parts.proofs.edges.CertainEdges.margin.Goals as goal

pub step-requires : goal.step-requires
step-requires g c =
    let s = c.args.self.now.sheet.now in
    let r = sheet_raster s in
    let mask = open_at c.args.self.now.mask.now in
    let cycles = g.H.Heights.cycles_at c.args.self.now.heights.now in
    let faces = c.args.self.now.faces.now in
    let fits = step_fits (faced_by r mask cycles faces) (certified_by r mask cycles faces c.args.self.now.certified) c.args.edge c.requires.is_edge in
    let weight = open_weight r mask c.args.edge c.requires.unmasked in
    omega (arith, fits, weight, mul-le s.terms.steep (masked_weight r mask c.args.edge) 16 65535 s.terms.steepness.1 (omega (arith, weight, c.stored_weight-weight.ensures, c.stored_weight-weight.type_inv)))

pub margin_of-requires : goal.margin_of-requires
margin_of-requires g c =
    let s = c.args.self.now.sheet.now in
    let r = sheet_raster s in
    let mask = open_at c.args.self.now.mask.now in
    let cycles = g.H.Heights.cycles_at c.args.self.now.heights.now in
    let faces = c.args.self.now.faces.now in
    let fits = step_fits (faced_by r mask cycles faces) (certified_by r mask cycles faces c.args.self.now.certified) c.args.edge c.requires.is_edge in
    let weight : c.stored_weight-weight.result ≡ masked_weight r mask c.args.edge = rw (open_weight r mask c.args.edge c.requires.unmasked) c.stored_weight-weight.ensures in
    let stepped = to_z-of_z w64 c.step.result (record { sfits = c.step.type_inv }) in
    record {
      steepness = s.terms.steepness;
      step = rw (stepped, c.step.ensures, weight) fits;
    }

pub returns : goal.returns
returns g c =
    let s = c.args.self.now.sheet.now in
    let r = sheet_raster s in
    let mask = open_at c.args.self.now.mask.now in
    let cycles = g.H.Heights.cycles_at c.args.self.now.heights.now in
    let faces = c.args.self.now.faces.now in
    let weight : c.stored_weight-weight.result ≡ masked_weight r mask c.args.edge = rw (open_weight r mask c.args.edge c.requires.unmasked) c.stored_weight-weight.ensures in
    let stepped = to_z-of_z w64 c.step.result (record { sfits = c.step.type_inv }) in
    to_z-of_z w64 c.margin_of.result (record { sfits = c.margin_of.type_inv })
    ∙ margin_told (faced_by r mask cycles faces) (certified_by r mask cycles faces c.args.self.now.certified) s.terms.steepness.0 c.args.edge c.requires.is_edge c.requires.unmasked c.margin_of.result
    (rw (stepped, c.step.ensures, weight) at c.margin_of.ensures.within)
    (rw (stepped, c.step.ensures, weight) at c.margin_of.ensures.beyond)
