use Rattle.std.proofs.Common.{sym}
use Rattle.text_lines.proofs.SeqLemmas.{after_then}
use Rattle.report_text.proofs.PartForms.{certificates_part, costs_after, costs_first, faces_part, flows_kind, surface_is}
use Rattle.text_parts.proofs.PartForms.{grid_part}
use Rattle.text_parts.proofs.ReadsLemmas.{line_part, reads_ok, took, took_then, turn_after, turn_first, reads_first, reads_second, reads_within}
use Rattle.report_text.proofs.read.read_surface.Goals as goal

pub returns-in_err-tile_cost-clause-read : goal.returns-in_err-tile_cost-clause-read
returns-in_err-tile_cost-clause-read g c =
    let h = c.args.head in
    reads_first c.from_residual.result c.from_residual.ensures.1 (costs_first h.width h.height h.sized h.tiles h.few) c.in_err-tile_cost.ensures

pub returns-in_err-grid-clause-read : goal.returns-in_err-grid-clause-read
returns-in_err-grid-clause-read g c =
    let h = c.args.head in
    let a = c.in_ok-tile_cost.ensures in
    reads_within c.from_residual-in_err-grid.result c.from_residual-in_err-grid.ensures.1 (costs_after h.width h.height h.sized h.tiles h.few _ a.read.0) (turn_first (grid_part h.width h.height h.sized) (certificates_part h.tiles h.few)) (took a) c.in_err-grid.ensures.read

pub returns-in_err-faces-clause-read : goal.returns-in_err-faces-clause-read
returns-in_err-faces-clause-read g c =
    let h = c.args.head in
    let a = c.in_ok-tile_cost.ensures in
    let b = c.in_ok-grid.ensures.read in
    let after = after_then _ _ _ _ _ (costs_after h.width h.height h.sized h.tiles h.few _ a.read.0) (turn_after (grid_part h.width h.height h.sized) (certificates_part h.tiles h.few) _ b.read.0) in
    reads_within c.from_residual-in_err-faces.result c.from_residual-in_err-faces.ensures.1 after (turn_first (faces_part h.tiles h.few) (line_part flows_kind)) (took_then (took a) (took b)) c.in_err-faces.ensures.read

pub returns-in_err-flows-clause-read : goal.returns-in_err-flows-clause-read
returns-in_err-flows-clause-read g c =
    let h = c.args.head in
    let a = c.in_ok-tile_cost.ensures in
    let b = c.in_ok-grid.ensures.read in
    let d = c.in_ok-faces.ensures.read in
    let after = after_then _ _ _ _ _ (costs_after h.width h.height h.sized h.tiles h.few _ a.read.0) (turn_after (grid_part h.width h.height h.sized) (certificates_part h.tiles h.few) _ b.read.0) in
    reads_second c.from_residual-in_err-flows.result c.from_residual-in_err-flows.ensures.1 (after_then _ _ _ _ _ after (turn_after (faces_part h.tiles h.few) (line_part flows_kind) _ d.read.0)) (took_then (took_then (took a) (took b)) (took d)) c.in_err-flows.ensures

pub returns-clause-read : goal.returns-clause-read
returns-clause-read g c =
    let a = c.in_ok-tile_cost.ensures in
    let b = c.in_ok-grid.ensures.read in
    let d = c.in_ok-faces.ensures.read in
    let e = c.in_ok-flows.ensures in
    reads_ok (took_then (took a) (took_then (took b) (took_then (took d) (took e)))) (record { tile_cost = a.read.0.0; seam_cost = a.read.0.1; values = b.read.0; faces = d.read.0; flows = e.read.0 }) (sym (surface_is c.args.head.width c.args.head.height c.args.head.tiles _))
