use Rattle.raster_model.specs.Raster.{departure}
use Rattle.raster_model.specs.Sums.{down_edge, right_edge}
use Rattle.certificates.specs.TileWords.{held_raster, surface_of_cycles}
use Rattle.certificates.proofs.CostLemmas.{lower_asks, right_asks}
use Rattle.certificates.proofs.FreeRows.{free_edge, free_pixel, no_departure, tells_it}
use Rattle.certificates.proofs.tile.Tile.follows_at.Goals as goal

pub departure-right-requires : goal.departure-right-requires
departure-right-requires g c =
    let k = c.args.self.now in
    let l = c.requires.inside.0 in
    let a = right_asks k (g.H.Heights.knows c.args.heights.now) c.requires.known c.args.x c.args.y c.requires.within l in
    let n = a.1 (c.requires.unmasked.0 l) in
    record { is_edge = a.0; start = n.0; end = n.1 }

pub departure-lower-requires : goal.departure-lower-requires
departure-lower-requires g c =
    let k = c.args.self.now in
    let l = c.requires.inside.1 in
    let a = lower_asks k (g.H.Heights.knows c.args.heights.now) c.requires.known c.args.x c.args.y c.requires.within l in
    let n = a.1 (c.requires.unmasked.1 l) in
    record { is_edge = a.0; start = n.0; end = n.1 }

pub returns-then-right-eq0 : goal.returns-then-right-eq0
returns-then-right-eq0 g c = λ t.
    (let k = c.args.self.now in
    let cycles = g.H.Heights.cycles_at c.args.heights.now in
    let S = surface_of_cycles k cycles in
    let right = right_edge c.args.x c.args.y in
    let lower = down_edge c.args.x c.args.y in
    free_pixel k cycles c.args.x c.args.y c.requires.within
    (λ _. free_edge k cycles right (no_departure c.departure-right.result (departure (held_raster k) S right) (record { sfits = c.departure-right.type_inv }) c.departure-right.ensures.value c.if-right-eq0.true))
    (λ _. free_edge k cycles lower (no_departure c.departure-lower.result (departure (held_raster k) S lower) (record { sfits = c.departure-lower.type_inv }) c.departure-lower.ensures.value (tells_it _ t))))
