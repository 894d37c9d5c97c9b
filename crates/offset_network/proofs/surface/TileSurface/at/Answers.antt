use Rattle.std.proofs.Common.{◌∙◌, subst, refl, arith, length}
use Rattle.std.specs.Prelude.{pos}
use Rattle.std.proofs.lemmas.List.{get_or_read_under}
use Rattle.raster_model.specs.declared.tiling.Tiling.{Tiling}
use Rattle.raster_model.specs.Masks.{open_at}
use Rattle.offset_network.specs.Places.{IsSpotOf}
use Rattle.offset_network.proofs.SurfaceLemmas.{open_tells, place_below, cycles_are, cycles_fit, cycles_small}
use Rattle.offset_network.proofs.surface.TileSurface.at.Goals as goal

pub index-requires : goal.index-requires
index-requires c =
    let k = c.args.self.now in
    let s = k.scene.now in
    let spot = c.locate-spot.result in
    let tile = c.tile.result in
    let o = open_tells s.phase.width s.phase.height c.args.x c.args.y (open_at k.mask.now c.args.x c.args.y) c.requires in
    let is = subst (λ (g : Tiling). IsSpotOf g c.args.x c.args.y spot) k.same_tiling c.locate-spot.ensures in
    let below = place_below s (open_at k.mask.now) k.tiles.now k.good c.args.x c.args.y o.0 o.1 spot tile.now is c.tile.ensures.place c.tile.ensures.number in
    omega (arith, below, c.place.ensures, tile.now.cycles.ok.0)

pub returns-clause-value : goal.returns-clause-value
returns-clause-value c =
    let k = c.args.self.now in
    let s = k.scene.now in
    let spot = c.locate-spot.result in
    let tile = c.tile.result in
    let o = open_tells s.phase.width s.phase.height c.args.x c.args.y (open_at k.mask.now c.args.x c.args.y) c.requires in
    let is = subst (λ (g : Tiling). IsSpotOf g c.args.x c.args.y spot) k.same_tiling c.locate-spot.ensures in
    let read = get_or_read_under tile.now.cycles.items _ (length tile.now.cycles.items) c.index.result.now (pos 0) (rw c.place.ensures at c.index.ensures) (place_below s (open_at k.mask.now) k.tiles.now k.good c.args.x c.args.y o.0 o.1 spot tile.now is c.tile.ensures.place c.tile.ensures.number) refl in
    cycles_fit _ _ read (cycles_small s (open_at k.mask.now) k.tiles.now k.good c.args.x c.args.y o.0 o.1 spot tile.now is c.tile.ensures.place c.tile.ensures.number o.2) ∙ cycles_are s (open_at k.mask.now) k.tiles.now k.good c.args.x c.args.y o.0 o.1 spot tile.now is c.tile.ensures.place c.tile.ensures.number

pub returns-clause-small : goal.returns-clause-small
returns-clause-small c =
    let k = c.args.self.now in
    let s = k.scene.now in
    let spot = c.locate-spot.result in
    let tile = c.tile.result in
    let o = open_tells s.phase.width s.phase.height c.args.x c.args.y (open_at k.mask.now c.args.x c.args.y) c.requires in
    let is = subst (λ (g : Tiling). IsSpotOf g c.args.x c.args.y spot) k.same_tiling c.locate-spot.ensures in
    let read = get_or_read_under tile.now.cycles.items _ (length tile.now.cycles.items) c.index.result.now (pos 0) (rw c.place.ensures at c.index.ensures) (place_below s (open_at k.mask.now) k.tiles.now k.good c.args.x c.args.y o.0 o.1 spot tile.now is c.tile.ensures.place c.tile.ensures.number) refl in
    let small = cycles_small s (open_at k.mask.now) k.tiles.now k.good c.args.x c.args.y o.0 o.1 spot tile.now is c.tile.ensures.place c.tile.ensures.number o.2 in
    rw (cycles_fit _ _ read small) small
