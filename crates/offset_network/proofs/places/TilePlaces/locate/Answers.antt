use Rattle.raster_model.specs.Tiles.{columns_of_tiles}
use Rattle.offset_network.proofs.TilePlaces.{place_read, spot_is}
use Rattle.offset_network.proofs.places.TilePlaces.locate.Goals as goal

pub returns : goal.returns
returns c =
    let k = c.args.self.now in
    let g = k.tiling in
    let column = place_read g.width g.side 1 g.width c.args.x k.columns.items c.index-column.result.now k.across c.requires.across c.index-column.ensures in
    let row = place_read g.height g.side (columns_of_tiles g) g.height c.args.y k.rows.items c.index-row.result.now k.along c.requires.along c.index-row.ensures in
    spot_is g c.args.x c.args.y c.requires.across c.requires.along c.index-column.result.now c.index-row.result.now column row
