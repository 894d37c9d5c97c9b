use Rattle.std.proofs.Common.{◌∙◌, arith}
use Rattle.raster_model.specs.Scripts.{rect_of}
use Rattle.mask_revisions.proofs.MetTiles.{met_is, met_left, met_meets, met_top}
use Rattle.mask_revisions.proofs.changes.tile_met.Goals as goal

pub overflow_mul-row : goal.overflow_mul-row
overflow_mul-row c =
    let top = met_top c.args.tiling.now (rect_of c.args.edit) c.requires.rect c.args.place c.requires.place in
    rw (c.columns_met-across.ensures, c.rect_of-rect.ensures) (record { fits = omega (arith, top, c.args.tiling.now.high) })

pub tile_of-requires-clause-across : goal.tile_of-requires-clause-across
tile_of-requires-clause-across c = rw (c.columns_met-across.ensures, c.rect_of-rect.ensures) (met_left c.args.tiling.now (rect_of c.args.edit) c.requires.rect c.args.place)

pub tile_of-requires-clause-along : goal.tile_of-requires-clause-along
tile_of-requires-clause-along c = rw (c.columns_met-across.ensures, c.rect_of-rect.ensures) (met_top c.args.tiling.now (rect_of c.args.edit) c.requires.rect c.args.place c.requires.place)

pub returns-clause-value : goal.returns-clause-value
returns-clause-value c = rw (c.columns_met-across.ensures, c.rect_of-rect.ensures) at c.tile_of.ensures.value ∙ met_is c.args.tiling.now (rect_of c.args.edit) c.requires.rect c.args.place

pub returns-clause-meets : goal.returns-clause-meets
returns-clause-meets c = rw (returns-clause-value c) (met_meets c.args.tiling.now (rect_of c.args.edit) c.requires.rect c.args.place c.requires.place)
