-- A scene as the definitions read it.
use Rattle.raster_model.specs.declared.scene.Scene.{Scene}
use Rattle.raster_model.specs.Raster.{Raster}
use Rattle.raster_model.specs.Planes.{plane_sample}
use Rattle.raster_model.specs.Terms.{slope_of}
use Rattle.raster_model.specs.Tiles.{tiles_of, tile_at}
use Rattle.raster_model.specs.Weights.{edge_weight}

abbrev pub raster_of : Scene → Raster
raster_of scene = record { width = scene.phase.width; height = scene.phase.height; phase = plane_sample scene.phase; slope = slope_of scene.terms; weight = edge_weight scene.rule scene.weights; tile = tile_at scene.tiling; tile_count = tiles_of scene.tiling; steep = scene.terms.steep }
