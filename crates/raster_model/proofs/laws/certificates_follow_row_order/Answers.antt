use Rattle.raster_model.proofs.SeamLists.{flows_follow_edge_order}
use Rattle.raster_model.proofs.TileCells.{cells_follow_the_window}
use Rattle.raster_model.proofs.laws.certificates_follow_row_order.Goals as goal

pub returns-clause-cells : goal.returns-clause-cells
returns-clause-cells c = cells_follow_the_window

pub returns-clause-seams : goal.returns-clause-seams
returns-clause-seams c = flows_follow_edge_order
