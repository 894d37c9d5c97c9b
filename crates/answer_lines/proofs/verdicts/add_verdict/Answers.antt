use Rattle.answer_lines.proofs.verdicts.add_verdict.Goals as goal

pub returns-in-Header : goal.returns-in-Header
returns-in-Header g c = rw c.in-Header.is c.add_header.ensures

pub returns-in-History : goal.returns-in-History
returns-in-History g c = rw c.in-History.is c.add_history.ensures

pub returns-in-Value : goal.returns-in-Value
returns-in-Value g c = rw c.in-Value.is c.add_value.ensures

pub returns-in-Tile : goal.returns-in-Tile
returns-in-Tile g c = rw c.in-Tile.is c.add_tile.ensures

pub returns-in-Seams : goal.returns-in-Seams
returns-in-Seams g c = rw c.in-Seams.is c.add_seams.ensures

pub returns-in-TileCost : goal.returns-in-TileCost
returns-in-TileCost g c = rw c.in-TileCost.is c.add_costs.ensures

pub returns-in-SeamCost : goal.returns-in-SeamCost
returns-in-SeamCost g c = rw c.in-SeamCost.is c.add_costs-in-SeamCost.ensures
