use Rattle.std.proofs.Common.{refl}
use Rattle.whole_text.proofs.ReadLemmas.{cells_read}
use Rattle.whole_text.proofs.read.read_faces.Goals as goal

pub returns : goal.returns
returns g c =
    let r = c.read_rows.ensures in
    cells_read c.args.width c.args.height _ _ c.read_rows.result refl c.cell_rows_of-rows.ensures r.read r.count r.longs
