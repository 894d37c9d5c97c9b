use Rattle.std.proofs.Common.{◌∙◌, Some, ap, sym}
use Rattle.surface_snapshots.specs.Parts.{Parts}
use Rattle.reader_desk.specs.Fronts.{ShelfView, last_of}
use Rattle.reader_desk.proofs.Beginnings.{last_more}
use Rattle.reader_desk.proofs.writer.ShelfWriter.place.Goals as goal

pub copy_with-shown-requires : goal.copy_with-shown-requires
copy_with-shown-requires g c =
    ap (λ (p : Parts). Some p) (c.new-copy.ensures ∙ c.in_ok-shared.ensures ∙ sym c.new-placed.ensures)
    ∙ sym (ap (λ (v : ShelfView). last_of v.surfaces) c.in_ok-longer.ensures.longer ∙ last_more c.self.inside.placed.surfaces c.new-placed.result)
