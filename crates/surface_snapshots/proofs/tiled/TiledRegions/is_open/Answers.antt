use Rattle.std.proofs.Common.{sym}
use Rattle.surface_snapshots.specs.Tiled.{regions_in}
use Rattle.surface_snapshots.proofs.MaskLemmas.{open_by_label}
use Rattle.surface_snapshots.proofs.TiledLemmas.{labels_count}
use Rattle.surface_snapshots.proofs.tiled.TiledRegions.is_open.Goals as goal

pub returns : goal.returns
returns c =
    let v = regions_in c.args.self.now in
    rw c.label.ensures (sym (open_by_label v c.args.x c.args.y (labels_count c.args.self.now) c.requires.across c.requires.along))
