use Rattle.std.proofs.Common.{◌∙◌, map}
use Rattle.surface_snapshots.specs.Views.{parts_of}
use Rattle.report_text.specs.Text.{report_text}
use Rattle.report_text.proofs.ItemLemmas.{tiles_are}
use Rattle.text_lines.proofs.AddLemmas.{adds_then}
use Rattle.report_text.proofs.report.add_report.Goals as goal

pub returns-clause-text : goal.returns-clause-text
unfolding report_text
returns-clause-text g c =
    adds_then c.add_head.ensures (adds_then (rw (c.tile_count-tiles.ensures.count ∙ tiles_are c.args.session.now c.args.entries.now (map parts_of c.args.snapshots.now)) at c.add_items.ensures.text) c.bytes.ensures)

pub returns-clause-small : goal.returns-clause-small
returns-clause-small g c = rw c.tile_count-tiles.ensures.count at c.add_items.ensures.small
