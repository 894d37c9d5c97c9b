use Rattle.std.proofs.Common.{rules}
use Rattle.raster_model.specs.Masks.{open_at}
use Rattle.text_lines.proofs.AddLemmas.{adds_then, puts_made}
use Rattle.grid_writer.proofs.GridLemmas.{adds_rows}
use Rattle.certain_parts.specs.PartsText.{labels_grid}
use Rattle.certain_parts.proofs.text.write_parts.Goals as goal

pub returns : goal.returns
returns g c =
    let grid = labels_grid c.args.parts.now (open_at c.args.mask.now) in
    let head = c.add_header.ensures in
    let labels = adds_rows grid (rw (c.width.ensures.value, c.height.ensures.value, c.requires.same_size.0, c.requires.same_size.1) at head) c.add_all.ensures.added in
    puts_made g.K.Sink.held g.K.Sink.faults c.finish.result (λ n. search (rules, n)) c.new-text.ensures (adds_then c.add_counts.ensures (adds_then c.add_parts.ensures labels)) c.finish.ensures.adds c.finish.ensures.none c.finish.ensures.whole c.finish.ensures.cut
