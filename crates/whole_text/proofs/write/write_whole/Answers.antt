use Rattle.std.proofs.Common.{arith, rules}
use Rattle.text_lines.proofs.AddLemmas.{adds_then, puts_made}
use Rattle.grid_writer.proofs.GridLemmas.{adds_rows}
use Rattle.grid_writer.proofs.FitSurfaces.{sheet_phases}
use Rattle.grid_writer.specs.Grids.{GridOf}
use Rattle.grid_writer.proofs.SizeLemmas.{wide_by}
use Rattle.raster_model.specs.Masks.{open_at}
use Rattle.raster_model.specs.Sheets.{sheet_raster}
use Rattle.whole_text.specs.Text.{whole_text}
use Rattle.whole_text.specs.Told.{value_above}
use Rattle.whole_text.proofs.ValueLemmas.{above_long}
use Rattle.whole_text.proofs.write.write_whole.Goals as goal

pub returns-clause-put : goal.returns-clause-put
unfolding whole_text
returns-clause-put g c =
    let sheet = c.args.sheet.now in
    let values = value_above (sheet_raster sheet) (open_at c.args.mask.now) (g.H.Heights.cycles_at c.args.heights.now) in
    let grid : GridOf = record { width = sheet.phase.now.width; height = sheet.phase.now.height; values = values } in
    puts_made g.K.Sink.held g.K.Sink.faults c.finish.result (λ n. search (rules, n)) c.new-text.ensures (adds_then c.add_head.ensures (adds_then (adds_rows grid c.add_header.ensures c.add_side_by_side.ensures.added) (adds_then c.add_faces.ensures.added c.bytes.ensures))) c.finish.ensures.adds c.finish.ensures.none c.finish.ensures.whole c.finish.ensures.cut

pub returns-clause-ranges : goal.returns-clause-ranges
returns-clause-ranges g c =
    let sheet = c.args.sheet.now in
    let t = sheet.terms in
    let p = sheet.phase.now in
    record {
      sized = wide_by p.width p.height (record { wide = p.wide.0; narrow = p.wide.1; high = p.high.0; low = p.high.1; few = p.few });
      ramp = (t.across, t.along);
      steepness = t.steepness;
      cost = omega (arith, c.ranges.cost.fits);
      values = above_long (sheet_raster sheet) (open_at c.args.mask.now) (g.H.Heights.cycles_at c.args.heights.now) (sheet_phases sheet) c.requires.few;
      faces = (c.add_faces.ensures.longs, c.requires.one_each);
    }
