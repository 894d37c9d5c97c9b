use Rattle.std.proofs.Common.{refl, arith}
use Rattle.text_lines.specs.Parsing.{IsWide}
use Rattle.report_text.proofs.PartForms.{faces_kind}
use Rattle.text_parts.proofs.ReadsLemmas.{reads_parsed, reads_unread, reads_starved}
use Rattle.report_text.proofs.read.read_tile_faces.Goals as goal

pub returns-in_err-read_line : goal.returns-in_err-read_line
returns-in_err-read_line g c =
    let small : IsWide c.args.tile = omega (arith, c.ranges.tile.fits) in
    reads_unread (faces_kind c.args.tile small) c.from_residual.result c.from_residual.ensures.1 c.in_err-read_line.ensures

pub returns-in_err-faces_of : goal.returns-in_err-faces_of
returns-in_err-faces_of g c = reads_starved c.from_residual-in_err-faces_of.result c.from_residual-in_err-faces_of.ensures.1 c.in_ok-read_line.ensures.advance

pub returns : goal.returns
returns g c =
    let small : IsWide c.args.tile = omega (arith, c.ranges.tile.fits) in
    reads_parsed (faces_kind c.args.tile small) c.in_ok-faces_of.field-0 c.parsed.result c.in_ok-read_line.ensures c.line.ensures c.in_ok-faces_of.ensures refl c.parsed.ensures
