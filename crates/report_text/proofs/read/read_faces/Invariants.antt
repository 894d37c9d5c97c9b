use Rattle.std.proofs.Common.{◌≡◌, vec_len}
use Rattle.report_text.specs.Parts.{AreFacesBelow, lists_in}
use Rattle.text_parts.specs.Steps.{Took, place_of}
use Rattle.report_text.specs.Text.{all_faces_text}
use Rattle.report_text.proofs.read.read_faces.Given as goal

abbrev pub invariant-loop-tile : goal.invariant-loop-tile
invariant-loop-tile g l = record {
  took : Took (all_faces_text l.tile (lists_in l.faces)) (place_of g.S.Source.left g.S.Source.faults l.fn.feed l.fn.lines) (place_of g.S.Source.left g.S.Source.faults l.feed l.lines);
  count : vec_len l.faces ≡ l.tile;
  longs : AreFacesBelow l.tile (lists_in l.faces);
}
