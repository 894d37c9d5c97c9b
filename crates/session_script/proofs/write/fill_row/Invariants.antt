use Rattle.std.proofs.Common.{◌≡◌, length, take, ◌∷◌, []}
use Rattle.raster_model.specs.Masks.{open_at}
use Rattle.session_script.specs.Text.{sample_of}
use Rattle.text_lines.specs.Text.{texts_below}
use Rattle.session_script.proofs.write.fill_row.Given as goal

abbrev pub invariant-loop-x : goal.invariant-loop-x
invariant-loop-x l = record {
  size : length l.row ≡ length l.fn.row;
  front : take l.x l.row ≡ texts_below l.x (λ x. sample_of (open_at l.mask x l.y) ∷ []);
}
