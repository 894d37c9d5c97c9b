use Rattle.std.proofs.Common.{◌≡◌, vec_len}
use Rattle.raster_model.specs.MaskWords.{AreWordsOf}
use Rattle.raster_model.proofs.mask.Mask.of_plane.Given as goal

abbrev pub invariant-loop-place : goal.invariant-loop-place
invariant-loop-place l = record {
  count : vec_len l.words ≡ l.place;
  told : AreWordsOf l.plane l.place l.words.items;
}
