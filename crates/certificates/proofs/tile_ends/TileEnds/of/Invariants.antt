use Rattle.std.proofs.Common.{◌≡◌, length}
use Rattle.certificates.specs.Ends.{TellsEnds}
use Rattle.certificates.proofs.tile_ends.TileEnds.of.Given as goal

abbrev pub invariant-loop-place : goal.invariant-loop-place
invariant-loop-place l = record {
  told : TellsEnds l.side l.place l.last;
  count : length l.last ≡ 4096;
}
