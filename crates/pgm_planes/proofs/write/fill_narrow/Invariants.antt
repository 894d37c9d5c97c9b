use Rattle.std.proofs.Common.{◌≡◌, length, take}
use Rattle.pgm_planes.proofs.write.fill_narrow.Given as goal

abbrev pub invariant-loop-place : goal.invariant-loop-place
invariant-loop-place l = record {
  same : length l.bytes ≡ length l.fn.bytes;
  front : take l.place l.bytes ≡ take l.place l.piece;
}
