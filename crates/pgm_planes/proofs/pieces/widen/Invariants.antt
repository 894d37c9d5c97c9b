use Rattle.std.proofs.Common.{◌≡◌, length, take}
use Rattle.pgm_planes.proofs.pieces.widen.Given as goal

abbrev pub invariant-loop-place : goal.invariant-loop-place
invariant-loop-place l = record {
  same : length l.samples ≡ length l.fn.samples;
  front : take l.place l.samples ≡ take l.place l.bytes;
}
