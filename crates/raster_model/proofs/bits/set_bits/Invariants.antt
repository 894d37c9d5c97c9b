use Rattle.std.proofs.Common.{◌+◌, ◌*◌, MatchBool, min}
use Rattle.raster_model.specs.Bits.{AreAllBits, AreBitsSet, HasOtherBit}
use Rattle.raster_model.proofs.bits.set_bits.Given as goal

abbrev pub invariant-loop-place : goal.invariant-loop-place
invariant-loop-place l = record {
  set : AreBitsSet l.fn.words l.words l.first (min (l.place * 64) (l.last + 1)) l.set;
  changed : MatchBool l.changed (HasOtherBit l.fn.words l.first (min (l.place * 64) (l.last + 1)) l.set) (AreAllBits l.fn.words l.first (min (l.place * 64) (l.last + 1)) l.set);
}
