use Rattle.std.proofs.Common.{◌≡◌, drop, take}
use Rattle.std.specs.Prelude.{map}
use Rattle.tile_board.proofs.lacking.tiles_of_first.Given as goal

abbrev pub invariant-loop-place : goal.invariant-loop-place
invariant-loop-place l = record {
  left : l.rest ≡ drop l._place l.keys.keys;
  taken : l.tiles.items ≡ map (λ key. key.1) (take l._place l.keys.keys);
}
