use Rattle.std.proofs.Common.{◌≡◌, take}
use Rattle.std.specs.Prelude.{Some, map}
use Rattle.certificates.specs.TileSets.{shared_results}
use Rattle.tile_board.specs.States.{held_results}
use Rattle.tile_board.proofs.kept.share_all.Given as goal

abbrev pub invariant-loop-place : goal.invariant-loop-place
invariant-loop-place l = map Some (shared_results l.shared.items) ≡ held_results (take l.place-index l.results)
