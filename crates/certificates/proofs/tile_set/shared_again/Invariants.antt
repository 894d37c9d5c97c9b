use Rattle.std.proofs.Common.{◌≡◌, take}
use Rattle.certificates.specs.TileSets.{shared_results}
use Rattle.certificates.proofs.tile_set.shared_again.Given as goal

abbrev pub invariant-loop-result : goal.invariant-loop-result
invariant-loop-result l = shared_results l.shared.items ≡ shared_results (take l.result-index l.results)
