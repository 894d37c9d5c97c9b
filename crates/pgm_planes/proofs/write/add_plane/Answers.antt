use Rattle.std.proofs.Common.{◌≤◌}
use Rattle.pgm_planes.proofs.Words.{All-from_get_or, plane_text}
use Rattle.text_lines.proofs.AddLemmas.{adds_then}
use Rattle.pgm_planes.proofs.write.add_plane.Goals as goal

pub returns : goal.returns
unfolding plane_text
returns g c = adds_then c.add_header.ensures (rw c.deref.ensures.value at c.add_raster.ensures)

pub add_raster-requires : goal.add_raster-requires
add_raster-requires g c = let p = c.args.plane.now in rw c.deref.ensures.value (All-from_get_or (λ v. v ≤ p.maxval) p.samples.items 0 (λ k lt. p.below k))
