use Rattle.std.proofs.Common.{◌≡◌, ℕ, subst, arith}
use Rattle.raster_model.specs.Masks.{open_at}
use Rattle.joined_cells.proofs.NumberLemmas.{numbering_begins}
use Rattle.seam_regions.specs.Flood.{HasNumbered, tiling_joined}
use Rattle.seam_regions.proofs.Sparse.{few_regions}
use Rattle.seam_regions.proofs.numbers.number_all.Goals as goal

pub loop-y-init : goal.loop-y-init
loop-y-init c =
    let g = c.args.tiling.now in
    let mask = open_at c.args.mask.now in
    subst (λ (n : ℕ). HasNumbered g mask n 0 c.args.labels.now) (omega arith) (numbering_begins (tiling_joined g mask) c.args.labels.now c.requires.flood)

pub returns-clause-few : goal.returns-clause-few
returns-clause-few c =
    let g = c.args.tiling.now in
    let is = c.loop-y.invariant in
    let end : c.loop-y.y ≡ g.height = omega arith in
    omega (arith, rw end at is.counted, few_regions g (open_at c.args.mask.now) is.root is.flooded)
