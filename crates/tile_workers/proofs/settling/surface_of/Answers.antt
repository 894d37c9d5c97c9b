use Rattle.std.proofs.Common.{rules}
use Rattle.std.specs.Arc.{arc_value}
use Rattle.tile_workers.proofs.EarlyLemmas.{found_regions, surface_made}
use Rattle.tile_workers.proofs.settling.surface_of.Goals as goal

pub collect_over-requires : goal.collect_over-requires
collect_over-requires g c =
    (search rules, rw c.regions.ensures (found_regions (arc_value c.args.gathered.session).scene.tiling c.args.gathered.mask c.in_ok-found.found c.in_ok-found.ensures))

pub packed-requires-clause-across : goal.packed-requires-clause-across
packed-requires-clause-across g c =
    rw c.deref.ensures ((found_regions (arc_value c.args.gathered.session).scene.tiling c.args.gathered.mask c.in_ok-found.found c.in_ok-found.ensures).width)

pub packed-requires-clause-along : goal.packed-requires-clause-along
packed-requires-clause-along g c =
    rw c.deref.ensures ((found_regions (arc_value c.args.gathered.session).scene.tiling c.args.gathered.mask c.in_ok-found.found c.in_ok-found.ensures).height)

pub build_certified-requires-clause-regions : goal.build_certified-requires-clause-regions
build_certified-requires-clause-regions g c κs within =
    rw c.deref.ensures at (c.in_ok-packed.ensures c.args.gathered.mask (rw c.deref.ensures c.in_ok-found.ensures))

pub build_certified-requires-clause-certified : goal.build_certified-requires-clause-certified
build_certified-requires-clause-certified g c κs within =
    let packed = rw c.deref.ensures at (c.in_ok-packed.ensures c.args.gathered.mask (rw c.deref.ensures c.in_ok-found.ensures)) in
    c.in_ok-seams.ensures.good c.in_ok-packed.packed.regions packed.regions

pub returns : goal.returns
returns g c =
    let packed = rw c.deref.ensures at (c.in_ok-packed.ensures c.args.gathered.mask (rw c.deref.ensures c.in_ok-found.ensures)) in
    surface_made c.args.gathered c.build_certified.result c.in_ok-packed.packed.regions c.in_ok-seams.seams packed.regions c.in_ok-seams.ensures.revision c.build_certified.ensures.parts c.build_certified.ensures.certified
