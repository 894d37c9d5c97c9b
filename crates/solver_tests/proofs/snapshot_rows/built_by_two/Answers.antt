use Rattle.solver_tests.proofs.snapshot_rows.built_by_two.Goals as goal

pub build_certified-requires-clause-regions : goal.build_certified-requires-clause-regions
build_certified-requires-clause-regions g c κs within =
    rw c.deref-2.ensures at (c.in_ok-packed.ensures c.args.gathered.mask (rw c.deref-2.ensures (rw c.deref.ensures at c.in_ok-regions.ensures)))

pub build_certified-requires-clause-certified : goal.build_certified-requires-clause-certified
build_certified-requires-clause-certified g c κs within =
    let packed = rw c.deref-2.ensures at (c.in_ok-packed.ensures c.args.gathered.mask (rw c.deref-2.ensures (rw c.deref.ensures at c.in_ok-regions.ensures))) in
    c.requires c.in_ok-packed.packed.regions packed.regions
