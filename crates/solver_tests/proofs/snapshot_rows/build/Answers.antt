use Rattle.solver_tests.proofs.snapshot_rows.build.Goals as goal

pub build_beside-requires-clause-regions : goal.build_beside-requires-clause-regions
build_beside-requires-clause-regions c =
    rw c.deref.ensures at c.in_ok-regions.ensures
