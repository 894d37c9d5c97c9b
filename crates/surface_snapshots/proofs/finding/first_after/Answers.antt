use Rattle.std.proofs.Common.{arith, leb, leb-true, leb-false, rules, of_calls}
use Rattle.std.proofs.lemmas.List.Sorted.{IsPartitionPoint-from_clause, IsPartitionedBy-leb}
use Rattle.surface_snapshots.specs.declared.runs.Run.{Run}
use Rattle.surface_snapshots.proofs.finding.first_after.Goals as goal

pub returns : goal.returns
returns c =
    let runs = c.args.runs.now in
    let p = c.args.place in
    let point = IsPartitionPoint-from_clause (λ (r : Run). leb r.end p) runs c.partition_point.result c.partition_point.ensures.partitioned (IsPartitionedBy-leb (λ (r : Run). r.end) runs p c.requires) (λ a r f k. search (rules, of_calls)) in
    record {
      within = c.partition_point.ensures.bound;
      passed = λ j d below. (let t = point.0 j d (omega arith) below in leb-true _ p t);
      here = λ d inside. (let t = point.1 c.partition_point.result d (omega arith) inside in leb-false _ p t);
    }
