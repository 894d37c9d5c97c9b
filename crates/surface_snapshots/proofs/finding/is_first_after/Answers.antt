use Rattle.std.proofs.Common.{◌-◌, ◌<◌, ◌≤◌, ap, arith, get_or, leb-true, length}
use Rattle.std.proofs.lemmas.List.{get_or_default}
use Rattle.surface_snapshots.specs.declared.runs.Run.{Run}
use Rattle.surface_snapshots.proofs.finding.is_first_after.Goals as goal

pub returns-else-at-eq0 : goal.returns-else-at-eq0
returns-else-at-eq0 c = λ t.
    let runs = c.args.runs.now in
    let none : Run = record { end = 0; number = 0 } in
    let here : c.args.at < length runs = c.if-at-runs.false in
    let one : (get_or runs (c.args.at - 1) none).end ≤ c.args.place = leb-true _ _ t in
    record {
      within = omega (arith, here);
      passed = λ j d below.
          (let before : (get_or runs j d).end ≤ (get_or runs (c.args.at - 1) d).end = c.requires j (c.args.at - 1) d (omega (arith, below)) (omega (arith, here, below)) in
          let same = ap (λ (r : Run). r.end) (get_or_default runs (c.args.at - 1) d none (omega (arith, here, below))) in
          omega (arith, before, same, one));
      here = λ d inside.
          (let same = ap (λ (r : Run). r.end) (get_or_default runs c.args.at d none inside) in
          omega (arith, same, c.if-runs-at.false));
    }
