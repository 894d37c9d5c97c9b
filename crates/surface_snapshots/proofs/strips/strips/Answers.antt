use Rattle.std.proofs.Common.{◌≡◌, ◌+◌, ◌*◌, ℕ, ap, arith}
use Rattle.std.specs.Prelude.{min}
use Rattle.std.proofs.lemmas.List.Elements.{All-push, All-same}
use Rattle.surface_snapshots.specs.Strips.{HasRoom}
use Rattle.surface_snapshots.proofs.strips.strips.Goals as goal

pub loop-preserved : goal.loop-preserved
loop-preserved c =
    let cycles = c.in_ok-cycles.cycles in
    let same : (c.min.result + 1) * c.args.width ≡ (min c.args.rows 16 + 1) * c.args.width = ap (λ (n : ℕ). (n + 1) * c.args.width) c.min.ensures in
    let room : HasRoom c.args.rows c.args.width (record { costs = record { tiles = 0; seams = 0 }; cycles = cycles }) = omega (arith, cycles.ok.0, c.in_ok-cycles.ensures.len, same) in
    record {
      len = omega (arith, c.in_ok-push.ensures.len, c.loop.invariant.len);
      room = All-same (HasRoom c.args.rows c.args.width) _ _ c.in_ok-push.ensures.items (All-push (HasRoom c.args.rows c.args.width) c.loop.strips.items _ c.loop.invariant.room room);
    }
