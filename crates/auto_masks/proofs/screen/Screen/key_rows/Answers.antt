use Rattle.std.proofs.Common.{ℕ, ◌*◌, ap, arith, subst}
use Rattle.raster_model.specs.Masks.{open_at}
use Rattle.auto_masks.specs.Keys.{AreKeyed}
use Rattle.auto_masks.proofs.ScreenLemmas.{keyed_none}
use Rattle.auto_masks.proofs.screen.Screen.key_rows.Goals as goal

pub loop-y-init : goal.loop-y-init
loop-y-init g c =
    let t = c.args.self.now.terms in
    subst (λ (n : ℕ). AreKeyed t c.args.weights.now (open_at c.args.mask.now) n c.args.keys.now) (omega arith) (keyed_none t c.args.weights.now (open_at c.args.mask.now) c.args.keys.now)

pub loop-y-preserved : goal.loop-y-preserved
loop-y-preserved g c = c.key_row.ensures

pub key_row-requires-clause-keyed : goal.key_row-requires-clause-keyed
key_row-requires-clause-keyed g c = c.loop-y.invariant

pub returns : goal.returns
returns g c = subst (λ (n : ℕ). AreKeyed c.args.self.now.terms c.args.weights.now (open_at c.args.mask.now) n c.loop-y.keys) (ap (λ (n : ℕ). n * c.args.weights.now.width) (omega (arith, c.loop-y-test.false, c.loop-y.auto.y-end))) c.loop-y.invariant
