use Rattle.std.proofs.Common.{ℕ, ◌∙◌, arith, subst, w64}
use Rattle.std.proofs.lemmas.Int.{to_z-of_z}
use Rattle.std.proofs.lemmas.Nat.{mul-add-lt}
use Rattle.raster_model.specs.Masks.{open_at}
use Rattle.auto_masks.specs.Keys.{AreKeyed}
use Rattle.auto_masks.proofs.ScreenLemmas.{key_is, keyed_next}
use Rattle.auto_masks.proofs.screen.Screen.key_row.Goals as goal

pub loop-x-init : goal.loop-x-init
loop-x-init g c = subst (λ (n : ℕ). AreKeyed c.args.self.now.terms c.args.weights.now (open_at c.args.mask.now) n c.args.keys.now) (omega arith) c.requires.keyed

pub loop-x-preserved : goal.loop-x-preserved
loop-x-preserved g c =
    let w = c.args.weights.now.width in
    let inside = mul-add-lt c.args.y w c.loop-x.x c.args.weights.now.height c.requires.row c.loop-x-test.true in
    keyed_next c.args.self.now.terms c.args.weights.now (open_at c.args.mask.now) c.loop-x.keys c.loop-x.x c.args.y c.loop-x.invariant c.loop-x-test.true (omega (arith, inside, c.loop-x.auto.keys, c.requires.full)) _ (to_z-of_z w64 c.from.result (record { sfits = c.from.type_inv }) ∙ key_is c.is_passing.result _ c.from.result c.from.ensures c.is_passing.ensures)

pub returns : goal.returns
returns g c = subst (λ (n : ℕ). AreKeyed c.args.self.now.terms c.args.weights.now (open_at c.args.mask.now) n c.loop-x.keys) (omega (arith, c.loop-x-test.false, c.loop-x.auto.x-end)) c.loop-x.invariant
