use Rattle.std.proofs.Common.{◌∙◌}
use Rattle.std.proofs.lemmas.Result.{IfOk-weaker}
use Rattle.raster_model.specs.Masks.{open_at}
use Rattle.auto_masks.proofs.ScreenLemmas.{patches_of, screened_is}
use Rattle.auto_masks.proofs.screen.Screen.apply.Goals as goal

pub returns : goal.returns
returns g c =
    let weights = c.args.weights.now in
    let keys = c.in_ok-keys.keys.items in
    let v = c.in_ok-patches.patches in
    let is = patches_of c.width.result weights.width c.height.result weights.height c.deref.result.now keys v (c.width.ensures.value ∙ c.requires.across) (c.height.ensures.value ∙ c.requires.along) c.deref.ensures.value c.in_ok-patches.ensures in
    IfOk-weaker c.keep_patches.result _ _ (λ made kept. screened_is c.args.self.now.terms weights (open_at c.args.mask.now) keys v made c.in_ok-keys.ensures.keyed is kept) c.keep_patches.ensures
