use Rattle.std.proofs.Common.{◌∙◌, to_z, of_z, w32, SFits, rules}
use Rattle.std.proofs.lemmas.Int.{to_z-of_z}
use Rattle.raster_model.specs.Sums.{down_edge}
use Rattle.surface_integration.proofs.RiseLemmas.{correction_down, left_near, rise_told, down_gradient, correction_small, below_greatest}
use Rattle.surface_integration.proofs.rises.rise_down.Goals as goal

pub rise-requires-clause-near : goal.rise-requires-clause-near
rise-requires-clause-near c =
    let fits : SFits w32 c.down.result = search rules in
    left_near c.args.sheet.now (down_edge c.args.x c.args.y) c.sample-from.result c.sample-to.result _ c.sample-from.ensures.value c.sample-to.ensures.value
    (to_z-of_z w32 c.down.result fits ∙ down_gradient c.args.sheet.now c.args.gradients.now c.args.corrections.now c.args.x c.args.y c.down.result c.requires.gradients c.requires.across c.requires.along c.down.ensures.value)

pub rise-requires-clause-small : goal.rise-requires-clause-small
rise-requires-clause-small c =
    let fits : SFits w32 c.index.result.now = search rules in
    let held = correction_down c.args.sheet.now c.args.gradients.now c.args.corrections.now c.window.result c.args.x c.args.y c.index.result.now c.requires.shape c.window.ensures.value c.requires.across c.requires.along (rw c.place-place.ensures at c.index.ensures) in
    correction_small c.args.gradients.now.window c.args.corrections.now (down_edge c.args.x c.args.y) _ c.requires.small (to_z-of_z w32 c.index.result.now fits ∙ held)

pub returns-clause-value : goal.returns-clause-value
returns-clause-value c =
    let fits : SFits w32 c.index.result.now = search rules in
    let held = correction_down c.args.sheet.now c.args.gradients.now c.args.corrections.now c.window.result c.args.x c.args.y c.index.result.now c.requires.shape c.window.ensures.value c.requires.across c.requires.along (rw c.place-place.ensures at c.index.ensures) in
    let back : SFits w32 c.rise.result = search rules in
    let gradient : SFits w32 c.down.result = search rules in
    to_z-of_z w32 c.rise.result back
    ∙ rise_told c.args.sheet.now (down_edge c.args.x c.args.y) c.sample-from.result c.sample-to.result _ c.sample-from.ensures.value c.sample-to.ensures.value
    (to_z-of_z w32 c.down.result gradient ∙ down_gradient c.args.sheet.now c.args.gradients.now c.args.corrections.now c.args.x c.args.y c.down.result c.requires.gradients c.requires.across c.requires.along c.down.ensures.value)
    c.args.gradients.now.window c.args.corrections.now (to_z w32 (of_z w32 c.index.result.now)) c.rise.result (to_z-of_z w32 c.index.result.now fits ∙ held) c.rise.ensures.value

pub returns-clause-small : goal.returns-clause-small
returns-clause-small c =
    let fits : SFits w32 c.index.result.now = search rules in
    let held = correction_down c.args.sheet.now c.args.gradients.now c.args.corrections.now c.window.result c.args.x c.args.y c.index.result.now c.requires.shape c.window.ensures.value c.requires.across c.requires.along (rw c.place-place.ensures at c.index.ensures) in
    let back : SFits w32 c.rise.result = search rules in
    rw (to_z-of_z w32 c.rise.result back) (below_greatest c.args.gradients.now.window c.args.corrections.now (down_edge c.args.x c.args.y) (to_z w32 (of_z w32 c.index.result.now)) _ (to_z-of_z w32 c.index.result.now fits ∙ held) c.rise.ensures.small)
