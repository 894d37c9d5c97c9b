use Rattle.std.proofs.Common.{◌≡◌, ◌∙◌, ◌<◌, ◌≤◌, ◌+◌, ◌*◌, ◌-◌, sym, ap, subst, arith, ℤ, ◌+ℤ◌, pos, to_z, of_z, w16, w32, SFits, rules}
use Rattle.std.proofs.lemmas.Int.{ints}
use Rattle.std.proofs.lemmas.List.{get_or_read_under}
use Rattle.raster_model.specs.declared.tiling.Window.{Window}
use Rattle.wrapped_gradient.specs.GradientsView.{GradientsView}
use Rattle.wrapped_gradient.proofs.DifferenceLemmas.{held_plain}
use Rattle.wrapped_gradient.proofs.Places.{place_under, right_number}
use Rattle.wrapped_gradient.proofs.gradients.Gradients.right.Goals as goal

pub returns-clause-value : goal.returns-clause-value
returns-clause-value c =
    let g = c.self.inside in
    let same : c.args.self.now.window ≡ g.window = ap (λ (v : GradientsView). v.window) (sym c.self.view_is) in
    let across : (g.window.x0 ≤ c.args.x) × (c.args.x < g.window.x1) = subst (λ (v : Window). (v.x0 ≤ c.args.x) × (c.args.x < v.x1)) same c.requires.across in
    let along : (g.window.y0 ≤ c.args.y) × (c.args.y ≤ g.window.y1) = subst (λ (v : Window). (v.y0 ≤ c.args.y) × (c.args.y ≤ v.y1)) same c.requires.along in
    let fits : SFits w16 c.index.result.now = search rules in
    let read : to_z w32 (of_z w32 c.from.result) ≡ c.index.result.now = omega (arith, ints, c.from.ensures, fits) in
    let full : g.right.len ≡ (g.window.x1 - g.window.x0) * (g.window.y1 - g.window.y0 + 1) = g.right.ok.0 ∙ c.self.invariant.1.0 ∙ ap (λ n. n * (g.window.y1 - g.window.y0 + 1)) (omega arith) in
    let within : (c.args.y - g.window.y0) * (g.window.x1 - g.window.x0) + (c.args.x - g.window.x0) < g.right.len = place_under _ _ _ _ _ full (omega (arith, along)) (omega (arith, across)) in
    let number = get_or_read_under g.right.items _ g.right.len c.index.result.now (pos 0) c.index.ensures within g.right.ok.0 ∙ sym (right_number g.window g.right.items g.down.items c.args.x c.args.y) in
    rw (← c.self.view_is) (held_plain g.terms.ramp_x c.index.result.now _ g.terms.across fits read ∙ ap (λ (z : ℤ). g.terms.ramp_x +ℤ z) number)
