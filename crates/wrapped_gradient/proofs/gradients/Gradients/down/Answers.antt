use Rattle.std.proofs.Common.{◌≡◌, ◌∙◌, ◌<◌, ◌≤◌, ◌+◌, ◌*◌, ◌-◌, sym, ap, subst, arith, ℤ, ◌+ℤ◌, pos, to_z, of_z, w16, w32, SFits, rules}
use Rattle.std.proofs.lemmas.Int.{ints}
use Rattle.std.proofs.lemmas.List.{get_or_read_under}
use Rattle.raster_model.specs.declared.tiling.Window.{Window}
use Rattle.wrapped_gradient.specs.GradientsView.{GradientsView}
use Rattle.wrapped_gradient.proofs.DifferenceLemmas.{held_plain}
use Rattle.wrapped_gradient.proofs.Places.{place_under}
use Rattle.wrapped_gradient.proofs.gradients.Gradients.down.Goals as goal

pub returns-clause-value : goal.returns-clause-value
returns-clause-value c =
    let g = c.self.inside in
    let same : c.args.self.now.window ≡ g.window = ap (λ (v : GradientsView). v.window) (sym c.self.view_is) in
    let across : (g.window.x0 ≤ c.args.x) × (c.args.x ≤ g.window.x1) = subst (λ (v : Window). (v.x0 ≤ c.args.x) × (c.args.x ≤ v.x1)) same c.requires.across in
    let along : (g.window.y0 ≤ c.args.y) × (c.args.y < g.window.y1) = subst (λ (v : Window). (v.y0 ≤ c.args.y) × (c.args.y < v.y1)) same c.requires.along in
    let fits : SFits w16 c.index.result.now = search rules in
    let read : to_z w32 (of_z w32 c.from.result) ≡ c.index.result.now = omega (arith, ints, c.from.ensures, fits) in
    let full : g.down.len ≡ (g.window.x1 - g.window.x0 + 1) * (g.window.y1 - g.window.y0) = g.down.ok.0 ∙ c.self.invariant.1.1 ∙ ap (λ n. (g.window.x1 - g.window.x0 + 1) * n) (omega arith) in
    let within : (c.args.y - g.window.y0) * (g.window.x1 - g.window.x0 + 1) + (c.args.x - g.window.x0) < g.down.len = place_under _ _ _ _ _ full (omega (arith, along)) (omega (arith, across)) in
    let number = get_or_read_under g.down.items _ g.down.len c.index.result.now (pos 0) (rw c.place.ensures at c.index.ensures) within g.down.ok.0 in
    rw (← c.self.view_is) (held_plain g.terms.ramp_y c.index.result.now _ g.terms.along fits read ∙ ap (λ (z : ℤ). g.terms.ramp_y +ℤ z) number)
