use Rattle.std.proofs.Common.{◌≡◌, ◌∙◌, ap, refl, sym}
use Rattle.std.specs.Arc.{arc_value}
use Rattle.surface_snapshots.proofs.flows.shared_flows.Goals as goal

pub returns-in-Ok : goal.returns-in-Ok
returns-in-Ok c =
    let own : c.deref-2.result.now ≡ (arc_value c.args.flows).items = c.deref-2.ensures.value ∙ ap (λ v. v.items) c.deref.ensures in
    let others : c.deref-4.result.now ≡ (arc_value c.args.earlier.now).items = c.deref-4.ensures.value ∙ ap (λ v. v.items) c.deref-3.ensures in
    ap (λ v. v.items) c.in-Ok.ensures.cases ∙ sym others ∙ sym (c.if-not-are_equal.ensures refl) ∙ own
