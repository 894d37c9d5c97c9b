use Rattle.std.proofs.Common.{◌≡◌, ◌∙◌, ap, refl, sym, List}
use Rattle.std.specs.Arc.{arc_value}
use Rattle.surface_snapshots.specs.declared.runs.Run.{Run}
use Rattle.surface_snapshots.proofs.tiled.share_runs.Goals as goal

pub returns-in-Ok : goal.returns-in-Ok
returns-in-Ok c =
    let own : c.deref-2.result.now ≡ (arc_value c.args.tile.now.runs).items = c.deref-2.ensures.value ∙ ap (λ v. v.items) c.deref.ensures in
    let others : c.deref-4.result.now ≡ (arc_value c.args.other.now.runs).items = c.deref-4.ensures.value ∙ ap (λ v. v.items) c.deref-3.ensures in
    let same : (arc_value c.in-Ok.runs).items ≡ (arc_value c.args.tile.now.runs).items = ap (λ v. v.items) c.in-Ok.ensures.cases ∙ sym others ∙ sym (c.if-not-are_equal.ensures refl) ∙ own in
    ap (λ (l : List Run). record { first = c.args.tile.now.first; runs = l }) same
