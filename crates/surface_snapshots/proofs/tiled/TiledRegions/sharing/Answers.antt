use Rattle.std.proofs.Common.{◌≡◌, ◌∙◌, ap, subst, List, Some}
use Rattle.std.specs.Prelude.{option_map, slice_get}
use Rattle.std.proofs.lemmas.List.{length-set}
use Rattle.std.proofs.lemmas.Option.{slice_get-map}
use Rattle.std.proofs.Math.Seq.{map-set_same}
use Rattle.surface_snapshots.specs.Runs.{RunsView, runs_of}
use Rattle.surface_snapshots.proofs.TiledLemmas.{shown_rises}
use Rattle.surface_snapshots.proofs.tiled.TiledRegions.sharing.Goals as goal

pub loop-tile-preserved : goal.loop-tile-preserved
loop-tile-preserved c =
    let tiles = c.loop-tile.tiles.items in
    record {
      size = length-set tiles c.loop-tile.tile c.share_runs.new.tile ∙ c.loop-tile.invariant.size;
      same = map-set_same runs_of tiles c.loop-tile.tile c.share_runs.new.tile c.index_mut.result.now (c.share_runs.ensures ∙ ap runs_of c.index_mut.ensures.value) ∙ c.loop-tile.invariant.same;
    }

pub invariant_of-result : goal.invariant_of-result
invariant_of-result c =
    let s = c.args.self in
    let i = c.loop-tile.invariant in
    record {
      complete = i.size ∙ s.complete;
      rising = λ t k e.
          shown_rises s.tiles.items t (runs_of k)
          (subst (λ (l : List RunsView). slice_get l t ≡ Some (runs_of k)) i.same (slice_get-map runs_of c.loop-tile.tiles.items t ∙ ap (option_map runs_of) e))
          s.rising;
    }
