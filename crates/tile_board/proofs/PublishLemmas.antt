-- What is published, and why nothing is.
use Rattle.std.proofs.Common.{◌≡◌, ℕ, sym, ◌∙◌, ap, refl, subst, arith, List}
use Rattle.std.specs.Prelude.{Option}
use Rattle.raster_model.specs.declared.session.Session.{Session}
use Rattle.raster_model.specs.Masks.{IsMaskOf, open_at}
use Rattle.raster_model.specs.MaskView.{MaskView}
use Rattle.certificates.specs.declared.results.SeamResult.{SeamResult}
use Rattle.certificates.specs.declared.results.TileResult.{TileResult}
use Rattle.certificates.specs.declared.verdicts.SeamVerdict.TheVariants.{Good}
use Rattle.certificates.specs.TileSets.{TileSetView}
use Rattle.mask_revisions.specs.RevisionsView.{RevisionsView}
use Rattle.seam_regions.specs.Regions.{AreRegionsOf}
use Rattle.seam_regions.specs.RegionsView.{RegionsView as RegionsOf}
use Rattle.surface_snapshots.specs.declared.fault.BuildFault.{BuildFault}
use Rattle.surface_snapshots.specs.declared.fault.BuildFault.TheVariants.{Uncertified, Memory}
use Rattle.surface_snapshots.specs.Parts.{AreGoodTiles, IsPublished, Parts, parts_from}
use Rattle.surface_snapshots.specs.SeamsView.{SeamsView}
use Rattle.surface_snapshots.specs.Verdicts.{IsFault, IsPartsVerdict}
use Rattle.tile_board.specs.declared.answers.PublishFault.{PublishFault}
use Rattle.tile_board.specs.declared.answers.PublishFault.TheVariants as publish_faults
use Rattle.tile_board.specs.declared.entry.Entry.{Entry}
use Rattle.tile_board.specs.declared.entry.Entry.TheVariants.{Published}
use Rattle.tile_board.specs.Boards.{IsSurfaceOf}
use Rattle.tile_board.specs.BoardView.{BoardView}
use Rattle.tile_board.specs.Calls.{AddsEntry, AreKeptResults, ArePublishable, HasMadeFault, HasPublishFault, IsFresh, IsFreshAt, IsMadeSurface, IsMadePublication, IsMaskNow, IsPublication}
use Rattle.tile_board.specs.Causes.{building_cause}
use Rattle.tile_board.specs.Histories.{AreAllKept, IsStep, mask_in, now_of}
use Rattle.tile_board.specs.Lacking.{LackingView}
use Rattle.tile_board.specs.States.{AddsSurface, HasSurfaceFault, IsState, board_view_of}
use Rattle.tile_board.proofs.StateFacts.{kept_good}

-- parts that were made of a session like the board's
pub parts_are : (v : BoardView) (s : Session) (mask : MaskView) (regions : RegionsOf) (tiles : TileSetView) (seams : SeamResult) → s ≡ v.session → IsMaskNow v mask → AreRegionsOf v.session.scene.tiling mask regions → AreKeptResults v tiles → ArePublishable v seams (parts_from s mask regions tiles seams)
parts_are v s mask regions tiles seams same now are kept = record {
  session = same;
  mask = now;
  regions = are;
  tiles = kept;
  seams = refl;
}

pub built_cause : (v : BoardView) (seams : SeamResult) (p : Parts) (fault : BuildFault) → AreAllKept v.session v.entries → ArePublishable v seams p → IsFault p fault → HasSurfaceFault v seams (building_cause fault)
built_cause v seams p (Uncertified verdict) ready are is = (ready, is.0, p, are, is.1)
built_cause v seams p Memory ready are is = ready

module _ {s : Session} {H : List Entry} {kept : List (Option TileResult)} {surfaces : List Parts} {held : RevisionsView} {waiting : LackingView} {marks : List ℕ} {last : Option ℕ} (state : IsState (board_view_of s H kept surfaces) held waiting marks last) where
  -- the kept results are good under the present mask
  pub good_over : (mask : MaskView) (tiles : TileSetView) → IsMaskNow (board_view_of s H kept surfaces) mask → AreKeptResults (board_view_of s H kept surfaces) tiles → AreGoodTiles s.scene (open_at mask) tiles.results
  good_over mask tiles now are = kept_good state (open_at mask) (λ x y a b. now.clear_at x y (rw (sym s.scene.same_width.1) a) (rw (sym s.scene.same_height.1) b)) tiles.results are.results

  pub surface_is : (seams : SeamResult) (p : Parts) → ArePublishable (board_view_of s H kept surfaces) seams p → seams.revision ≡ now_of H → IsPublished p → IsPartsVerdict p Good → IsSurfaceOf s H p
  surface_is seams p are present published verdict =
      let here : p.seams.revision ≡ now_of H = ap (λ (r : SeamsView). r.revision) are.seams ∙ present in
      record {
        revision = omega (arith, here);
        session = are.session;
        mask = subst (λ (r : ℕ). IsMaskOf p.mask s.scene.phase.width s.scene.phase.height (mask_in s H r)) (sym here) are.mask;
        regions = are.regions;
        tiling = are.tiles.tiling;
        tiles = good_over p.mask p.tiles are.mask are.tiles;
        published = published;
        verdict = verdict;
      }

-- why no surface is made is why nothing is published
pub surface_cause : (v : BoardView) (a : ℕ) (seams : SeamResult) (fault : PublishFault) → IsFresh v a seams → HasSurfaceFault v seams fault → HasPublishFault v a seams fault
surface_cause v a seams publish_faults.NotSettle fresh is = absurd is
surface_cause v a seams (publish_faults.Stale r) fresh is = absurd is
surface_cause v a seams (publish_faults.Double r) fresh is = absurd is
surface_cause v a seams (publish_faults.Unready t) fresh is = (fresh, is)
surface_cause v a seams (publish_faults.Uncertified verdict) fresh is = ((fresh, is.0), is.1, is.2, is.3, is.4)
surface_cause v a seams publish_faults.Memory fresh is = (fresh, is)

-- a surface that was made over the present mask is one of the history
pub made_surface : (v : BoardView) (p : Parts) → IsMadeSurface v.session p → IsMaskNow v p.mask → p.seams.revision ≡ now_of v.entries → IsSurfaceOf v.session v.entries p
made_surface v p made now here =
    let s = v.session in
    record {
      revision = omega (arith, here);
      session = made.session;
      mask = subst (λ (r : ℕ). IsMaskOf p.mask s.scene.phase.width s.scene.phase.height (mask_in s v.entries r)) (sym here) now;
      regions = made.regions;
      tiling = made.tiling;
      tiles = made.tiles;
      published = made.certified;
      verdict = made.verdict;
    }

-- and if it was added it was published
pub made_publication : (old new : BoardView) (a r : ℕ) (p : Parts) → p.seams.revision ≡ r → IsMaskNow old p.mask → AddsSurface old new a r p → IsMadePublication old new a p
made_publication old new a r p same now added = record {
  adds = subst (λ (n : ℕ). AddsEntry old new (Published a n)) (sym same) added.adds;
  kept = added.kept;
  mask = now;
  surfaces = added.surfaces;
}

-- why a surface that was made is not published
pub made_starved : (v : BoardView) (a r : ℕ) (fault : PublishFault) → IsFreshAt v a r → AreAllKept v.session v.entries → fault ≡ publish_faults.Memory → HasMadeFault v a r fault
made_starved v a r fault fresh ready is = subst (HasMadeFault v a r) (sym is) (fresh, ready)

pub made_cause : (v : BoardView) (a : ℕ) (seams : SeamResult) (fault : PublishFault) → HasMadeFault v a seams.revision fault → HasPublishFault v a seams fault
made_cause v a seams publish_faults.NotSettle is = is
made_cause v a seams (publish_faults.Stale r) is = is
made_cause v a seams (publish_faults.Double r) is = is
made_cause v a seams (publish_faults.Unready t) is = is
made_cause v a seams (publish_faults.Uncertified verdict) is = absurd is
made_cause v a seams publish_faults.Memory is = is

-- a surface that was added is a publication
pub publication : (old new : BoardView) (a : ℕ) (seams : SeamResult) (p : Parts) → ArePublishable old seams p → IsSurfaceOf old.session old.entries p → AddsSurface old new a seams.revision p → IsPublication old new a seams
publication old new a seams p parts is added = record {
  adds = added.adds;
  kept = added.kept;
  surface = p;
  parts = parts;
  verdict = is.verdict;
  certified = is.published;
  surfaces = added.surfaces;
}

pub may_add : (v : BoardView) (a : ℕ) (seams : SeamResult) → IsFresh v a seams → AreAllKept v.session v.entries → IsStep v.session v.entries (Published a seams.revision)
may_add v a seams fresh ready = (fresh.0.0, fresh.0.1, fresh.1, ready)

pub starved_cause : (v : BoardView) (a : ℕ) (seams : SeamResult) (fault : PublishFault) → IsFresh v a seams → AreAllKept v.session v.entries → fault ≡ publish_faults.Memory → HasPublishFault v a seams fault
starved_cause v a seams fault fresh ready is = subst (HasPublishFault v a seams) (sym is) (fresh, ready)
