-- What a board refuses where the caller has looked before: nothing but for want of memory.
use Rattle.std.proofs.Common.{◌≡◌, ℕ, refl, sym, ◌∙◌, ap, arith, Bool, Some}
use Rattle.std.specs.Prelude.{IsTrue, IsFalse}
use Rattle.certificates.specs.declared.results.SeamResult.{SeamResult}
use Rattle.certificates.specs.declared.results.TileResult.{TileResult}
use Rattle.certificates.specs.declared.verdicts.SeamVerdict.TheVariants.{Good as GoodSeams}
use Rattle.certificates.specs.declared.verdicts.TileVerdict.TheVariants.{Good as GoodTile}
use Rattle.certificates.specs.Results.{IsGoodTile}
use Rattle.certificates.proofs.Unique.{tiles_have_one_verdict}
use Rattle.seam_regions.specs.Regions.{AreRegionsOf}
use Rattle.surface_snapshots.specs.Parts.{Parts}
use Rattle.surface_snapshots.specs.Verdicts.{IsPartsVerdict, PartsHaveOneVerdict}
use Rattle.tile_board.specs.declared.answers.GatherFault.{GatherFault}
use Rattle.tile_board.specs.declared.answers.GatherFault.TheVariants as gather_faults
use Rattle.tile_board.specs.declared.answers.KeepFault.{KeepFault}
use Rattle.tile_board.specs.declared.answers.KeepFault.TheVariants as keep_faults
use Rattle.tile_board.specs.declared.answers.PublishFault.{PublishFault}
use Rattle.tile_board.specs.declared.answers.PublishFault.TheVariants as publish_faults
use Rattle.tile_board.specs.BoardView.{BoardView}
use Rattle.tile_board.specs.Calls.{ArePublishable, HasGatherFault, HasKeepFault, HasPublishFault, MayKeep, MayPublish, mask_now}
use Rattle.tile_board.specs.Histories.{AreAllKept}
use Rattle.sums_and_lists.proofs.Tests.{true_and_false}

-- a good result that may be kept
pub kept_or_memory : (v : BoardView) (k : TileResult) → MayKeep v k → IsGoodTile v.session.scene (mask_now v) k → (fault : KeepFault) → HasKeepFault v k fault → fault ≡ keep_faults.Memory
kept_or_memory v k may good (keep_faults.Stranger t) h = absurd (omega (arith, h.1, may.0.0))
kept_or_memory v k may good (keep_faults.Stale r) h = absurd (h.2 (may.0.1 ∙ sym h.1))
kept_or_memory v k may good keep_faults.Double h = absurd (true_and_false _ h.1 may.1)
kept_or_memory v k may good (keep_faults.Uncertified verdict) h = absurd (h.1 (tiles_have_one_verdict v.session.scene (mask_now v) k verdict GoodTile h.2 (good.shape, good.in_range, good.certified)))
kept_or_memory v k may good keep_faults.Memory h = refl

-- results of all tiles
pub gathered_or_memory : (v : BoardView) → AreAllKept v.session v.entries → (fault : GatherFault) → HasGatherFault v fault → fault ≡ gather_faults.Memory
gathered_or_memory v all (gather_faults.Unready t) h = absurd (true_and_false _ (all t h.exists) h.lacking)
gathered_or_memory v all gather_faults.Memory h = refl

-- offsets that certify whatever is published with them
pub published_or_memory : (v : BoardView) (a : ℕ) (seams : SeamResult) → PartsHaveOneVerdict → MayPublish v a seams → ((p : Parts) → ArePublishable v seams p → IsPartsVerdict p GoodSeams) → (fault : PublishFault) → HasPublishFault v a seams fault → fault ≡ publish_faults.Memory
published_or_memory v a seams one may good publish_faults.NotSettle h = absurd (h may.0.0.0)
published_or_memory v a seams one may good (publish_faults.Stale r) h = absurd (h.2 (may.0.0.1 ∙ sym h.1))
published_or_memory v a seams one may good (publish_faults.Double r) h = absurd (may.0.1 (h.2 ∙ ap Some h.1))
published_or_memory v a seams one may good (publish_faults.Unready t) h = absurd (true_and_false _ (may.1 t h.1.exists) h.1.lacking)
published_or_memory v a seams one may good (publish_faults.Uncertified verdict) h =
    let p = h.2 in
    let parts : ArePublishable v seams p = h.3 in
    let regions : AreRegionsOf p.session.scene.tiling p.mask p.regions = rw parts.session parts.regions in
    absurd (h.1 (one p verdict GoodSeams regions h.4 (good p parts)))
published_or_memory v a seams one may good publish_faults.Memory h = refl
