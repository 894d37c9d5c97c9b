use Rattle.std.proofs.Common.{◌≡◌, ℕ, subst, pos, length, sym, ◌∙◌}
use Rattle.std.specs.Prelude.{IsTrue}
use Rattle.std.proofs.lemmas.Result.{IfOk-weaker}
use Rattle.certificates.specs.SeamVerdicts.{IsGoodAtSeams}
use Rattle.raster_model.specs.Masks.{open_at}
use Rattle.raster_model.specs.Scene.{raster_of}
use Rattle.certificates.proofs.SeamLemmas.{is_zero}
use Rattle.certificates.specs.TileSets.{solved_cycles}
use Rattle.seam_regions.specs.Regions.{shifted_by}
use Rattle.seam_regions.proofs.CallerLemmas.{regions_of_scene}
use Rattle.offset_network.specs.FairFlows.{AreFairFlows}
use Rattle.offset_network.proofs.FairCertificates.{anchored, fair_certifies}
use Rattle.offset_network.proofs.guessing.certifies.Goals as goal

pub returns : goal.returns
returns c =
    let s = c.args.surface.now.scene.now in
    let m = c.args.surface.now.mask.now in
    let v = c.args.regions.now in
    let base = solved_cycles s c.args.surface.now.tiles.now.results in
    let offsets = c.args.offsets.now in
    let zero : c.first_height.result ≡ pos 0 = is_zero c.first_height.result (record { sfits = c.first_height.type_inv }) c.if-first_height-ne0.false in
    let first = anchored (raster_of s) (open_at m) (shifted_by v offsets base) (λ x y f. sym (c.first_height.ensures c.requires.count c.requires.near x y f) ∙ zero) in
    IfOk-weaker c.are_fair_flows.result (λ good. IsTrue good → AreFairFlows s.terms.steep (length offsets) offsets c.args.links.now c.args.flows.now) (λ good. IsTrue good → IsGoodAtSeams (raster_of s) (open_at m) (shifted_by v offsets base) c.args.flows.now)
    (λ good told t. (
      first,
      fair_certifies (raster_of s) (open_at m) v base offsets c.args.links.now c.args.flows.now (regions_of_scene s m v c.requires.regions) c.requires.seams (subst (λ (n : ℕ). AreFairFlows s.terms.steep n offsets c.args.links.now c.args.flows.now) c.requires.count (told t)),
    )) c.are_fair_flows.ensures
