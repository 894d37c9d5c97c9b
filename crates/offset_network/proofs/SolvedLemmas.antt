-- Flows and offsets of a solved network are a good result.
use Rattle.std.proofs.Common.{◌≡◌, ℕ, ◌+◌, ◌*◌, ◌<◌, ◌≤◌, ◌^◌, ◌∙◌, arith, List, length}
use Rattle.std.specs.Prelude.{ℤ, pos, neg_ℤ, ◌+ℤ◌, ◌-ℤ◌, ◌*ℤ◌, ◌≤ℤ◌, IsTrue, Option, slice_index_or, unsigned_abs}
use Rattle.std.proofs.lemmas.Int.{ints}
use Rattle.raster_model.specs.declared.scene.Scene.{Scene}
use Rattle.raster_model.specs.MaskView.{MaskView}
use Rattle.raster_model.specs.Masks.{open_at}
use Rattle.raster_model.specs.Raster.{lifted}
use Rattle.raster_model.specs.Scene.{raster_of}
use Rattle.raster_model.specs.Seams.{IsAnchored, IsFirstOpen}
use Rattle.certificates.specs.declared.results.SeamResult.{SeamResult}
use Rattle.certificates.specs.TileSets.{TileSetView, solved_cycles}
use Rattle.flow_network.specs.Nets.{IsNetwork, Shape, State}
use Rattle.seam_regions.specs.Regions.{AreRegionsOf, region_label, offset_at, shifted_by}
use Rattle.seam_regions.specs.RegionsView.{RegionsView}
use Rattle.seam_regions.proofs.CallerLemmas.{regions_of_scene}
use Rattle.offset_guess.specs.declared.link.Link.{Link}
use Rattle.offset_network.specs.declared.lane.Lane.{Lane}
use Rattle.offset_network.specs.Lanes.{AreLanesOf}
use Rattle.offset_network.specs.Networks.{AreFlows, AreLowered, AreSums, IsSolved, raised_height}
use Rattle.offset_network.specs.Seams.{AreSeamLinks}
use Rattle.offset_network.specs.Starts.{AreStartOffsets}
use Rattle.offset_network.specs.Surfaces.{IsGoodSeams}
use Rattle.offset_network.proofs.CertificateLemmas.{certified}

-- an offset lies within 2^46
offset_small : (n : ℕ) (o a p by : ℤ) → n ≤ 3145728 → o ≡ (a +ℤ p) -ℤ by → unsigned_abs a ≤ 2 ^ 42 → (pos 0 ≤ℤ p) × (p ≤ℤ pos (n * 16777218)) → neg_ℤ (pos (2 ^ 42 + 8388608)) ≤ℤ by → by ≤ℤ pos (n * 16777218 + 2 ^ 42 + 8388608) → unsigned_abs o ≤ 2 ^ 46
offset_small n o a p by few e small within low high = omega (arith, ints, few, e, small, within, low, high)

-- cycles that are not moved up leave the phase
at_anchor : (f : ℕ) (b o h by : ℤ) → o ≡ h -ℤ by → by ≡ h +ℤ b → pos f +ℤ pos 65536 *ℤ (b +ℤ o) ≡ pos f
at_anchor f b o h by e d = omega (arith, ints, e, d)

-- an offset is that at the start, and by how much the network raises it
raised : (b o a p by : ℤ) → o ≡ (a +ℤ p) -ℤ by → b +ℤ o ≡ (b +ℤ a) +ℤ (p -ℤ by)
raised b o a p by e = omega (arith, ints, e)

module _ (s : Scene) (m : MaskView) (v : RegionsView) (tiles : TileSetView) (k : SeamResult) (start : List ℤ) (links : List (Option Link)) (lanes : List (Option Lane)) (parts : List ℤ) (z : Shape) (g : State) (by : ℤ)
    (regions : AreRegionsOf s.tiling m v) (small : AreStartOffsets v.count start) (seams : AreSeamLinks (raster_of s) (open_at m) (region_label v) (shifted_by v start (solved_cycles s tiles.results)) links) (parted : AreLanesOf s.terms.steep links (length links) lanes) (net : IsNetwork z) (solved : IsSolved v.count lanes z g) (flows : AreFlows lanes g (length lanes) parts) (sums : AreSums parts (length links) k.flows.items)
    (lowered : AreLowered start g by z.nodes k.offsets.items) (anchor : (x y : ℕ) → IsFirstOpen (raster_of s) (open_at m) x y → by ≡ raised_height start g (region_label v x y) +ℤ solved_cycles s tiles.results x y) (low : neg_ℤ (pos (2 ^ 42 + 8388608)) ≤ℤ by) (high : by ≤ℤ pos (v.count * 16777218 + 2 ^ 42 + 8388608)) where
  offset_of : (u : ℕ) → u < v.count → slice_index_or k.offsets.items u (pos 0) ≡ raised_height start g u -ℤ by
  offset_of u l = lowered.values u (omega (arith, l, solved.built.nodes))

  label_below : (x y : ℕ) → x < s.phase.width → y < s.phase.height → IsTrue (open_at m x y) → region_label v x y < v.count
  label_below x y l h o = (regions_of_scene s m v regions).labelling.below x y (l, h, o)

  anchored : IsAnchored (raster_of s) (open_at m) (lifted (raster_of s) (shifted_by v k.offsets.items (solved_cycles s tiles.results)))
  unfolding offset_at
  anchored x y o first =
      at_anchor ((raster_of s).phase x y) (solved_cycles s tiles.results x y) (slice_index_or k.offsets.items (region_label v x y) (pos 0)) (raised_height start g (region_label v x y)) by (offset_of (region_label v x y) (label_below x y o.0 o.1 o.2)) (anchor x y (o, first))

  lies : (x y : ℕ) → x < s.phase.width → y < s.phase.height → IsTrue (open_at m x y) → shifted_by v k.offsets.items (solved_cycles s tiles.results) x y ≡ shifted_by v start (solved_cycles s tiles.results) x y +ℤ (g.potential (region_label v x y) -ℤ by)
  unfolding offset_at
  lies x y l h o =
      let u = region_label v x y in
      raised (solved_cycles s tiles.results x y) (slice_index_or k.offsets.items u (pos 0)) (slice_index_or start u (pos 0)) (g.potential u) by (offset_of u (label_below x y l h o))

  pub good_seams : IsGoodSeams s m v tiles k
  good_seams = record {
    count = lowered.count ∙ solved.built.nodes;
    in_range = λ u l. offset_small v.count (slice_index_or k.offsets.items u (pos 0)) (slice_index_or start u (pos 0)) (g.potential u) by regions.few (offset_of u l) (small.small u l)
        (let h = solved.heights u (omega (arith, l, solved.built.nodes)) in let n = solved.built.nodes in rw n at h) low high;
    certified = (
      anchored,
      certified (raster_of s) (open_at m) (region_label v) v.count (shifted_by v start (solved_cycles s tiles.results)) links lanes z g parts k.flows.items (regions_of_scene s m v regions) s.terms.steepness.0 seams parted net solved flows sums (shifted_by v k.offsets.items (solved_cycles s tiles.results)) by lies,
    );
  }
