-- What is certified over the gathered mask and results is certified over all that a board would publish with them.
use Rattle.std.proofs.Common.{◌≡◌, ◌∙◌, ℕ, ◌<◌, refl, sym, ap, subst, List, [], ◌∷◌, Some}
use Rattle.std.specs.Prelude.{map}
use Rattle.std.specs.Arc.{arc_value}
use Rattle.raster_model.specs.declared.session.Session.{Session}
use Rattle.raster_model.specs.MaskView.{MaskView}
use Rattle.raster_model.specs.Masks.{open_at}
use Rattle.certificates.specs.declared.results.SeamResult.{SeamResult}
use Rattle.certificates.specs.declared.results.TileResult.{TileResult}
use Rattle.certificates.specs.declared.verdicts.SeamVerdict.TheVariants.{Good}
use Rattle.certificates.specs.TileSets.{TileSetView, solved_cycles}
use Rattle.seam_regions.specs.Regions.{AreRegionsOf}
use Rattle.seam_regions.specs.RegionsView.{RegionsView}
use Rattle.offset_network.specs.Surfaces.{IsGoodSeams}
use Rattle.surface_snapshots.specs.Parts.{Parts, parts_from}
use Rattle.surface_snapshots.specs.SeamsView.{SeamsView, seams_of}
use Rattle.surface_snapshots.specs.Verdicts.{IsPartsVerdict}
use Rattle.tile_board.specs.declared.gathered.Gathered.{Gathered}
use Rattle.tile_board.specs.BoardView.{BoardView}
use Rattle.tile_board.specs.Calls.{AreKeptResults, IsMaskNow}
use Rattle.collector_core.specs.Collecting.{WillPublish, CertifyGathered}
use Rattle.collector_core.proofs.JoinLemmas.{is_certified}
use Rattle.surface_snapshots.proofs.PartsLemmas.{verdict_too}

-- two sets of a board's results are one
same_lists : {A : Type 0} (xs ys : List A) → map Some xs ≡ map Some ys → xs ≡ ys
same_lists [] [] e = refl
same_lists [] (y ∷ ys) e = absurd (cc)
same_lists (x ∷ xs) [] e = absurd (cc)
same_lists (x ∷ xs) (y ∷ ys) e = (let tails : map Some xs ≡ map Some ys = cc in let heads : x ≡ y = cc in rw (heads, same_lists xs ys tails) refl)

pub solved_same : (v : BoardView) (ks ls : TileSetView) → AreKeptResults v ks → AreKeptResults v ls → (x y : ℕ) → solved_cycles v.session.scene ks.results x y ≡ solved_cycles v.session.scene ls.results x y
solved_same v ks ls are also x y = ap (λ (results : List TileResult). solved_cycles v.session.scene results x y) (same_lists ks.results ls.results (are.results ∙ sym also.results))

-- two masks that are a board's present one
masks_agree : (v : BoardView) (m n : MaskView) → IsMaskNow v m → IsMaskNow v n → (x y : ℕ) → x < v.session.scene.phase.width → y < v.session.scene.phase.height → open_at m x y ≡ open_at n x y
masks_agree v m n p q x y l h = p.clear_at x y l h ∙ sym (q.clear_at x y l h)

-- of a session and offsets that are the same as others
parts_are : (s : Session) (p : Parts) (a : SeamResult) → p.session ≡ s → p.seams ≡ seams_of a → IsPartsVerdict (parts_from s p.mask p.regions p.tiles a) Good → IsPartsVerdict p Good
parts_are s p a session seams good =
    subst (λ (k : SeamsView). IsPartsVerdict (record { session = p.session; mask = p.mask; regions = p.regions; tiles = p.tiles; seams = k }) Good) (sym seams)
    (subst (λ (u : Session). IsPartsVerdict (parts_from u p.mask p.regions p.tiles a) Good) (sym session) good)

module _ (g : Gathered) (regions : RegionsView) (seams : SeamResult) (are : AreRegionsOf (arc_value g.session).scene.tiling g.mask regions) (good : IsGoodSeams (arc_value g.session).scene g.mask regions g.tiles seams) where
  certified : IsPartsVerdict (parts_from (arc_value g.session) g.mask regions g.tiles seams) Good
  certified = is_certified (arc_value g.session) g.mask regions g.tiles seams good

  pub certify_gathered : CertifyGathered g seams
  certify_gathered others is = verdict_too (arc_value g.session) g.mask g.mask regions others g.tiles g.tiles seams (λ x y l h. refl) are is (λ x y l h. refl) certified

  pub publishable : WillPublish g seams
  publishable v p gathering parts =
      let s = arc_value g.session in
      let here : IsPartsVerdict (parts_from v.session g.mask regions g.tiles seams) Good = subst (λ (u : Session). IsPartsVerdict (parts_from u g.mask regions g.tiles seams) Good) gathering.session certified in
      let are_here : AreRegionsOf v.session.scene.tiling g.mask regions = subst (λ (u : Session). AreRegionsOf u.scene.tiling g.mask regions) gathering.session are in
      parts_are v.session p seams parts.session parts.seams
      (verdict_too v.session g.mask p.mask regions p.regions g.tiles p.tiles seams
      (masks_agree v g.mask p.mask gathering.mask parts.mask) are_here parts.regions
      (λ x y l h. solved_same v g.tiles p.tiles gathering.tiles parts.tiles x y) here)
