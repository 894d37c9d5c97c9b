-- The numbers of a board's report are in their ranges.
use Rattle.std.proofs.Common.{◌≡◌, ℕ, IsTrue, List, [], ◌∷◌, map, refl, subst, arith}
use Rattle.std.specs.Prelude.{filter_map, IsTrue}
use Rattle.std.specs.List.{AllByRecursion}
use Rattle.std.proofs.lemmas.Bool.Decides.{nat_tests}
use Rattle.raster_model.specs.declared.session.Session.{Session}
use Rattle.raster_model.specs.Limits.{is_tiled_size}
use Rattle.raster_model.specs.Tiles.{tiles_of}
use Rattle.surface_snapshots.specs.Parts.{Parts}
use Rattle.tile_board.specs.declared.entry.Entry.{Entry}
use Rattle.tile_board.specs.declared.entry.Entry.TheVariants.{Published}
use Rattle.tile_board.specs.BoardView.{BoardView}
use Rattle.tile_board.specs.Boards.{IsBoard}
use Rattle.tile_board.specs.Histories.{published_of}
use Rattle.report_text.specs.Appending.{AreSmallItems}
use Rattle.report_text.specs.Contents.{IsItemInRange, IsReport}
use Rattle.report_text.specs.Reports.{items_of, report_of}
use Rattle.text_parts.specs.Terms.{terms_of}
use Rattle.report_text.proofs.ItemLemmas.{tiles_are}
use Rattle.report_text.proofs.TermsLemmas.{version_either, version_is}

module _ (width height tiles : ℕ) where
  items_in_range : (es : List Entry) (ps : List Parts) → map (λ (p : Parts). p.seams.revision) ps ≡ filter_map published_of es → AreSmallItems width height tiles (items_of es ps) → AllByRecursion (IsItemInRange width height tiles) (items_of es ps)
  unfolding items_of
  items_in_range [] ps told small = tt
  items_in_range (Published a r ∷ es) [] told small = absurd (cc)
  items_in_range (Published a r ∷ es) (p ∷ ps) told small =
      let first = small.0 in (
        record { entry = first.entry; published = refl; surface = first.surface },
        items_in_range es ps (let e : map (λ (q : Parts). q.seams.revision) ps ≡ filter_map published_of es = cc in e) small.1,
      )
  items_in_range (e ∷ es) ps told small = let first = small.0 in (record { entry = first.entry; published = refl; surface = tt }, items_in_range es ps told small.1)

-- the report of a board
sized : (s : Session) → IsTrue (is_tiled_size s.scene.phase.width s.scene.phase.height)
sized s = let w = s.scene.wide in let h = s.scene.high in let n = s.scene.few in grind (arith, nat_tests)

pub board_in_range : (v : BoardView) → IsBoard v → AreSmallItems v.session.scene.phase.width v.session.scene.phase.height (tiles_of v.session.scene.tiling) (items_of v.entries v.surfaces) → IsReport (report_of v.session v.entries v.surfaces)
board_in_range v is small = record {
  versioned = version_either (terms_of v.session.scene.terms);
  sized = sized v.session;
  sides = v.session.scene.tiling.sides;
  terms = let t = v.session.scene.terms in record { across = t.across; along = t.along; steepness = t.steepness; plain = (version_is (terms_of t)).0 };
  items = subst (λ (n : ℕ). AllByRecursion (IsItemInRange v.session.scene.phase.width v.session.scene.phase.height n) (items_of v.entries v.surfaces)) (tiles_are v.session v.entries v.surfaces) (items_in_range v.session.scene.phase.width v.session.scene.phase.height (tiles_of v.session.scene.tiling) v.entries v.surfaces is.surfaces.revisions small);
}
