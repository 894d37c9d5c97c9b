-- The items of a report, one after the other.
use Rattle.std.specs.Borrow.{Bor}
use Rattle.std.specs.Slice.{IsItemAt}
use Rattle.std.specs.Prelude.{option_map}
use Rattle.std.specs.List.{AllByRecursion}
use Rattle.std.proofs.Common.{◌≡◌, ℕ, zero, suc, ◌+◌, ◌<◌, ◌≤◌, List, [], ◌∷◌, ◌++◌, Option, Some, None, drop, flat_map, get_or, length, map, slice_get, refl, sym, ap, ap₂, subst, ◌∙◌, append_assoc, arith, Bool, if◌then◌else◌}
use Rattle.std.proofs.lemmas.List.{append-nil, drop_all, drop-map, drop_more, drop-drop}
use Rattle.raster_model.specs.declared.session.Session.{Session}
use Rattle.raster_model.specs.Tiles.{tiles_of}
use Rattle.surface_snapshots.specs.Parts.{Parts}
use Rattle.surface_snapshots.specs.Views.{parts_of}
use Rattle.surface_snapshots.specs.declared.snapshot.Snapshot.{Snapshot}
use Rattle.tile_board.specs.declared.entry.Entry.{Entry}
use Rattle.tile_board.specs.BoardView.{BoardView}
use Rattle.tile_board.specs.Boards.{IsBoard}
use Rattle.report_text.specs.Contents.{IsSurfaceInRange}
use Rattle.report_text.specs.Appending.{AreOver, next_surface}
use Rattle.report_text.specs.Reports.{ItemOf, SurfaceOf, first_of, is_published, item_of, items_of, report_of, surface_of}
use Rattle.report_text.specs.Text.{surface_block_text, tiles_by, tiles_in}
use Rattle.report_text.proofs.ItemsLemmas.{flat_map-push}
use Rattle.sums_and_lists.proofs.Lists.{all_push}
use Rattle.text_lines.specs.Adding.{Adds, View}
use Rattle.text_lines.proofs.AddLemmas.{adds_nothing, adds_then}
use Rattle.sums_and_lists.proofs.Tests.{one_at_most}
use Rattle.sums_and_lists.specs.Sums.{one_if}

-- how far the items of some entries are added: the first i entries, with the first `place` surfaces; each item is as P says
pub record AreAdded (f : ItemOf → List ℕ) (P : ItemOf → Type 0) (entries : List Entry) (surfaces : List Parts) (i place : ℕ) (v w : View) : Type 0 where
  pub items : List ItemOf
  pub rest : items ++ items_of (drop i entries) (drop place surfaces) ≡ items_of entries surfaces
  pub added : Adds v w (flat_map f items)
  pub each : AllByRecursion P items
  pub within : place ≤ i

pub none_added : (f : ItemOf → List ℕ) (P : ItemOf → Type 0) (entries : List Entry) (surfaces : List Parts) (v : View) → AreAdded f P entries surfaces 0 0 v v
none_added f P entries surfaces v = record { items = []; rest = refl; added = adds_nothing v; each = tt; within = omega arith }

-- the items that are left, from the next
items_step : (entries : List Entry) (surfaces : List Parts) (i place : ℕ) (d : Entry) → i < length entries → items_of (drop i entries) (drop place surfaces) ≡ item_of (get_or entries i d) (first_of (drop place surfaces)) ∷ items_of (drop (i + 1) entries) (drop (place + one_if (is_published (get_or entries i d))) surfaces)
unfolding items_of
items_step entries surfaces i place d lt =
    let e = get_or entries i d in
    ap (λ (es : List Entry). items_of es (drop place surfaces)) (drop_more entries i d lt)
    ∙ ap (λ (ps : List Parts). item_of e (first_of (drop place surfaces)) ∷ items_of (drop (i + 1) entries) ps) (drop-drop (one_if (is_published e)) place surfaces)

module _ {f : ItemOf → List ℕ} {P : ItemOf → Type 0} {entries : List Entry} {surfaces : List Parts} {i place : ℕ} {v m : View} (a : AreAdded f P entries surfaces i place v m) where
  pub next_added : {w : View} (d : Entry) (surface : Option SurfaceOf) (next : ℕ) → i < length entries → first_of (drop place surfaces) ≡ surface → next ≡ place + one_if (is_published (get_or entries i d)) → Adds m w (f (item_of (get_or entries i d) surface)) → P (item_of (get_or entries i d) surface) → AreAdded f P entries surfaces (i + 1) next v w
  next_added {w} d surface next lt found is p q =
      let item = item_of (get_or entries i d) surface in
      rw is (record {
        items = a.items ++ item ∷ [];
        rest = append_assoc a.items (item ∷ []) _ ∙ ap (λ (l : List ItemOf). a.items ++ l) (sym (rw found at (items_step entries surfaces i place d lt))) ∙ a.rest;
        added = rw (flat_map-push f a.items item) (adds_then a.added p);
        each = all_push P a.items item a.each q;
        within = omega (arith, a.within, one_at_most (is_published (get_or entries i d)));
      })

  pub all_added : length entries ≤ i → a.items ≡ items_of entries surfaces
  unfolding items_of
  all_added le = sym (append-nil a.items) ∙ sym (ap (λ (es : List Entry). a.items ++ items_of es (drop place surfaces)) (drop_all i entries le)) ∙ a.rest

-- the snapshot at a place, where there is one, has the first of the surfaces from there on
pub first_at : (snapshots : List Snapshot) (place : ℕ) (found : Option (Bor Snapshot)) → IsItemAt snapshots place found → first_of (drop place (map parts_of snapshots)) ≡ next_surface found
first_at snapshots place (Some n) is =
    let same : n.now ≡ get_or snapshots place n.now = is.3.1 n.now in
    ap first_of (drop-map parts_of place snapshots ∙ ap (map parts_of) (drop_more snapshots place n.now is.3.0))
    ∙ ap (λ (x : Snapshot). Some (surface_of (parts_of x))) (sym same)
first_at snapshots place None is = ap first_of (drop-map parts_of place snapshots ∙ ap (map parts_of) (drop_all place snapshots is.3))

abbrev none_surface : Option SurfaceOf
none_surface = None

-- a surface's text by the session that it is over
pub text_over : (s : Session) (tiles : ℕ) (p : Parts) → p.session ≡ s → surface_block_text p.session.scene.phase.width p.session.scene.phase.height tiles (surface_of p) ≡ surface_block_text s.scene.phase.width s.scene.phase.height tiles (surface_of p)
text_over s tiles p is = ap (λ (x : Session). surface_block_text x.scene.phase.width x.scene.phase.height tiles (surface_of p)) is

pub range_over : (s : Session) (tiles : ℕ) (p : Parts) → p.session ≡ s → IsSurfaceInRange p.session.scene.phase.width p.session.scene.phase.height tiles (surface_of p) → IsSurfaceInRange s.scene.phase.width s.scene.phase.height tiles (surface_of p)
range_over s tiles p is r = subst (λ (x : Session). IsSurfaceInRange x.scene.phase.width x.scene.phase.height tiles (surface_of p)) is r

pub none_either : (b : Bool) → (if b then none_surface else none_surface) ≡ None
none_either b = grind arith

-- the tiles of a report are those of its session
pub tiles_are : (s : Session) (es : List Entry) (ps : List Parts) → tiles_of s.scene.tiling ≡ tiles_in (report_of s es ps)
tiles_are s es ps = ap₂ (λ (w h : ℕ). tiles_by w h s.scene.tiling.side) s.scene.same_width.1 s.scene.same_height.1

-- the snapshots of a board are of its session
pub over_board : (v : BoardView) (snapshots : List Snapshot) → map parts_of snapshots ≡ v.surfaces → IsBoard v → AreOver v.session snapshots
over_board v snapshots same board k n at = (board.surfaces.each k (parts_of n) (ap (λ (l : List Parts). slice_get l k) (sym same) ∙ mapped k snapshots n at)).session
  where
    mapped : (k : ℕ) (l : List Snapshot) (n : Snapshot) → slice_get l k ≡ Some n → slice_get (map parts_of l) k ≡ Some (parts_of n)
    mapped k [] n at = absurd (cc)
    mapped zero (x ∷ l) n at = ap (λ (o : Option Snapshot). option_map parts_of o) at
    mapped (suc k) (x ∷ l) n at = mapped k l n at
