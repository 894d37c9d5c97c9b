-- The links of strips of rows, and those of all rows.
use Rattle.std.proofs.Common.{◌≡◌, ◌∙◌, ℕ, zero, suc, ◌+◌, ◌*◌, ◌/◌, ◌%◌, ◌-◌, ◌<◌, ◌≤◌, ap, sym, subst, refl, arith, List, [], ◌++◌, length, inl, inr}
use Rattle.std.specs.Prelude.{ℤ, Bool, Option, None, min, slice_index_or, slice_set}
use Rattle.std.proofs.lemmas.Bool.{cases_eq, cases_lt}
use Rattle.std.proofs.lemmas.Grind.{div_ceil_times}
use Rattle.std.proofs.lemmas.List.{get_or-append_right, get_or-set_other, get_or-set_same, get_or_append_left, length-append, length-set}
use Rattle.std.proofs.Math.Nat.{mul-le-mul_right}
use Rattle.raster_model.specs.declared.edge.Edge.{Edge}
use Rattle.raster_model.specs.declared.scene.Scene.{Scene}
use Rattle.raster_model.specs.Scene.{raster_of}
use Rattle.raster_model.specs.Sums.{Field}
use Rattle.raster_model.specs.Raster.{Raster}
use Rattle.raster_model.specs.Flows.{seam_count, seam_place, seams_before}
use Rattle.raster_model.proofs.FlowLemmas.{before-next, before-none, before-row}
use Rattle.raster_model.specs.Masks.{open_at}
use Rattle.certificates.specs.EdgeWords.{HoldsBefore}
use Rattle.certificates.specs.SeamVerdicts.{IsSeamEdge}
use Rattle.certificates.specs.TileSets.{solved_cycles}
use Rattle.seam_regions.specs.Regions.{region_label}
use Rattle.seam_regions.specs.RegionsView.{RegionsView}
use Rattle.offset_guess.specs.declared.link.Link.{Link}
use Rattle.offset_network.specs.Links.{AreLinks, IsLinkIn, link_at}
use Rattle.offset_network.specs.declared.strips.Strip.{Strip}
use Rattle.offset_network.specs.declared.surface.TileSurface.{TileSurface}
use Rattle.offset_network.specs.Strips.{AreFound, AreLinksOfRows, IsFound}
use Rattle.offset_network.specs.Seams.{AreSeamLinks, AreStripLinks, IsPlaced, IsPlacedFrom, IsPlacedSince, JoinRegions}
use Rattle.offset_network.proofs.PlaceLemmas.{in_raster, join_none, seams_at_most_two}

-- ---- how many seam edges there are
row_few : (r : Raster) (x y : ℕ) → seams_before r x y ≤ seams_before r 0 y + 2 * x
row_few r zero y = omega arith
row_few r (suc x) y =
    let e : suc x ≡ x + 1 = omega arith in
    rw e (let two = seams_at_most_two r x y in omega (arith, before-next r x y, row_few r x y, two))

pub seams_few : (r : Raster) (y : ℕ) → r.width ≤ 4096 → seams_before r 0 y ≤ 8192 * y
seams_few r zero wide = omega (arith, before-none r)
seams_few r (suc y) wide =
    let e : suc y ≡ y + 1 = omega arith in
    rw e (omega (arith, wide, before-row r y, row_few r r.width y, seams_few r y wide))

module _ (r : Raster) (mask : Field Bool) (labels : Field ℕ) (cycles : Field ℤ) where
  -- ---- one strip: nothing yet, and all of it
  pub strip_begun : (a : ℕ) (links : List (Option Link)) → HoldsBefore (IsSeamEdge r) (IsPlacedSince r mask labels cycles a links) 0 a
  strip_begun a links e s before from = absurd (omega (arith, before, from))

  pub strip_done : (a b : ℕ) (links : List (Option Link)) → seams_before r 0 a + length links ≡ seams_before r 0 b → HoldsBefore (IsSeamEdge r) (IsPlacedSince r mask labels cycles a links) 0 b → AreStripLinks r mask labels cycles a b links
  strip_done a b links counted placed = record { count = counted; each = λ e s from upto. placed e s (inl upto) from }

  -- ---- strips one after another
  pub strip_none : (a : ℕ) → AreStripLinks r mask labels cycles a a []
  strip_none a = record { count = omega arith; each = λ e s from upto. absurd (omega (arith, from, upto)) }

  module _ (a b c : ℕ) (front next : List (Option Link)) (p : AreStripLinks r mask labels cycles a b front) (q : AreStripLinks r mask labels cycles b c next) where
    size : length (front ++ next) ≡ length front + length next
    size = length-append front next

    in_front : (e : Edge) → IsPlacedFrom r mask labels cycles (seams_before r 0 a) front e → IsPlacedFrom r mask labels cycles (seams_before r 0 a) (front ++ next) e
    in_front e at = record {
      behind = at.behind;
      place = at.place;
      below = omega (arith, size, at.below);
      link = get_or_append_left front next None at.behind at.below ∙ at.link;
    }

    behind_front : (e : Edge) → IsPlacedFrom r mask labels cycles (seams_before r 0 b) next e → IsPlacedFrom r mask labels cycles (seams_before r 0 a) (front ++ next) e
    behind_front e at =
        let i = length front + at.behind in
        let back : i - length front ≡ at.behind = omega arith in
        record {
          behind = i;
          place = omega (arith, at.place, p.count);
          below = omega (arith, size, at.below);
          link = get_or-append_right front next (length front) i None refl (omega arith) ∙ ap (link_at next) back ∙ at.link;
        }

    pub strips_join : AreStripLinks r mask labels cycles a c (front ++ next)
    strips_join = record {
      count = omega (arith, size, p.count, q.count);
      each = λ e s from upto. elim (cases_lt e.y b) [
        | inl l ↦ in_front e (p.each e s from l)
        | inr l ↦ behind_front e (q.each e s l upto)
      ];
    }

  -- ---- all rows
  pub whole_strip : (links : List (Option Link)) → AreStripLinks r mask labels cycles 0 r.height links → AreSeamLinks r mask labels cycles links
  unfolding seam_count
  whole_strip links p = record {
    count = omega (arith, p.count, before-none r);
    each = λ e s. placed e (p.each e s (omega arith) (in_raster r e s).3);
  }
    where
      placed : (e : Edge) → IsPlacedFrom r mask labels cycles (seams_before r 0 0) links e → IsPlaced r mask labels cycles links e
      placed e at =
          let same : seam_place r e ≡ at.behind = omega (arith, at.place, before-none r) in
          record { below = omega (arith, same, at.below); link = ap (link_at links) same ∙ at.link }

-- they are no more than there can be
pub links_fit : (s : Scene) (mask : Field Bool) (labels : Field ℕ) (cycles : Field ℤ) (n : ℕ) (links : List (Option Link)) → AreStripLinks (raster_of s) mask labels cycles 0 s.phase.height links → JoinRegions n links → n ≤ 3145728 → AreLinks n links
links_fit s mask labels cycles n links p join few = record {
  few = (let r = raster_of s in omega (arith, p.count, before-none r, seams_few r s.phase.height s.wide.1, s.high));
  regions = few;
  each = join;
}

-- the links of two strips join regions
pub joined_join : (n : ℕ) (front next : List (Option Link)) → JoinRegions n front → JoinRegions n next → JoinRegions n (front ++ next)
joined_join n front next p q i = elim (cases_lt i (length front)) [
  | inl l ↦ subst (IsLinkIn n) (sym (get_or_append_left front next None i l)) (p i)
  | inr l ↦ subst (IsLinkIn n) (sym (get_or-append_right front next (length front) i None refl l)) (q (i - length front))
]

-- ---- the links of rows of a surface
module _ (s : TileSurface) (regions : RegionsView) where
  pub rows_none : AreLinksOfRows s regions 0 0 []
  rows_none = record { seams = strip_none (raster_of s.scene.now) (open_at s.mask.now) (region_label regions) (solved_cycles s.scene.now s.tiles.now.results) 0; join = join_none regions.count }

  -- those of the strips so far and of one more
  pub rows_joined : (rows place : ℕ) (front next : List (Option Link)) → place * rows < s.scene.now.phase.height → AreLinksOfRows s regions 0 (min (place * rows) s.scene.now.phase.height) front → AreLinksOfRows s regions (place * rows) (min ((place + 1) * rows) s.scene.now.phase.height) next → AreLinksOfRows s regions 0 (min ((place + 1) * rows) s.scene.now.phase.height) (front ++ next)
  rows_joined rows place front next begins p q =
      let h = s.scene.now.phase.height in
      let same : min (place * rows) h ≡ place * rows = omega (arith, begins) in
      let before = subst (λ (n : ℕ). AreLinksOfRows s regions 0 n front) same p in
      record {
        seams = strips_join (raster_of s.scene.now) (open_at s.mask.now) (region_label regions) (solved_cycles s.scene.now s.tiles.now.results) 0 (place * rows) (min ((place + 1) * rows) h) front next before.seams q.seams;
        join = joined_join regions.count front next before.join q.join;
      }

  -- a strip whose list was taken is no exception
  pub found_kept : (rows i : ℕ) (strips : List Strip) → AreFound s regions rows strips → AreFound s regions rows (slice_set strips i (record { links = None }))
  found_kept rows i strips found place d below = elim (cases_eq place i) [
    | inl e ↦ subst (IsFound s regions rows place) (sym (taken e)) tt
    | inr e ↦ subst (IsFound s regions rows place) (sym (get_or-set_other strips i place (record { links = None }) d e)) (found place d within)
  ]
    where
      within : place < length strips
      within = omega (arith, below, length-set strips i (record { links = None }))

      taken : place ≡ i → slice_index_or (slice_set strips i (record { links = None })) place d ≡ record { links = None }
      taken e = rw e (get_or-set_same strips i (record { links = None }) d (omega (arith, e, within)))

-- ---- strips of so many rows begin before the end of the raster, and all of them have all of its rows
pub strip_begins : (h rows place : ℕ) → 0 < rows → place < h / rows + min 1 (h % rows) → place * rows < h
strip_begins h rows place some below =
    let next : place + 1 ≤ h / rows + min 1 (h % rows) = omega (arith, below) in
    omega (arith, (div_ceil_times h rows some).1, mul-le-mul_right rows next)

pub strips_end : (h rows place : ℕ) → 0 < rows → h / rows + min 1 (h % rows) ≤ place → min (place * rows) h ≡ h
strips_end h rows place some past = omega (arith, (div_ceil_times h rows some).0, mul-le-mul_right rows past)
