-- The links of seam edges, and their places in the list.
use Rattle.std.proofs.Common.{◌≡◌, ℕ, ◌+◌, ◌<◌, ◌≤◌, ◌∙◌, ap, sym, subst, refl, arith, Bool, true, false, List, [], ◌∷◌, ◌++◌, length, inl, inr, to_z, of_z, w32}
use Rattle.std.specs.Prelude.{ℤ, ◌&&◌, nat_lt, IsTrue, Option, Some, None, if◌then◌else◌, unsigned_abs}
use Rattle.std.proofs.lemmas.Int.{ints}
use Rattle.std.proofs.lemmas.List.{get_or_append_left, get_or_past, length-append}
use Rattle.std.proofs.Math.Seq.{get_or-append_seam}
use Rattle.std.proofs.lemmas.Bool.Decides.{nat_tests}
use Rattle.raster_model.specs.declared.edge.Edge.{Edge}
use Rattle.raster_model.specs.declared.scene.Scene.{Scene}
use Rattle.raster_model.specs.Scene.{raster_of}
use Rattle.raster_model.specs.MaskView.{MaskView}
use Rattle.raster_model.specs.Masks.{open_at}
use Rattle.raster_model.specs.Sums.{Field, at_edge_start, at_edge_end, end_x, end_y, down_edge, right_edge}
use Rattle.raster_model.specs.Raster.{Raster, cycle_departure, is_seam, masked_weight}
use Rattle.raster_model.specs.Flows.{is_seam_edge, seams_before, seams_from}
use Rattle.raster_model.proofs.FlowLemmas.{place-down, place-right}
use Rattle.raster_model.specs.Seams.{IsLabelling, IsOpenPixel}
use Rattle.certificates.specs.EdgeWords.{HoldsBefore}
use Rattle.certificates.specs.SeamVerdicts.{IsSeamEdge}
use Rattle.certificates.proofs.EdgeLemmas.{both_hold, one_more}
use Rattle.seam_regions.specs.Regions.{AreRegionsOf, region_label, region_at}
use Rattle.seam_regions.specs.RegionsView.{RegionsView}
use Rattle.offset_guess.specs.declared.link.Link.{Link}
use Rattle.offset_network.specs.Links.{IsLink, IsLinkIn, link_at}
use Rattle.offset_network.specs.Seams.{AddsLink, AddsLinksFrom, IsPlacedFrom, IsPlacedSince, JoinRegions, link_of}
use Rattle.sums_and_lists.proofs.Tests.{one_at_most}
use Rattle.std.proofs.lemmas.Bool.{and_from}
use Rattle.sums_and_lists.proofs.Orders.{below_at_past}
use Rattle.sums_and_lists.specs.Sums.{one_if}

-- ---- the ends of a seam edge
edge_tells : (w h x y a b : ℕ) (s : Bool) → IsTrue (((nat_lt x w && nat_lt y h) && (nat_lt a w && nat_lt b h)) && s) → (x < w) × (y < h) × (a < w) × (b < h)
edge_tells w h x y a b s t = (grind (arith, nat_tests), grind (arith, nat_tests), grind (arith, nat_tests), grind (arith, nat_tests))

pub ends_in : (r : Raster) (e : Edge) → IsTrue (is_seam_edge r e) → (e.x < r.width) × (e.y < r.height) × (end_x e < r.width) × (end_y e < r.height)
ends_in r e t = edge_tells r.width r.height e.x e.y (end_x e) (end_y e) (is_seam r e) t

-- a pixel with a region is open, and the region is its label
picked : (b : Bool) (l n : ℕ) → Some n ≡ (if b then Some l else None) → (b ≡ true) × (n ≡ l)
picked true l n e = (refl, some_same n l e)
  where
    some_same : (n l : ℕ) → Some n ≡ Some l → n ≡ l
    some_same n l e = cc
picked false l n e = cc

pub has_region : (s : Scene) (m : MaskView) (v : RegionsView) (x y n : ℕ) → AreRegionsOf s.tiling m v → IsOpenPixel (raster_of s) (open_at m) x y → Some n ≡ region_at v x y → n ≡ region_label v x y
has_region s m v x y n is o e = (picked (open_at m x y) (region_label v x y) n (e ∙ is.told x y (omega (arith, o.0, s.same_width)) (omega (arith, o.1, s.same_height)))).1

-- so it is at both ends of a seam edge
pub record ReadsEnds (mask : Field Bool) (labels : Field ℕ) (e : Edge) (a b : ℕ) : Type 0 where
  pub start : at_edge_start mask e ≡ true
  pub end : at_edge_end mask e ≡ true
  pub from : a ≡ at_edge_start labels e
  pub to : b ≡ at_edge_end labels e

pub reads_ends : (s : Scene) (m : MaskView) (v : RegionsView) (e : Edge) (x y a b : ℕ) → AreRegionsOf s.tiling m v → IsTrue (is_seam_edge (raster_of s) e) → x ≡ end_x e → y ≡ end_y e → Some a ≡ region_at v e.x e.y → Some b ≡ region_at v x y → ReadsEnds (open_at m) (region_label v) e a b
reads_ends s m v e x y a b is seam ex ey ea eb =
    let t = ends_in (raster_of s) e seam in
    let w : s.tiling.width ≡ s.phase.width = s.same_width.1 in
    let h : s.tiling.height ≡ s.phase.height = s.same_height.1 in
    let p = picked (open_at m e.x e.y) (region_label v e.x e.y) a (ea ∙ is.told e.x e.y (omega (arith, t.0, w)) (omega (arith, t.1, h))) in
    let q = picked (open_at m (end_x e) (end_y e)) (region_label v (end_x e) (end_y e)) b ((rw (ex, ey) at eb) ∙ is.told (end_x e) (end_y e) (omega (arith, t.2, w)) (omega (arith, t.3, h))) in
    record { start = p.0; end = q.0; from = p.1; to = q.1 }

-- the link made of what the code reads
pub link_made : (r : Raster) (mask : Field Bool) (labels : Field ℕ) (cycles : Field ℤ) (e : Edge) (a b w : ℕ) (d : ℤ) → ReadsEnds mask labels e a b → w ≡ masked_weight r mask e → d ≡ cycle_departure r cycles e
    → (let k : Link = record { from = a; to = b; weight = w; departure = d } in Some k) ≡ link_of r mask labels cycles e
link_made r mask labels cycles e a b w d reads ew ed =
    let o = and_from (at_edge_start mask e) (at_edge_end mask e) reads.start reads.end in
    let w' : w ≡ r.weight e = ew ∙ (rw o refl) in
    rw (o, reads.from, reads.to, w', ed) refl

-- it joins two regions, and is small
pub link_fits : (r : Raster) (mask : Field Bool) (labels : Field ℕ) (n : ℕ) (e : Edge) (a b w : ℕ) (d : ℤ) (k : Link) → IsLabelling r mask labels n → IsTrue (is_seam_edge r e) → ReadsEnds mask labels e a b → w < 65536 → unsigned_abs d ≤ 16777217 → (let m : Link = record { from = a; to = b; weight = w; departure = d } in Some m) ≡ Some k → IsLink n k
link_fits r mask labels n e a b w d k lab seam reads lw ld q =
    let t = ends_in r e seam in
    let m : Link = record { from = a; to = b; weight = w; departure = d } in
    let la = lab.below e.x e.y (t.0, t.1, reads.start) in
    let lb = lab.below (end_x e) (end_y e) (t.2, t.3, reads.end) in
    subst (IsLink n) (same m k q) (record { from = omega (arith, reads.from, la); to = omega (arith, reads.to, lb); weight = omega (arith, lw); departure = ld })
  where
    same : (m k : Link) → Some m ≡ Some k → m ≡ k
    same m k e = cc

-- a departure in code at 32 bits
pub departure_is : (d x : ℤ) → d ≡ x → unsigned_abs d ≤ 16777217 → (to_z w32 (of_z w32 d) ≡ x) × (unsigned_abs (to_z w32 (of_z w32 d)) ≤ 16777217)
departure_is d x e l = (omega (arith, ints, e, l), omega (arith, ints, l))

-- ---- the list
no_link : (n : ℕ) → IsLinkIn n None
no_link n k e = cc

pub join_none : (n : ℕ) → JoinRegions n []
join_none n i = no_link n

module _ (r : Raster) (mask : Field Bool) (labels : Field ℕ) (n : ℕ) (cycles : Field ℤ) where
  -- one link more
  pub adds_link : (e : Edge) (old : List (Option Link)) (o : Option Link) → is_seam_edge r e ≡ true → o ≡ link_of r mask labels cycles e → IsLinkIn n o → AddsLink r mask labels n cycles e old (old ++ o ∷ [])
  adds_link e old o seam is fits =
      let size : length (old ++ o ∷ []) ≡ length old + 1 = length-append old (o ∷ []) in
      let last : link_at (old ++ o ∷ []) (length old) ≡ o = get_or-append_seam old o [] None in
      let kept = λ (i : ℕ) (l : i < length old). get_or_append_left old (o ∷ []) None i l in
      record {
        count = (let one : one_if (is_seam_edge r e) ≡ 1 = rw seam refl in omega (arith, size, one));
        kept = kept;
        placed = λ start at s. record { behind = length old; place = sym at; below = omega (arith, size); link = last ∙ is };
        join = λ j i. elim (below_at_past i (length old)) [
          | inl l ↦ subst (IsLinkIn n) (sym (kept i l)) (j i)
          | inr (inl l) ↦ subst (IsLinkIn n) (sym (ap (link_at (old ++ o ∷ [])) l ∙ last)) fits
          | inr (inr l) ↦ subst (IsLinkIn n) (sym (get_or_past (old ++ o ∷ []) i None (omega (arith, l, size)))) (no_link n)
        ];
      }

  placed_kept : (start : ℕ) (e : Edge) (old new : List (Option Link)) → length old ≤ length new → ((i : ℕ) → i < length old → link_at new i ≡ link_at old i) → IsPlacedFrom r mask labels cycles start old e → IsPlacedFrom r mask labels cycles start new e
  placed_kept start e old new l kept p = record { behind = p.behind; place = p.place; below = omega (arith, l, p.below); link = kept p.behind p.below ∙ p.link }

  -- those of a pixel's right edge and of its down edge
  pub adds_both : (x y : ℕ) (old mid new : List (Option Link)) → AddsLink r mask labels n cycles (right_edge x y) old mid → AddsLink r mask labels n cycles (down_edge x y) mid new → AddsLinksFrom r mask labels n cycles x y old new
  adds_both x y old mid new p q = record {
    count = omega (arith, p.count, q.count);
    kept = λ i l. q.kept i (omega (arith, l, p.count)) ∙ p.kept i l;
    placed = λ start at. both_hold (IsSeamEdge r) (IsPlacedFrom r mask labels cycles start new) x y
        (λ s. placed_kept start (right_edge x y) mid new (omega (arith, q.count)) q.kept (p.placed start (at ∙ sym (place-right r x y)) s))
        (λ s. q.placed start (omega (arith, at, p.count, place-down r x y)) s);
    join = λ j. q.join (p.join j);
  }

  -- and all those of the rows from a on that come before a pixel
  pub still_placed : (a x y : ℕ) (old new : List (Option Link)) → seams_before r 0 a + length old ≡ seams_before r x y → AddsLinksFrom r mask labels n cycles x y old new → HoldsBefore (IsSeamEdge r) (IsPlacedSince r mask labels cycles a old) x y → HoldsBefore (IsSeamEdge r) (IsPlacedSince r mask labels cycles a new) (x + 1) y
  still_placed a x y old new at p before =
      one_more (IsSeamEdge r) (IsPlacedSince r mask labels cycles a new) x y
      (λ e s b from. placed_kept (seams_before r 0 a) e old new (omega (arith, p.count)) p.kept (before e s b from))
      (λ e s ex ey from. p.placed (seams_before r 0 a) at e s ex ey)

-- a seam edge starts at a pixel of the raster
pub in_raster : (r : Raster) (e : Edge) → IsSeamEdge r e → (0 ≤ e.x) × (e.x < r.width) × (0 ≤ e.y) × (e.y < r.height)
in_raster r e s = let t = ends_in r e s in (omega arith, t.0, omega arith, t.1)

pub seams_at_most_two : (r : Raster) (x y : ℕ) → seams_from r x y ≤ 2
seams_at_most_two r x y = omega (arith, one_at_most (is_seam_edge r (right_edge x y)), one_at_most (is_seam_edge r (down_edge x y)))
