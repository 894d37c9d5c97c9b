-- The links of a surface with an offset more on each region.
use Rattle.std.proofs.Common.{◌≡◌, ℕ, ◌+◌, ◌≤◌, ◌^◌, ◌∙◌, ap, sym, subst, refl, arith, Bool, true, false, List, [], ◌∷◌, ◌++◌, length, replicate, inl, inr, to_z, of_z, w32, w64}
use Rattle.std.specs.Prelude.{ℤ, pos, ◌+ℤ◌, ◌-ℤ◌, Option, Some, None, slice_index_or, unsigned_abs}
use Rattle.std.proofs.lemmas.Int.{ints}
use Rattle.std.proofs.lemmas.List.{get_or_append_left, get_or_past, length-append, length-replicate}
use Rattle.std.proofs.Math.Seq.{get_or-append_seam}
use Rattle.raster_model.specs.declared.edge.Edge.{Edge}
use Rattle.raster_model.specs.Flows.{seam_place}
use Rattle.raster_model.specs.Raster.{Raster, cycle_departure, has_open_ends}
use Rattle.raster_model.specs.Sums.{Field, at_edge_end, at_edge_start}
use Rattle.seam_regions.specs.Regions.{offset_at, region_label, shifted_by}
use Rattle.seam_regions.specs.RegionsView.{RegionsView}
use Rattle.offset_guess.specs.declared.link.Link.{Link}
use Rattle.offset_network.specs.declared.start.Start.{Start}
use Rattle.offset_network.specs.Links.{AreLinks, IsLinkIn, link_at}
use Rattle.offset_network.specs.Seams.{AreSeamLinks, JoinRegions, link_of}
use Rattle.offset_network.specs.Starts.{AreMovedLinks, IsStart, moved_departure, moved_link}
use Rattle.offset_network.proofs.SupplyLemmas.{zeros}
use Rattle.sums_and_lists.proofs.Orders.{below_at_past, below_or_last}

-- a departure in code, at 64 bits and then at 32
pub departure_in_code : (a b k f : ℤ) (n : ℕ) → unsigned_abs a ≤ 2 ^ 42 → unsigned_abs b ≤ 2 ^ 42 → unsigned_abs k ≤ 16777217 → f ≡ to_z w32 (of_z w32 k)
    → n ≡ unsigned_abs (to_z w64 (of_z w64 (to_z w64 (of_z w64 f) +ℤ to_z w64 (of_z w64 (to_z w64 (of_z w64 b) -ℤ to_z w64 (of_z w64 a)))))) → n ≤ 16777217
    → to_z w32 (of_z w32 (to_z w64 (of_z w64 (to_z w64 (of_z w64 f) +ℤ to_z w64 (of_z w64 (to_z w64 (of_z w64 b) -ℤ to_z w64 (of_z w64 a))))))) ≡ k +ℤ b -ℤ a
departure_in_code a b k f n la lb lk e en ln = omega (arith, ints, la, lb, lk, e, en, ln)

-- ---- the list
pub moved_none : (offsets : List ℤ) (links : List (Option Link)) → AreMovedLinks offsets links 0 []
moved_none offsets links = record { count = refl; each = λ j l. absurd (omega (arith, l)) }

module _ (old : List (Option Link)) (o : Option Link) where
  last : (j : ℕ) → j ≡ length old → link_at (old ++ o ∷ []) j ≡ o
  last j e = ap (link_at (old ++ o ∷ [])) e ∙ get_or-append_seam old o [] None

  -- one link more
  pub moved_more : (offsets : List ℤ) (links : List (Option Link)) (i : ℕ) → o ≡ moved_link offsets (link_at links i) → AreMovedLinks offsets links i old → AreMovedLinks offsets links (i + 1) (old ++ o ∷ [])
  moved_more offsets links i is h = record {
    count = omega (arith, length-append old (o ∷ []), h.count);
    each = λ j l. elim (below_or_last j i l) [
      | inl m ↦ get_or_append_left old (o ∷ []) None j (omega (arith, m, h.count)) ∙ h.each j m
      | inr m ↦ last j (m ∙ sym h.count) ∙ is ∙ ap (λ (k : ℕ). moved_link offsets (link_at links k)) (sym m)
    ];
  }

  pub join_more : (n : ℕ) → IsLinkIn n o → JoinRegions n old → JoinRegions n (old ++ o ∷ [])
  join_more n is h j =
      elim (below_at_past j (length old)) [
        | inl l ↦ subst (IsLinkIn n) (sym (get_or_append_left old (o ∷ []) None j l)) (h j)
        | inr (inl l) ↦ subst (IsLinkIn n) (sym (last j l)) is
        | inr (inr l) ↦ subst (IsLinkIn n) (sym (get_or_past (old ++ o ∷ []) j None (omega (arith, l, length-append old (o ∷ []))))) (λ k e. cc)
      ]

-- ---- offsets that are all 0 move nothing
stays : (offsets : List ℤ) (o : Option Link) → ((v : ℕ) → slice_index_or offsets v (pos 0) ≡ pos 0) → o ≡ moved_link offsets o
stays offsets None zero = refl
stays offsets (Some k) zero =
    let same : k.departure ≡ moved_departure offsets k = omega (arith, ints, zero k.from, zero k.to) in
    ap (λ (d : ℤ). let m : Link = record { from = k.from; to = k.to; weight = k.weight; departure = d } in Some m) same

not_moved : (offsets : List ℤ) (links : List (Option Link)) → ((v : ℕ) → slice_index_or offsets v (pos 0) ≡ pos 0) → AreMovedLinks offsets links (length links) links
not_moved offsets links zero = record { count = refl; each = λ j l. stays offsets (link_at links j) zero }

-- so from these all links start as they are
pub from_nothing : (n : ℕ) (start : Start) (fit : AreLinks n start.links.items) → start.offsets.items ≡ replicate n (pos 0) → IsStart n start.links.items start
from_nothing n start fit e =
    let zero : (v : ℕ) → slice_index_or start.offsets.items v (pos 0) ≡ pos 0 = λ v. rw e (zeros n v) in
    record {
      small = record { count = rw e (length-replicate n (pos 0)); small = λ v l. (let z = zero v in omega (arith, ints, z)) };
      fit = fit;
      moved = not_moved start.offsets.items start.links.items zero;
    }

-- ---- moved links are those of the surface with the offsets
module _ (r : Raster) (mask : Field Bool) (v : RegionsView) (cycles : Field ℤ) (offsets : List ℤ) where
  moved_there : (e : Edge) → moved_link offsets (link_of r mask (region_label v) cycles e) ≡ link_of r mask (region_label v) (shifted_by v offsets cycles) e
  unfolding offset_at
  moved_there e = go (has_open_ends mask e) refl
    where
      go : (b : Bool) → has_open_ends mask e ≡ b → moved_link offsets (link_of r mask (region_label v) cycles e) ≡ link_of r mask (region_label v) (shifted_by v offsets cycles) e
      go true o =
          let labels = region_label v in
          let same : cycle_departure r cycles e +ℤ slice_index_or offsets (at_edge_end labels e) (pos 0) -ℤ slice_index_or offsets (at_edge_start labels e) (pos 0) ≡ cycle_departure r (shifted_by v offsets cycles) e = omega (arith, ints) in
          rw o (ap (λ (d : ℤ). let m : Link = record { from = at_edge_start labels e; to = at_edge_end labels e; weight = r.weight e; departure = d } in Some m) same)
      go false o = rw o refl

  pub moved_seams : (links moved : List (Option Link)) → AreSeamLinks r mask (region_label v) cycles links → AreMovedLinks offsets links (length links) moved → AreSeamLinks r mask (region_label v) (shifted_by v offsets cycles) moved
  moved_seams links moved seams are = record {
    count = are.count ∙ seams.count;
    each = λ e s. (
        let p = seams.each e s in
        record {
          below = omega (arith, p.below, are.count);
          link = are.each (seam_place r e) p.below ∙ ap (moved_link offsets) p.link ∙ moved_there e;
        });
  }
