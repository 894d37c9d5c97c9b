-- Fair flows on the links of the seams certify the surface with the offsets.
use Rattle.std.proofs.Common.{◌≡◌, ℕ, ◌+◌, ◌*◌, ◌<◌, ◌≤◌, ◌^◌, ◌%◌, ◌∙◌, ap, sym, subst, refl, arith, Bool, true, false, List, to_z, of_z, w32, w64, FitsSigned}
use Rattle.std.specs.Prelude.{ℤ, pos, ◌+ℤ◌, ◌-ℤ◌, ◌*ℤ◌, ◌&&◌, ◌==◌, IsTrue, Option, Some, None, unsigned_abs}
use Rattle.std.specs.Int.{int_wrap}
use Rattle.std.proofs.lemmas.Int.{fits_signed_from_abs, int_wrap_fits, ints, wrapping_add_onto}
use Rattle.std.proofs.lemmas.Bool.{and_from}
use Rattle.raster_model.specs.declared.edge.Edge.{Edge}
use Rattle.raster_model.specs.Sums.{Field, at_edge_end, at_edge_start, is_edge}
use Rattle.raster_model.specs.Raster.{Raster, cycle_departure, departure, has_open_ends, is_seam, lifted, masked_weight, over, seam_cost, seam_edge_cost, steps}
use Rattle.raster_model.specs.Flows.{AreCertifiedSeams, flow_at, is_seam_edge, seam_count, seam_place}
use Rattle.raster_model.specs.Seams.{AreRegions, IsAnchored, IsFirstOpen, flow_bound, flow_in, flow_out, flow_over, flow_over_total, flow_total, region_of}
use Rattle.raster_model.proofs.Balance.{balanced_by_labels}
use Rattle.raster_model.proofs.Exact.{cycles_depart}
use Rattle.raster_model.proofs.SumLemmas.{sum_edges-less, sum_edges-same}
use Rattle.seam_regions.specs.Regions.{offset_at, region_label, shifted_by}
use Rattle.seam_regions.specs.RegionsView.{RegionsView}
use Rattle.offset_guess.specs.declared.link.Link.{Link}
use Rattle.offset_network.specs.FairFlows.{AreFairFlows, IsFairFlow, MeetsCost, brought_at, brought_before, brought_by, flow_on}
use Rattle.offset_network.specs.Links.{link_at}
use Rattle.offset_network.specs.Seams.{AreSeamLinks}
use Rattle.offset_network.specs.Starts.{moved_departure}
use Rattle.offset_network.proofs.CertificateLemmas.{open_term, open_term_first, same_term}
use Rattle.offset_network.proofs.PlaceSums.{sum_at_places}
use Rattle.sums_and_lists.proofs.SumLemmas.{sum_below-add, sum_below-same, where_both, where_zero}
use Rattle.sums_and_lists.specs.Sums.{sum_below, where_true}

-- what ends, and what starts, in a region
abbrev ends : Option Link → ℤ → ℕ → ℤ
ends None x v = pos 0
ends (Some k) x v = where_true (k.to == v) x

abbrev starts : Option Link → ℤ → ℕ → ℤ
starts None x v = pos 0
starts (Some k) x v = where_true (k.from == v) x

brought-parts : (o : Option Link) (x : ℤ) (v : ℕ) → brought_by o x v +ℤ starts o x v ≡ ends o x v
brought-parts None x v = refl
brought-parts (Some k) x v = omega (arith, ints)

-- a surface that is 0 cycles above the phase at the first open pixel meets it there
pub anchored : (r : Raster) (mask : Field Bool) (cycles : Field ℤ) → ((x y : ℕ) → IsFirstOpen r mask x y → cycles x y ≡ pos 0) → IsAnchored r mask (lifted r cycles)
anchored r mask cycles none x y o first = (let z = none x y (o, first) in omega (arith, ints, z))

-- how high it is there, in code
pub height_is : (o c f : ℤ) → unsigned_abs o ≤ 2 ^ 46 → unsigned_abs c ≤ 8388608 → f ≡ to_z w32 (of_z w32 c) → to_z w64 ((of_z w64 o + of_z w64 f) % 18446744073709551616) ≡ c +ℤ o
height_is o c f l m e =
    let p : to_z w64 (of_z w64 o) ≡ o = omega (arith, ints, l) in
    let q : f ≡ c = omega (arith, ints, m, e) in
    let below : of_z w64 o < 2 ^ 64 = omega (arith, ints, l) in
    let fits : FitsSigned w64 (o +ℤ c) = fits_signed_from_abs w64 (o +ℤ c) (omega (arith, ints, l, m)) in
    let swapped : o +ℤ c ≡ c +ℤ o = omega (arith, ints) in
    rw q (wrapping_add_onto w64 (of_z w64 o) c below (fits_signed_from_abs w64 c (omega (arith, ints, m))) ∙ ap (λ (z : ℤ). int_wrap w64 (z +ℤ c)) p ∙ int_wrap_fits w64 (o +ℤ c) fits ∙ swapped)

module _ (r : Raster) (mask : Field Bool) (regions : RegionsView) (base : Field ℤ) (offsets : List ℤ) (links : List (Option Link)) (flows : List ℤ)
    (are : AreRegions r mask (region_label regions) regions.count) (seams : AreSeamLinks r mask (region_label regions) base links) (fair : AreFairFlows r.steep regions.count offsets links flows) where
  abbrev labels : Field ℕ
  labels = region_label regions

  abbrev cycles : Field ℤ
  cycles = shifted_by regions offsets base

  abbrev flow : Edge → ℤ
  flow = flow_at r flows

  flow_is : (e : Edge) → flow e ≡ flow_on flows (seam_place r e)
  unfolding flow_at
  flow_is e = refl

  -- the link of a seam edge with open ends, and the flow on it
  abbrev link_there : Edge → Link
  link_there e = record { from = at_edge_start labels e; to = at_edge_end labels e; weight = r.weight e; departure = cycle_departure r base e }

  open_link : (e : Edge) → IsTrue (is_seam_edge r e) → has_open_ends mask e ≡ true → link_at links (seam_place r e) ≡ Some (link_there e)
  open_link e s o = (seams.each e s).link ∙ rw o refl

  masked_link : (e : Edge) → IsTrue (is_seam_edge r e) → has_open_ends mask e ≡ false → link_at links (seam_place r e) ≡ None
  masked_link e s o = (seams.each e s).link ∙ rw o refl

  fair_there : (e : Edge) → IsTrue (is_seam_edge r e) → IsFairFlow r.steep offsets (link_at links (seam_place r e)) (flow e)
  fair_there e s = subst (IsFairFlow r.steep offsets (link_at links (seam_place r e))) (sym (flow_is e)) (fair.each (seam_place r e) (seams.each e s).below)

  meets : (e : Edge) → IsTrue (is_seam_edge r e) → has_open_ends mask e ≡ true → MeetsCost r.steep offsets (link_there e) (flow e)
  meets e s o = subst (λ (k : Option Link). IsFairFlow r.steep offsets k (flow e)) (open_link e s o) (fair_there e s)

  masked_flow : (e : Edge) → IsTrue (is_seam_edge r e) → has_open_ends mask e ≡ false → flow e ≡ pos 0
  masked_flow e s o = subst (λ (k : Option Link). IsFairFlow r.steep offsets k (flow e)) (masked_link e s o) (fair_there e s)

  -- ---- no flow is greater than the steepness times its weight
  bounded : (e : Edge) → IsTrue (is_seam_edge r e) → unsigned_abs (flow e) ≤ r.steep * masked_weight r mask e
  bounded e s = go (has_open_ends mask e) refl
    where
      go : (b : Bool) → has_open_ends mask e ≡ b → unsigned_abs (flow e) ≤ r.steep * masked_weight r mask e
      go true o = rw o (meets e s o).small
      go false o = rw (masked_flow e s o, o) (omega (arith, ints))

  -- ---- as much flows into a region as out of it
  abbrev ends_at : ℕ → ℕ → ℤ
  ends_at v j = ends (link_at links j) (flow_on flows j) v

  abbrev starts_at : ℕ → ℕ → ℤ
  starts_at v j = starts (link_at links j) (flow_on flows j) v

  flow_in-places : (v : ℕ) → flow_in r flow (region_of mask labels v) ≡ sum_below (seam_count r) (ends_at v)
  flow_in-places v =
      let region = region_of mask labels v in
      sum_edges-same r.width r.height (λ e. where_true (is_seam r e && at_edge_end region e) (flow e)) (λ e. where_true (is_seam r e) (where_true (at_edge_end region e) (flow e))) (λ e i. where_both (is_seam r e) (at_edge_end region e) (flow e))
      ∙ sum_at_places r (λ e. where_true (at_edge_end region e) (flow e)) (ends_at v) (λ e s. at e s (has_open_ends mask e) refl)
    where
      at : (e : Edge) → IsTrue (is_seam_edge r e) → (b : Bool) → has_open_ends mask e ≡ b → ends_at v (seam_place r e) ≡ where_true (at_edge_end (region_of mask labels v) e) (flow e)
      at e s true o =
          ap (λ (k : Option Link). ends k (flow_on flows (seam_place r e)) v) (open_link e s o)
          ∙ ap (where_true (at_edge_end labels e == v)) (sym (flow_is e))
          ∙ open_term (at_edge_start mask e) (at_edge_end mask e) (at_edge_end labels e == v) (flow e) o
      at e s false o = ap (λ (k : Option Link). ends k (flow_on flows (seam_place r e)) v) (masked_link e s o) ∙ sym (where_zero (at_edge_end (region_of mask labels v) e) (flow e) (masked_flow e s o))

  flow_out-places : (v : ℕ) → flow_out r flow (region_of mask labels v) ≡ sum_below (seam_count r) (starts_at v)
  flow_out-places v =
      let region = region_of mask labels v in
      sum_edges-same r.width r.height (λ e. where_true (is_seam r e && at_edge_start region e) (flow e)) (λ e. where_true (is_seam r e) (where_true (at_edge_start region e) (flow e))) (λ e i. where_both (is_seam r e) (at_edge_start region e) (flow e))
      ∙ sum_at_places r (λ e. where_true (at_edge_start region e) (flow e)) (starts_at v) (λ e s. at e s (has_open_ends mask e) refl)
    where
      at : (e : Edge) → IsTrue (is_seam_edge r e) → (b : Bool) → has_open_ends mask e ≡ b → starts_at v (seam_place r e) ≡ where_true (at_edge_start (region_of mask labels v) e) (flow e)
      at e s true o =
          ap (λ (k : Option Link). starts k (flow_on flows (seam_place r e)) v) (open_link e s o)
          ∙ ap (where_true (at_edge_start labels e == v)) (sym (flow_is e))
          ∙ open_term_first (at_edge_start mask e) (at_edge_end mask e) (at_edge_start labels e == v) (flow e) o
      at e s false o = ap (λ (k : Option Link). starts k (flow_on flows (seam_place r e)) v) (masked_link e s o) ∙ sym (where_zero (at_edge_start (region_of mask labels v) e) (flow e) (masked_flow e s o))

  balanced_at : (v : ℕ) → v < regions.count → flow_in r flow (region_of mask labels v) ≡ flow_out r flow (region_of mask labels v)
  unfolding brought_before
  balanced_at v l =
      let m = seam_count r in
      let none : sum_below m (brought_at links flows v) ≡ pos 0 = ap (λ (i : ℕ). sum_below i (brought_at links flows v)) (sym seams.count) ∙ fair.balanced v l in
      let same = sum_below-same m (λ j. brought_at links flows v j +ℤ starts_at v j) (ends_at v) (λ j k. brought-parts (link_at links j) (flow_on flows j) v) in
      omega (arith, ints, flow_in-places v, flow_out-places v, same, sum_below-add m (brought_at links flows v) (starts_at v), none)

  -- ---- the bound is the cost
  departs : (e : Edge) → departure r (lifted r cycles) e ≡ moved_departure offsets (link_there e)
  unfolding offset_at
  departs e = cycles_depart r cycles e ∙ omega (arith, ints)

  open_equal : (e : Edge) → IsTrue (is_seam_edge r e) → has_open_ends mask e ≡ true → (flow e *ℤ departure r (lifted r cycles) e) -ℤ pos (over (masked_weight r mask e) (flow e)) ≡ pos (masked_weight r mask e * steps r.steep (departure r (lifted r cycles) e))
  open_equal e s o = rw (departs e, o) (meets e s o).equal

  masked_over : (e : Edge) → IsTrue (is_seam_edge r e) → has_open_ends mask e ≡ false → pos (over (masked_weight r mask e) (flow e)) ≡ pos 0
  masked_over e s o = rw (masked_flow e s o, o) refl

  equal : flow_bound r mask (lifted r cycles) flow ≡ seam_cost r mask (lifted r cycles)
  unfolding flow_total flow_over_total seam_cost
  equal =
      let d = departure r (lifted r cycles) in
      let total = λ (e : Edge). where_true (is_seam r e && has_open_ends mask e) (flow e *ℤ d e) in
      sym (sum_edges-less r.width r.height total (flow_over r mask flow))
      ∙ sum_edges-same r.width r.height (λ e. total e -ℤ flow_over r mask flow e) (seam_edge_cost r mask (lifted r cycles))
      (λ e i. same_term (is_seam r e) (has_open_ends mask e) (flow e *ℤ d e) (pos (over (masked_weight r mask e) (flow e))) (pos (masked_weight r mask e * steps r.steep (d e)))
      (λ s o. open_equal e (and_from (is_edge r.width r.height e) (is_seam r e) i s) o)
      (λ s o. masked_over e (and_from (is_edge r.width r.height e) (is_seam r e) i s) o))

  pub fair_certifies : AreCertifiedSeams r mask (lifted r cycles) flows
  fair_certifies = (
    fair.count ∙ seams.count,
    record {
      bounded = λ e i s. bounded e (and_from (is_edge r.width r.height e) (is_seam r e) i s);
      balanced = balanced_by_labels r mask labels regions.count are.labelling flow balanced_at;
      equal = equal;
    },
  )
