-- Wrapped differences and whole cycles.
use Rattle.std.proofs.Common.{◌≡◌, ℕ, suc, ◌*◌, ◌/◌, ◌<◌, ◌≤◌, ap, refl, subst, sym, arith, Bool, true, false}
use Rattle.std.specs.Prelude.{ℤ, pos, negsuc, ◌+ℤ◌, ◌-ℤ◌, ◌*ℤ◌, ◌≤ℤ◌, ◌<ℤ◌, int_div, unsigned_abs}
use Rattle.std.specs.Int.{int_div_euclid, int_rem_euclid}
use Rattle.std.proofs.lemmas.Int.{ints}
use Rattle.raster_model.specs.declared.edge.Edge.{Edge}
use Rattle.raster_model.specs.declared.terms.Terms.{Terms}
use Rattle.raster_model.specs.Limits.{IsSlope}
use Rattle.raster_model.specs.Phase.{IsWrapped, wrapped_by, turns_by, WrappedHasNoSlope, WrappedIsIt, WrappedIsOnly, TurnsAreExact}
use Rattle.raster_model.specs.Raster.{Raster, gradient, turns_of}
use Rattle.raster_model.specs.Sums.{at_edge_start, at_edge_end}
use Rattle.raster_model.specs.Terms.{slope_of}

-- a number of whole cycles, divided by one cycle
pub div_exact : (c : ℤ) → int_div (pos 65536 *ℤ c) (pos 65536) ≡ c
div_exact (pos n) = ap pos (omega arith)
div_exact (negsuc n) = let e : 65536 * suc n / 65536 ≡ suc n = omega arith in omega (arith, ints, e)

-- what the remainder leaves is whole cycles
divided : (z : ℤ) → z ≡ int_rem_euclid z (pos 65536) +ℤ pos 65536 *ℤ int_div_euclid z (pos 65536)
divided (pos n) = ap pos (omega arith)
divided (negsuc n) = omega (arith, ints)

pub euclid : (z : ℤ) → (q : ℤ) × (z ≡ int_rem_euclid z (pos 65536) +ℤ pos 65536 *ℤ q)
euclid z = (int_div_euclid z (pos 65536), divided z)

whole_cycles : (slope : ℤ) (a b : ℕ) → (q : ℤ) × (pos b -ℤ pos a ≡ wrapped_by slope a b +ℤ pos 65536 *ℤ q)
unfolding wrapped_by
whole_cycles slope a b =
    let e = euclid (pos b -ℤ pos a -ℤ slope +ℤ pos 32768) in
    (e.0, omega (arith, ints, e.1))

-- two phases differ by their wrapped difference and whole cycles
pub turns_exact : TurnsAreExact
unfolding turns_by
turns_exact slope a b =
    let q = whole_cycles slope a b in
    let d : pos b -ℤ pos a -ℤ wrapped_by slope a b ≡ pos 65536 *ℤ q.0 = omega (arith, ints, q.1) in
    rw (d, div_exact q.0) q.1

-- and so do the phases at the ends of an edge
pub edge_exact : (r : Raster) (e : Edge) → pos (at_edge_end r.phase e) -ℤ pos (at_edge_start r.phase e) ≡ gradient r e +ℤ pos 65536 *ℤ turns_of r e
edge_exact r e = turns_exact (r.slope e.down) (at_edge_start r.phase e) (at_edge_end r.phase e)

remainder_below : (z : ℤ) → (pos 0 ≤ℤ int_rem_euclid z (pos 65536)) × (int_rem_euclid z (pos 65536) <ℤ pos 65536)
remainder_below (pos n) = (omega (arith, ints), omega (arith, ints))
remainder_below (negsuc n) = (omega (arith, ints), omega (arith, ints))

pub wrapped_is_it : WrappedIsIt
unfolding wrapped_by
wrapped_is_it slope a b =
    let below = remainder_below (pos b -ℤ pos a -ℤ slope +ℤ pos 32768) in
    record { low = omega (arith, ints, below.0); high = omega (arith, ints, below.1); cycles = turns_by slope a b; whole = turns_exact slope a b }

pub wrapped_is_only : WrappedIsOnly
wrapped_is_only slope a b d is =
    let w = wrapped_is_it slope a b in
    omega (arith, ints, is.low, is.high, is.whole, w.low, w.high, w.whole)

pub wrapped_has_no_slope : WrappedHasNoSlope
wrapped_has_no_slope a b d = (
  λ is. wrapped_is_only (pos 0) a b d (record { low = is.low; high = is.high; cycles = is.cycles; whole = is.whole }),
  λ e. (
      let w = wrapped_is_it (pos 0) a b in
      subst (IsWrapped a b) (sym e) (record { low = w.low; high = w.high; cycles = w.cycles; whole = w.whole })),
)

-- the slopes of a ramp
pub slope_in_range : (t : Terms) (down : Bool) → IsSlope (slope_of t down)
slope_in_range t true = t.along
slope_in_range t false = t.across

-- for phases and a ramp's slope the cycles left out are -1, 0 or 1
pub turns_small : (slope : ℤ) (a b : ℕ) → IsSlope slope → a < 65536 → b < 65536 → unsigned_abs (turns_by slope a b) ≤ 1
turns_small slope a b s l m =
    let w = wrapped_is_it slope a b in
    omega (arith, ints, s.0, s.1, w.low, w.high, turns_exact slope a b)

-- the code's quotient: the whole cycles of a difference around the slope, to the nearest
pub turns_at : (slope : ℤ) (a b : ℕ) (z q : ℤ) → z ≡ pos b -ℤ pos a -ℤ slope +ℤ pos 32768 → q ≡ int_div_euclid z (pos 65536) → q ≡ turns_by slope a b
unfolding wrapped_by
turns_at slope a b z q e f =
    let x = pos b -ℤ pos a -ℤ slope +ℤ pos 32768 in
    rw (f, e) (omega (arith, ints, divided x, turns_exact slope a b))

-- the code's remainder
pub wrapped_at : (slope : ℤ) (a b : ℕ) (z r : ℤ) → z ≡ pos b -ℤ pos a -ℤ slope +ℤ pos 32768 → r ≡ int_rem_euclid z (pos 65536) → slope +ℤ (r -ℤ pos 32768) ≡ wrapped_by slope a b
unfolding wrapped_by
wrapped_at slope a b z r e f = rw (f, e) refl
