use Rattle.std.proofs.Common.{FitsSigned, arith, pos, rules, slice_index_or, subst, sym, to_z, of_z, w64, ◌≡◌, ◌*◌, ◌%◌, ◌/◌, ℕ}
use Rattle.std.proofs.lemmas.Int.{to_z-of_z}
use Rattle.grid_writer.specs.Grids.{value_at}
use Rattle.nearest_surface.specs.Nearest.{IsWide, MaskedPhase, Stands, masked_phase}
use Rattle.nearest_surface.proofs.PlaceLemmas.{AreBrought, all_stand, brought_more, first_place, none_wide, wide_here}
use Rattle.nearest_surface.proofs.surface.bring_values.Goals as goal

pub returns-in_default-clause-wide : goal.returns-in_default-clause-wide
returns-in_default-clause-wide c =
    let p : MaskedPhase = masked_phase c.args.phase.now c.args.mask.now in
    let at = c.loop-place in
    let fits : FitsSigned w64 (slice_index_or at.values at.place (pos 0)) = search rules in
    let wide = rw (to_z-of_z w64 (slice_index_or at.values at.place (pos 0)) fits) at c.in_default.ensures in
    first_place p.width p.height (IsWide p (value_at p.width c.args.values.now)) at.place c.loop-place-test.true (none_wide p c.args.values.now at.values at.place at.invariant) (wide_here p c.args.values.now at.values at.place at.invariant wide)

pub loop-place-preserved : goal.loop-place-preserved
loop-place-preserved c =
    let p : MaskedPhase = masked_phase c.args.phase.now c.args.mask.now in
    let at = c.loop-place in
    let fits : FitsSigned w64 (slice_index_or at.values at.place (pos 0)) = search rules in
    let told : FitsSigned w64 c.in-Some.value = search rules in
    let stands = rw (to_z-of_z w64 (slice_index_or at.values at.place (pos 0)) fits) at c.in-Some.ensures in
    let inside = c.loop-place-test.true in
    let count = at.auto.values in
    let full = c.requires.full in
    brought_more p c.args.values.now at.values at.place (to_z w64 (of_z w64 c.in-Some.value)) (omega (arith, inside, count, full)) at.invariant
    (subst (Stands (p.mask (at.place % p.width) (at.place / p.width)) (p.phase (at.place % p.width) (at.place / p.width)) (slice_index_or at.values at.place (pos 0))) (sym (to_z-of_z w64 c.in-Some.value told)) stands)

pub returns-clause-stand : goal.returns-clause-stand
returns-clause-stand c =
    let p : MaskedPhase = masked_phase c.args.phase.now c.args.mask.now in
    let at = c.loop-place in
    let end = c.loop-place-test.false in
    let most = at.auto.place-end in
    let all : at.place ≡ p.width * p.height = omega (arith, end, most) in
    all_stand p c.args.values.now at.values (subst (λ (n : ℕ). AreBrought p c.args.values.now n at.values) all at.invariant)
