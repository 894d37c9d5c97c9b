use Rattle.std.proofs.Common.{◌≡◌, ◌≤◌, ◌*◌, sym, subst, arith, rules, to_z, of_z, w64}
use Rattle.std.specs.Prelude.{Option, unsigned_abs}
use Rattle.std.proofs.lemmas.Int.{ints, to_z-of_z}
use Rattle.certificates.proofs.SeamLemmas.{of_departure, of_flow, part_fits}
use Rattle.raster_model.specs.Raster.{over, steps}
use Rattle.offset_guess.specs.declared.link.Link.{Link}
use Rattle.offset_network.specs.FairFlows.{IsFairFlow}
use Rattle.offset_network.proofs.FairLemmas.{meets_cost}
use Rattle.offset_network.proofs.fairness.is_fair.Goals as goal

pub departure-departure-requires-clause-fits : goal.departure-departure-requires-clause-fits
departure-departure-requires-clause-fits c = c.requires.fits c.in-Some.link c.in-Some.is

pub overflow_sub-bound : goal.overflow_sub-bound
overflow_sub-bound c =
    let x = c.args.flow in
    let fit : to_z w64 (of_z w64 x) ≡ x = to_z-of_z w64 x (search rules) in
    let size : c.unsigned_abs-size.result ≡ unsigned_abs x = rw fit at c.unsigned_abs-size.ensures.value in
    let small : unsigned_abs x ≤ 1048560 = omega (arith, size, c.if-size-from.false, c.from.ensures, c.limit.ensures.small) in
    let d = c.departure-departure.result in
    let near = c.departure-departure.ensures.small in
    (part_fits x d c.from-3.result c.from-4.result c.from-5.result c.saturating_sub-over.result small (omega (arith, near)) (of_flow x c.from-3.result small c.from-3.ensures) (of_departure d c.from-4.result (omega (arith, near)) c.from-4.ensures)
    (omega (arith, small, size, c.saturating_sub-over.ensures)) c.from-5.ensures).2

pub returns : goal.returns
returns c t =
    let x = c.args.flow in
    let k = c.in-Some.link in
    let is = c.requires.fits k c.in-Some.is in
    let fit : to_z w64 (of_z w64 x) ≡ x = to_z-of_z w64 x (search rules) in
    let size : c.unsigned_abs-size.result ≡ unsigned_abs x = rw fit at c.unsigned_abs-size.ensures.value in
    let small : unsigned_abs x ≤ 1048560 = omega (arith, size, c.if-size-from.false, c.from.ensures, c.limit.ensures.small) in
    let under : unsigned_abs x ≤ c.args.terms.steep * k.weight = omega (arith, size, c.if-size-from.false, c.from.ensures, c.limit.ensures.value) in
    let d = c.departure-departure.result in
    let near = c.departure-departure.ensures.small in
    let fit' : to_z w64 (of_z w64 d) ≡ d = omega (arith, ints, near) in
    let above : c.saturating_sub-over.result ≡ over k.weight x = omega (arith, size, c.saturating_sub-over.ensures, c.from-2.ensures) in
    let counted : c.steps.result ≡ steps c.args.terms.steep d = rw fit' at c.steps.ensures.value in
    let few : c.steps.result ≤ 16 * unsigned_abs d = rw fit' at c.steps.ensures.small in
    subst (λ (o : Option Link). IsFairFlow c.args.terms.steep c.args.offsets.now o x) (sym c.in-Some.is)
    (meets_cost c.args.terms.steep c.args.offsets.now k x d c.saturating_sub-over.result c.steps.result c.from-3.result c.from-4.result c.from-5.result c.from-6.result c.from-7.result under small is.weight c.departure-departure.ensures.value near
    above counted few (of_flow x c.from-3.result small c.from-3.ensures) (of_departure d c.from-4.result (omega (arith, near)) c.from-4.ensures) c.from-5.ensures c.from-6.ensures c.from-7.ensures t)
