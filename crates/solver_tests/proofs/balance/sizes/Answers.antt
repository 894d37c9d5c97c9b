use Rattle.std.proofs.Common.{rules, ◌≡◌, ◌+◌, ◌≤◌, ◌^◌, ℕ, arith, get_or, FitsSigned, to_z, of_z}
use Rattle.std.specs.Prelude.{ℤ, pos, neg_ℤ, ◌+ℤ◌, ◌≤ℤ◌, unsigned_abs}
use Rattle.std.specs.Int.{w64}
use Rattle.std.proofs.lemmas.Int.{ints}
use Rattle.solver_tests.proofs.balance.sizes.Goals as goal
use Rattle.sums_and_lists.proofs.SumLemmas.{sum_below-none, sum_below-more}

sum_of : (total x : ℤ) (size : ℕ) → neg_ℤ (pos size) ≤ℤ total → total ≤ℤ pos size → size + unsigned_abs x ≤ 2 ^ 62 → to_z w64 (of_z w64 (total +ℤ x)) ≡ total +ℤ x
sum_of total x size low high room = omega (arith, ints)

pub loop-supply-init : goal.loop-supply-init
loop-supply-init c =
    let x = sum_below-none (λ v. get_or c.args.supplies.now v (pos 0)) in
    let y = sum_below-none (λ v. pos (unsigned_abs (get_or c.args.supplies.now v (pos 0)))) in
    record { total = omega (arith, ints, x); low = omega (arith, ints); high = omega (arith, ints); small = omega (arith, ints, y); room = omega arith }

pub loop-supply-preserved : goal.loop-supply-preserved
loop-supply-preserved c =
    let given = λ (v : ℕ). get_or c.args.supplies.now v (pos 0) in
    let held = λ (v : ℕ). pos (unsigned_abs (get_or c.args.supplies.now v (pos 0))) in
    let i = c.loop-supply.supply-index in
    let x : ℤ = get_or c.args.supplies.now i (pos 0) in
    let inv = c.loop-supply.invariant in
    let fits : FitsSigned w64 x = search rules in
    let same : to_z w64 (of_z w64 x) ≡ x = omega (arith, ints, fits) in
    let size : c.unsigned_abs.result ≡ unsigned_abs x = rw same at c.unsigned_abs.ensures.value in
    let size' : c.unsigned_abs-size.result ≡ unsigned_abs x = rw same at c.unsigned_abs-size.ensures.value in
    let room : c.loop-supply.size + unsigned_abs x ≤ 2 ^ 62 = (let r = inv.room in let k = c.if-unsigned_abs-size.false in omega (arith, r, k, size)) in
    let next : to_z w64 (of_z w64 (to_z w64 c.loop-supply.total-bits +ℤ x)) ≡ to_z w64 c.loop-supply.total-bits +ℤ x = sum_of (to_z w64 c.loop-supply.total-bits) x c.loop-supply.size inv.low inv.high room in
    let more = sum_below-more i given in
    let sizes = sum_below-more i held in
    rw (same, next, size') (record {
      total = omega (arith, ints, more, inv.total);
      low = omega (arith, ints, inv.low);
      high = omega (arith, ints, inv.high);
      small = omega (arith, ints, sizes, inv.small);
      room = room;
    })
