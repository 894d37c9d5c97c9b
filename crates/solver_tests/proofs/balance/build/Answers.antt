use Rattle.std.proofs.Common.{◌≡◌, ◌^◌, arith, to_z, of_z}
use Rattle.std.specs.Prelude.{ℤ, pos, ◌≤ℤ◌}
use Rattle.std.specs.Int.{w64}
use Rattle.std.proofs.lemmas.Int.{ints}
use Rattle.flow_network.specs.Views.{shape_of, state_of}
use Rattle.solver_tests.proofs.TestLemmas.{built_start, built_next}
use Rattle.solver_tests.proofs.balance.build.Goals as goal

low_of : (x : ℤ) → pos 0 ≤ℤ x → x ≤ℤ pos (2 ^ 40) → pos 0 ≤ℤ to_z w64 (of_z w64 x)
low_of x low high = omega (arith, ints, low, high)

high_of : (x : ℤ) → pos 0 ≤ℤ x → x ≤ℤ pos (2 ^ 40) → to_z w64 (of_z w64 x) ≤ℤ pos (2 ^ 40)
high_of x low high = omega (arith, ints, low, high)

pub loop-index-init : goal.loop-index-init
loop-index-init c =
    let net = c.in_ok-net.net in
    let supplies = c.in_ok-to_vec.field-0.items in
    let same : supplies ≡ c.args.supplies.now = c.in_ok-to_vec.ensures.items_if_clones_equal (λ x y h. h) in
    let e = c.in_ok-net.ensures in
    let ok = c.in-Some.ensures in
    built_start (shape_of net) (state_of net) supplies c.in-Some.size (rw same ok.few) (rw same ok.small) ok.room e.nodes e.arcs e.excess e.potential

pub add_arc-requires-clause-room : goal.add_arc-requires-clause-room
add_arc-requires-clause-room c =
    let inv = c.loop-index.invariant in
    let a = inv.amount in
    let r = inv.room in
    let k = c.in-Some-arc_of.ensures.room in
    omega (arith, ints, a, r, k)

pub loop-index-preserved : goal.loop-index-preserved
loop-index-preserved c =
    let arc = c.in-Some-arc_of.arc in
    let ok = c.in-Some-arc_of.ensures in
    let added = c.in_ok-add_arc.ensures.added in
    built_next (shape_of c.loop-index.net) (shape_of c.add_arc.new.self) (state_of c.loop-index.net) (state_of c.add_arc.new.self) _ _ c.loop-index.index c.loop-index.used arc.capacity _ c.add_arc.new.self.is_network c.loop-index.invariant added (low_of arc.cost ok.low ok.high) (high_of arc.cost ok.low ok.high) ok.room
