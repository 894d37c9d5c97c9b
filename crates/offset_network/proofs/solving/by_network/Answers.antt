use Rattle.std.proofs.Common.{◌≡◌, ℕ, refl, subst, length, rules, to_z, of_z, w64}
use Rattle.std.proofs.lemmas.Int.{to_z-of_z}
use Rattle.flow_network.specs.Views.{shape_of, state_of}
use Rattle.offset_network.specs.Lanes.{AreLanesOf}
use Rattle.offset_network.specs.Networks.{AreFlows, AreLowered, AreSums, IsSolved}
use Rattle.offset_network.proofs.SolvedLemmas.{good_seams}
use Rattle.offset_network.proofs.solving.by_network.Goals as goal

pub returns : goal.returns
returns c =
    let net = c.in_ok-net.net in
    let u = c.args.surface.now in
    let v = c.args.regions.now in
    let start = c.args.start.now.offsets.items in
    let links = c.args.start.now.links.items in
    let f = state_of net in
    let by : to_z w64 (of_z w64 c.anchor-by.result) ≡ c.anchor-by.result = to_z-of_z w64 c.anchor-by.result (search rules) in
    let lanes = c.in_ok-lanes.lanes.items in
    let parts = c.in_ok-parts.parts.items in
    let parted : AreLanesOf u.scene.now.terms.steep links (length links) lanes = rw c.deref.ensures.value at c.in_ok-lanes.ensures.lanes in
    let solved : IsSolved v.count lanes (shape_of net) f = rw (c.count-count.ensures.value, c.deref-2.ensures.value) at c.in_ok-net.ensures in
    let told : AreFlows lanes f (length lanes) parts = rw c.deref-3.ensures.value at c.in_ok-parts.ensures.flows in
    let sums = subst (λ (n : ℕ). AreSums parts n c.in_ok-flows.flows.items) c.args.start.now.links.ok.0 (rw (c.deref-4.ensures.value, c.len.ensures) at c.in_ok-flows.ensures) in
    let lowered : AreLowered start f c.anchor-by.result (shape_of net).nodes c.in_ok-offsets.offsets.items = rw (c.deref-6.ensures.value, by) at c.in_ok-offsets.ensures in
    let anchor = rw c.deref-5.ensures.value at c.anchor-by.ensures.value in
    record {
      revision = refl;
      good = good_seams u.scene.now u.mask.now v u.tiles.now (record { revision = c.args.revision; offsets = c.in_ok-offsets.offsets; flows = c.in_ok-flows.flows })
          start links lanes parts (shape_of net) f c.anchor-by.result c.requires.regions c.requires.offsets c.requires.seams parted net.is_network solved told sums lowered anchor c.anchor-by.ensures.low c.anchor-by.ensures.high;
    }
