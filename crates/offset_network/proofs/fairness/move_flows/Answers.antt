use Rattle.std.proofs.Common.{◌≡◌, ◌*◌, ℕ, subst, sym, arith, pos, slice_index_or, to_z, of_z, w64}
use Rattle.std.proofs.lemmas.Int.{ints}
use Rattle.offset_network.specs.Links.{IsLinkIn, link_at}
use Rattle.offset_network.proofs.FairLemmas.{moved_at_first, moved_next}
use Rattle.offset_network.proofs.fairness.move_flows.Goals as goal

pub loop-place-init : goal.loop-place-init
loop-place-init c = record { grown = moved_at_first c.args.sums.now c.args.links.now c.args.flows.now; sizes = c.requires.zeros }

pub move_flow-requires-clause-fits : goal.move_flow-requires-clause-fits
move_flow-requires-clause-fits c =
    subst (λ (n : ℕ). IsLinkIn n (link_at c.args.links.now c.loop-place.place)) (sym c.loop-place.invariant.grown.same_length) (c.requires.links.each c.loop-place.place)

pub loop-place-preserved : goal.loop-place-preserved
loop-place-preserved c =
    let i = c.loop-place.place in
    let fit : to_z w64 (of_z w64 (slice_index_or c.args.flows.now i (pos 0))) ≡ slice_index_or c.args.flows.now i (pos 0) = omega (arith, ints, c.requires.flows i) in
    record {
      grown = moved_next c.args.sums.now c.loop-place.sums c.move_flow.new.sums c.args.links.now c.args.flows.now i c.loop-place.invariant.grown (rw fit at c.move_flow.ensures.grown);
      sizes = λ v. (let m = c.move_flow.ensures.within (2 * i) c.loop-place.invariant.sizes v in omega (arith, m));
    }
