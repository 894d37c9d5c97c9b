use Rattle.std.proofs.Common.{◌∙◌, arith}
use Rattle.std.specs.Prelude.{None}
use Rattle.tile_board.specs.declared.answers.ClaimFault.TheVariants.{Memory}
use Rattle.tile_board.specs.Lacking.{lacks_in}
use Rattle.tile_board.proofs.HeldLemmas.{stamp_told}
use Rattle.tile_board.proofs.LackingLemmas.{gap_lacks}
use Rattle.tile_board.proofs.ListLemmas.{err_is, get_below}
use Rattle.tile_board.proofs.StateFacts.{gap_below, gap_tells, one_lacks, window_told}
use Rattle.tile_board.proofs.StepLemmas.{state_claimed}
use Rattle.tile_board.proofs.board.Board.claim_tile.Goals as goal

pub window_mask-requires : goal.window_mask-requires
window_mask-requires c =
    let gap = gap_lacks c.self.inside.kept c.args.tile (rw (← c.self.view_is) at c.requires) in
    rw c.self.invariant.past.tiling (gap_below c.self.invariant c.args.tile gap)

pub returns-in_err-unmasked-clause-refused : goal.returns-in_err-unmasked-clause-refused
returns-in_err-unmasked-clause-refused c =
    let gap = gap_lacks c.self.inside.kept c.args.tile (rw (← c.self.view_is) at c.requires) in
    rw (← c.self.view_is) (err_is c.from_residual.result Memory _ c.from_residual.ensures.1 (one_lacks c.self.invariant c.args.tile gap))

pub returns-in_err-session-clause-refused : goal.returns-in_err-session-clause-refused
returns-in_err-session-clause-refused c =
    let gap = gap_lacks c.self.inside.kept c.args.tile (rw (← c.self.view_is) at c.requires) in
    rw (← c.self.view_is) (err_is c.from_residual-in_err-session.result Memory _ c.from_residual-in_err-session.ensures.1 (one_lacks c.self.invariant c.args.tile gap))

pub claim-requires : goal.claim-requires
claim-requires c =
    let gap = gap_lacks c.self.inside.kept c.args.tile (rw (← c.self.view_is) at c.requires) in
    omega (arith, get_below c.self.inside.kept c.args.tile None gap, c.self.invariant.lacking.count)

pub returns-in_err-claim-clause-refused : goal.returns-in_err-claim-clause-refused
returns-in_err-claim-clause-refused c =
    let gap = gap_lacks c.self.inside.kept c.args.tile (rw (← c.self.view_is) at c.requires) in
    rw (← c.self.view_is) (err_is c.from_residual-in_err-claim.result Memory _ c.from_residual-in_err-claim.ensures.1 (one_lacks c.self.invariant c.args.tile gap))

pub invariant_of-self : goal.invariant_of-self
invariant_of-self c =
    let is = c.self.invariant.lacking in
    let lacks = rw (← c.self.view_is) at c.requires in
    state_claimed c.self.invariant c.claim.new.self (record { count = c.claim.ensures.count ∙ is.count; keys = c.claim.ensures.keys (lacks_in c.self.inside.kept) lacks is.keys })

pub invariant_of-self-2 : goal.invariant_of-self-2
invariant_of-self-2 c =
    let is = c.self.invariant.lacking in
    let lacks = rw (← c.self.view_is) at c.requires in
    state_claimed c.self.invariant c.claim.new.self (record { count = c.claim.ensures.count ∙ is.count; keys = c.claim.ensures.keys (lacks_in c.self.inside.kept) lacks is.keys })

pub stamp-requires : goal.stamp-requires
stamp-requires c =
    let gap = gap_lacks c.self.inside.kept c.args.tile (rw (← c.self.view_is) at c.requires) in
    rw c.self.invariant.past.tiling (gap_below c.self.invariant c.args.tile gap)

pub invariant_of-result : goal.invariant_of-result
invariant_of-result c =
    let gap = gap_lacks c.self.inside.kept c.args.tile (rw (← c.self.view_is) at c.requires) in
    let below = gap_below c.self.invariant c.args.tile gap in
    let window = rw c.self.invariant.past.tiling at c.in_ok-unmasked.ensures in
    record { exists = rw c.in_ok-session.ensures.cases below; size = rw c.in_ok-session.ensures.cases window.size }

pub returns-clause-claimed : goal.returns-clause-claimed
returns-clause-claimed c =
    let gap = gap_lacks c.self.inside.kept c.args.tile (rw (← c.self.view_is) at c.requires) in
    let below = gap_below c.self.invariant c.args.tile gap in
    let window = rw c.self.invariant.past.tiling at c.in_ok-unmasked.ensures in
    rw (← c.self.view_is) (record {
      session = c.in_ok-session.ensures.cases;
      lacking = gap_tells c.self.invariant c.args.tile gap;
      stamp = c.stamp.ensures ∙ stamp_told c.self.invariant.past c.args.tile below;
      window = window_told c.self.invariant c.args.tile c.in_ok-unmasked.unmasked.items below window;
    })
