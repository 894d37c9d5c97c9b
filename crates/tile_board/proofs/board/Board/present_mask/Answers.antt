use Rattle.std.proofs.Common.{◌∙◌}
use Rattle.tile_board.proofs.HeldLemmas.{count_told, mask_told}
use Rattle.tile_board.proofs.board.Board.present_mask.Goals as goal

pub invariant_of-result : goal.invariant_of-result
invariant_of-result c =
    let mask = mask_told c.self.invariant.past in
    rw (c.in_ok-session.ensures.cases, c.in_ok-mask.ensures) (record { across = mask.width; along = mask.height })

pub returns : goal.returns
returns c =
    rw (← c.self.view_is) (record {
      session = c.in_ok-session.ensures.cases;
      revision = c.count.ensures ∙ count_told c.self.invariant.past;
      mask = rw c.in_ok-mask.ensures (mask_told c.self.invariant.past);
    })
