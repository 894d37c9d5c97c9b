use Rattle.std.proofs.Common.{◌∙◌}
use Rattle.raster_model.specs.Masks.{open_at}
use Rattle.tile_board.specs.declared.answers.GatherFault.TheVariants.{Memory}
use Rattle.tile_board.proofs.HeldLemmas.{count_told, mask_here, mask_told}
use Rattle.tile_board.proofs.ListLemmas.{err_is}
use Rattle.tile_board.proofs.StateFacts.{kept_good}
use Rattle.tile_board.proofs.board.Board.gather.Goals as goal

pub returns-in_err-mask-clause-refused : goal.returns-in_err-mask-clause-refused
returns-in_err-mask-clause-refused c = err_is c.from_residual-in_err-mask.result Memory _ c.from_residual-in_err-mask.ensures.1 c.in_ok-tiles.ensures.ready

pub returns-in_err-session-clause-refused : goal.returns-in_err-session-clause-refused
returns-in_err-session-clause-refused c = err_is c.from_residual-in_err-session.result Memory _ c.from_residual-in_err-session.ensures.1 c.in_ok-tiles.ensures.ready

pub invariant_of-result : goal.invariant_of-result
invariant_of-result c =
    let mask = mask_told c.self.invariant.past in
    let kept = rw (← c.self.view_is) at c.in_ok-tiles.ensures.results in
    rw (c.in_ok-session.ensures.cases, c.in_ok-mask.ensures) (record {
      across = mask.width;
      along = mask.height;
      tiling = kept.tiling;
      good = kept_good c.self.invariant (open_at c.self.inside.revisions.mask) (mask_here c.self.invariant.past) c.in_ok-tiles.tiles.results kept.results;
    })

pub returns-clause-gathered : goal.returns-clause-gathered
returns-clause-gathered c =
    rw (← c.self.view_is) (record {
      session = c.in_ok-session.ensures.cases;
      ready = rw (← c.self.view_is) at c.in_ok-tiles.ensures.ready;
      revision = c.count.ensures ∙ count_told c.self.invariant.past;
      mask = rw c.in_ok-mask.ensures (mask_told c.self.invariant.past);
      tiles = rw (← c.self.view_is) at c.in_ok-tiles.ensures.results;
    })
