use Rattle.std.proofs.Common.{◌∙◌, ap, arith, List, ◌++◌, ◌∷◌, []}
use Rattle.std.specs.Prelude.{Some, set}
use Rattle.certificates.specs.declared.results.TileResult.{TileResult}
use Rattle.tile_board.specs.declared.entry.Entry.{Entry}
use Rattle.tile_board.specs.declared.entry.Entry.TheVariants.{Kept}
use Rattle.tile_board.proofs.LackingLemmas.{lacking_keep}
use Rattle.tile_board.proofs.StepLemmas.{state_keep}
use Rattle.tile_board.proofs.board.Board.keep_good.Goals as goal

pub take_out-requires : goal.take_out-requires
take_out-requires c =
    let may = rw (← c.self.view_is) at c.requires.may in
    omega (arith, may.0.0, c.self.invariant.lacking.count, c.self.invariant.board.kept.count)

pub invariant_of-self-2 : goal.invariant_of-self-2
invariant_of-self-2 c =
    let may = rw (← c.self.view_is) at c.requires.may in
    let entries = c.push_within.ensures.items ∙ ap (λ (es : List Entry). es ++ (Kept c.args.solved.tile c.args.solved.stamp ∷ [])) c.in_ok-reserve.ensures.items in
    let kept = c.keep.ensures ∙ ap (λ (k : TileResult). set c.self.inside.kept c.args.solved.tile (Some k)) c.in_ok-shared.ensures in
    let lacking = lacking_keep c.self.inside.kept c.args.solved.tile c.args.solved c.self.inside.lacking c.take_out.new.self (omega (arith, may.0.0, c.self.invariant.board.kept.count)) c.self.invariant.lacking c.take_out.ensures.count c.take_out.ensures.keys in
    rw kept (state_keep c.self.invariant c.args.solved c.push_within.new.items.items c.take_out.new.self entries (may.0.0, may.0.1, may.1) (rw (← c.self.view_is) at c.requires.good) lacking)
