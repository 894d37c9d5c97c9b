use Rattle.std.proofs.Common.{refl}
use Rattle.tile_board.proofs.LackingLemmas.{has_not_lack, lacks_gap}
use Rattle.tile_board.proofs.lacking.is_unclaimed.Goals as goal

pub returns-then-has : goal.returns-then-has
returns-then-has c = rw (has_not_lack c.args.kept.now c.args.tile c.if-has.ensures) refl

pub returns : goal.returns
returns c = rw (lacks_gap c.args.kept.now c.args.tile c.if-has.ensures) refl
