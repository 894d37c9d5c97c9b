use Rattle.std.proofs.Common.{◌∙◌, sym}
use Rattle.tile_board.specs.Lacking.{lacks_in}
use Rattle.tile_board.proofs.KeyLemmas.{tidy_fits, tidy_out}
use Rattle.tile_board.proofs.lacking.tidy_one.Goals as goal

pub returns-then-is_unclaimed : goal.returns-then-is_unclaimed
returns-then-is_unclaimed c fresh = tidy_fits (lacks_in c.args.kept.now) fresh c.args.claims.now c.args.keys.now c.args.tile (sym c.is_unclaimed.ensures ∙ c.if-is_unclaimed.true)

pub returns : goal.returns
returns c fresh = tidy_out (lacks_in c.args.kept.now) fresh c.args.claims.now c.args.keys.now c.take_key.new.keys c.args.tile (sym c.is_unclaimed.ensures ∙ c.if-is_unclaimed.false) c.take_key.ensures
