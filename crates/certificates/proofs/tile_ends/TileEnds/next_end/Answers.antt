use Rattle.std.proofs.Common.{arith, sym, ◌∙◌}
use Rattle.certificates.proofs.PassLemmas.{no_end}
use Rattle.certificates.proofs.tile_ends.TileEnds.next_end.Goals as goal

pub returns-then-self-y-clause-passed : goal.returns-then-self-y-clause-passed
returns-then-self-y-clause-passed c e ey l m = absurd (omega (arith, l, m))

pub returns-else-self-y-clause-passed : goal.returns-else-self-y-clause-passed
returns-else-self-y-clause-passed c =
    let ends = c.args.self.now in
    no_end c.args.x c.args.y ends.side (omega (arith, ends.sides)) (sym (ends.told c.args.y c.requires.1) ∙ c.if-self-y.false)
