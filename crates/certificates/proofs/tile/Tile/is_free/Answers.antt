use Rattle.std.proofs.Common.{arith}
use Rattle.certificates.proofs.FreeRows.{free_row}
use Rattle.certificates.proofs.tile.Tile.is_free.Goals as goal

pub returns-then-y-self : goal.returns-then-y-self
returns-then-y-self g c = λ t.
    free_row c.args.self.now (g.H.Heights.cycles_at c.args.heights.now) c.args.y c.requires.row (c.follows_right.ensures c.if-not-follows_right.false) (λ l. absurd (omega (arith, l, c.if-y-self.true)))

pub returns-else-y-self : goal.returns-else-y-self
returns-else-y-self g c = λ t.
    free_row c.args.self.now (g.H.Heights.cycles_at c.args.heights.now) c.args.y c.requires.row (c.follows_right.ensures c.if-not-follows_right.false) (λ l. c.follows_down.ensures t)
