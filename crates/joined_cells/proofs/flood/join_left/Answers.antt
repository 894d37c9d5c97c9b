use Rattle.std.proofs.Common.{◌≡◌, ◌+◌, ◌-◌, ◌*◌, ◌<◌, ◌∙◌, sym, arith}
use Rattle.sums_and_lists.proofs.Tests.{true_and_false}
use Rattle.joined_cells.proofs.PixelLemmas.{left_apart, left_joins}
use Rattle.joined_cells.proofs.flood.join_left.Goals as goal

pub returns-then-x-eq0 : goal.returns-then-x-eq0
returns-then-x-eq0 g c =
    left_apart (g.T.EdgeTest.joining c.args.test.now) c.args.x c.args.y c.requires.across c.requires.along c.args.parents.now c.requires.joined (λ l t. absurd (omega (arith, l, c.if-x-eq0.true)))

pub returns-then-joins : goal.returns-then-joins
returns-then-joins g c =
    let joining = g.T.EdgeTest.joining c.args.test.now in
    let x = c.args.x in
    let flood = c.requires.joined in
    let place = c.args.y * joining.width + x in
    let after : 0 < x = omega (arith, c.if-x-eq0.false) in
    let wide : c.width.result ≡ joining.width = c.width.ensures.width in
    let forest = (rw wide at c.hang.ensures) flood.root flood.forest (flood.flooded.alone place (omega arith)) (omega (arith, flood.flooded.least (place - 1), after)) in
    left_joins joining x c.args.y c.requires.across c.requires.along c.args.parents.now flood (omega (arith, after)) (sym c.joins.ensures ∙ c.if-joins.true) c.hang.new.parents c.hang.auto.parents forest

pub returns-else-joins : goal.returns-else-joins
returns-else-joins g c =
    left_apart (g.T.EdgeTest.joining c.args.test.now) c.args.x c.args.y c.requires.across c.requires.along c.args.parents.now c.requires.joined (λ l t. true_and_false _ t (sym c.joins.ensures ∙ c.if-joins.false))
