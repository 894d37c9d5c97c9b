use Rattle.std.proofs.Common.{◌≡◌, ◌∙◌, ℕ, sym, subst, arith}
use Rattle.sums_and_lists.proofs.Tests.{true_and_false}
use Rattle.joined_cells.proofs.PixelLemmas.{upper_apart, upper_joins}
use Rattle.joined_cells.specs.Flood.{IsFlood}
use Rattle.joined_cells.proofs.flood.join_upper.Goals as goal

pub returns-then-y-eq0 : goal.returns-then-y-eq0
returns-then-y-eq0 g c =
    let joining = g.T.EdgeTest.joining c.args.test.now in
    let apart = upper_apart joining c.args.x c.args.y c.requires.across c.requires.along c.args.parents.now c.requires.joined (λ l t. absurd (omega (arith, l, c.if-y-eq0.true))) in
    subst (λ (n : ℕ). IsFlood joining n c.args.parents.now) (omega arith) apart

pub returns-then-joins : goal.returns-then-joins
returns-then-joins g c =
    let joining = g.T.EdgeTest.joining c.args.test.now in
    let flood = c.requires.joined in
    let wide : c.width-width.result ≡ joining.width = c.width-width.ensures.width in
    let forest = (rw wide at c.join.ensures) flood.root flood.forest in
    let joined = upper_joins joining c.args.x c.args.y c.requires.across c.requires.along c.args.parents.now flood (omega (arith, c.if-y-eq0.false)) (sym c.joins.ensures ∙ c.if-joins.true) c.join.new.parents c.join.auto.parents forest in
    subst (λ (n : ℕ). IsFlood joining n c.join.new.parents) (omega arith) joined

pub returns-else-joins : goal.returns-else-joins
returns-else-joins g c =
    let joining = g.T.EdgeTest.joining c.args.test.now in
    let apart = upper_apart joining c.args.x c.args.y c.requires.across c.requires.along c.args.parents.now c.requires.joined (λ l t. true_and_false _ t (sym c.joins.ensures ∙ c.if-joins.false)) in
    subst (λ (n : ℕ). IsFlood joining n c.args.parents.now) (omega arith) apart
