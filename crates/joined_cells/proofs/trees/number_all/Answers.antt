use Rattle.std.proofs.Common.{ℕ, subst, arith}
use Rattle.joined_cells.specs.Flood.{IsNumbered}
use Rattle.joined_cells.proofs.NumberLemmas.{numbering_begins}
use Rattle.joined_cells.proofs.trees.number_all.Goals as goal

pub loop-y-init : goal.loop-y-init
loop-y-init g c =
    let joining = g.T.EdgeTest.joining c.args.test.now in
    subst (λ (n : ℕ). IsNumbered joining n 0 c.args.labels.now) (omega arith) (numbering_begins joining c.args.labels.now c.requires.joined)
