use Rattle.std.proofs.Common.{◌∙◌, ℕ, sym, subst, arith}
use Rattle.joined_cells.proofs.PixelLemmas.{pixel_masked}
use Rattle.joined_cells.specs.Flood.{IsFlood}
use Rattle.joined_cells.proofs.flood.join_pixel.Goals as goal

pub returns-then-not-is_open : goal.returns-then-not-is_open
returns-then-not-is_open g c =
    let joining = g.T.EdgeTest.joining c.args.test.now in
    let masked = pixel_masked joining c.args.x c.args.y c.requires.across c.requires.along c.args.parents.now c.requires.joined (sym c.is_open.ensures ∙ c.if-not-is_open.true) in
    subst (λ (n : ℕ). IsFlood joining n c.args.parents.now) (omega arith) masked
