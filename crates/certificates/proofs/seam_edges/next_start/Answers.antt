use Rattle.std.proofs.Common.{arith, ap, sym, ℕ, ◌∙◌}
use Rattle.certificates.specs.Ends.{passes_end}
use Rattle.certificates.proofs.PassLemmas.{no_seams}
use Rattle.certificates.proofs.seam_edges.next_start.Goals as goal

-- the table is that of the scene's tiles
pub returns-clause-passed : goal.returns-clause-passed
returns-clause-passed c =
    no_seams c.args.scene.now c.args.x c.min.result c.args.y
    (λ e ey l m. ap (λ (n : ℕ). passes_end n e) (sym c.requires.side) ∙ c.next_end.ensures.passed e ey l (omega (arith, m, c.min.ensures)))
