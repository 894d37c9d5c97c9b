use Rattle.raster_model.specs.Sheets.{sheet_raster}
use Rattle.wrapped_gradient.proofs.GradientLemmas.{numbers_are, residues_are, window_fits}
use Rattle.wrapped_gradient.proofs.gradients.Gradients.over.Goals as goal

pub invariant_of-result : goal.invariant_of-result
invariant_of-result c =
    let phase = c.args.sheet.now.phase.now in (
      window_fits phase.width phase.height c.args.window phase.wide.1 phase.high.1 phase.few (record { across = c.requires.across; along = c.requires.along }),
      ((rw c.in_ok-right_differences.was at c.right_differences.ensures).0, (rw c.in_ok-down_differences.was at c.down_differences.ensures).0),
    )

pub returns-clause-differences : goal.returns-clause-differences
returns-clause-differences c = record {
  inside = record { across = c.requires.across; along = c.requires.along };
  differences = numbers_are (sheet_raster c.args.sheet.now) c.args.window c.in_ok-right_differences.field-0.items c.in_ok-down_differences.field-0.items
      (rw c.in_ok-right_differences.was at c.right_differences.ensures) (rw c.in_ok-down_differences.was at c.down_differences.ensures);
}

pub returns-clause-residues : goal.returns-clause-residues
returns-clause-residues c = residues_are (sheet_raster c.args.sheet.now) _ (returns-clause-differences c)
