use Rattle.std.proofs.lemmas.Result.{err_from_is_err_and}
use Rattle.insar_ports.specs.Calls.{call_of}
use Rattle.text_lines.specs.LineWords.{lines_read}
use Rattle.text_lines.proofs.StepLemmas.{cause_same}
use Rattle.grid_writer.specs.declared.read.Sizes.{Sizes}
use Rattle.grid_writer.specs.GridParts.{IsGridTextIn}
use Rattle.grid_writer.specs.Grids.{IsGridText}
use Rattle.grid_writer.proofs.HeadLemmas.{IsAnySize, any_size}
use Rattle.grid_writer.proofs.read.read_any.Goals as goal
use Rattle.std.proofs.Common.{refl}

abbrev all_sizes : Sizes
all_sizes = record { least_width = 1; most_width = 4096; least_height = 1; most_height = 4096; most_pixels = 4194304 }

are_any : IsAnySize all_sizes
are_any = record { least_width = refl; most_width = refl; least_height = refl; most_height = refl; most_pixels = refl }

pub returns-in_err-read-clause-refused : goal.returns-in_err-read-clause-refused
returns-in_err-read-clause-refused g c =
    let p = err_from_is_err_and c.from_residual.result c.from_residual.ensures.1 in
    rw (p.1, p.2) (cause_same (IsGridTextIn all_sizes) IsGridText (any_size all_sizes are_any) (call_of g.S.Source.left g.S.Source.faults c.args.feed.now c.read_within.new.feed) (lines_read c.args.lines.now) c.in_err-read.field-0.0 c.in_err-read.ensures.refused)
