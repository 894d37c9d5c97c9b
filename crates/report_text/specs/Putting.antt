-- The report of a board that is put into a sink.
use Rattle.std.specs.Prelude.{ℕ, List, Option, Result}
use Rattle.insar_ports.specs.declared.sink.WriteFault.{WriteFault}
use Rattle.text_lines.specs.Adding.{Puts}
use Rattle.tile_board.specs.BoardView.{BoardView}
use Rattle.tile_board.specs.Histories.{IsComplete}
use Rattle.report_text.specs.Certified.{IsCertifiedReport}
use Rattle.report_text.specs.Contents.{IsReport}
use Rattle.report_text.specs.Reports.{HasItsVersion, ReportOf, report_of}
use Rattle.report_text.specs.Text.{report_text}

-- what a board has to report
abbrev pub report_on : BoardView → ReportOf
report_on board = report_of board.session board.entries board.surfaces

-- its text was put into a sink; each number is in its range, the version is 1 exactly if the terms are the plain ones, and the report is certified if every script is at its end
pub record PutsReport (held : Option (List ℕ)) (faults : ℕ) (held_now : Option (List ℕ)) (faults_now : ℕ) (board : BoardView) (result : Result (Unit {0}) WriteFault) : Type 0 where
  pub text : Puts held faults held_now faults_now (report_text (report_on board)) result
  pub ranges : IsReport (report_on board)
  pub versioned : HasItsVersion (report_on board)
  pub certified : IsComplete board.session board.entries → IsCertifiedReport board.session (report_on board)
