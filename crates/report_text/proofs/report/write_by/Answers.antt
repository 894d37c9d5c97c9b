use Rattle.std.proofs.Common.{rules}
use Rattle.text_parts.specs.Terms.{terms_of}
use Rattle.text_lines.proofs.AddLemmas.{puts_made}
use Rattle.report_text.proofs.CertifiedLemmas.{board_is_certified}
use Rattle.report_text.proofs.RangeLemmas.{board_in_range}
use Rattle.report_text.proofs.TermsLemmas.{version_is}
use Rattle.report_text.proofs.report.write_by.Goals as goal

pub returns : goal.returns
returns g c = record {
  text = puts_made g.K.Sink.held g.K.Sink.faults c.finish.result (λ n. search (rules, n)) c.new-text.ensures c.add_board.ensures.text c.finish.ensures.adds c.finish.ensures.none c.finish.ensures.whole c.finish.ensures.cut;
  ranges = board_in_range c.args.board.now c.add_board.ensures.board c.add_board.ensures.small;
  versioned = version_is (terms_of c.args.board.now.session.scene.terms);
  certified = board_is_certified c.args.board.now c.add_board.ensures.board;
}
