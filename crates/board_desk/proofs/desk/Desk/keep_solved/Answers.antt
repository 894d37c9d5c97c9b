use Rattle.std.proofs.Common.{ap, ◌∙◌, rules, None}
use Rattle.board_desk.specs.Answers.{KeepAnswers}
use Rattle.board_desk.specs.Passes.{PassView}
use Rattle.board_desk.proofs.Ending.{sound_after, still_ended}
use Rattle.board_desk.proofs.Calls.{called, grown, keep_answers, keep_grows}
use Rattle.board_desk.proofs.Telling.{not_moved, was_good}
use Rattle.board_desk.proofs.desk.Desk.keep_solved.Goals as goal

pub keep_solved-answer-requires : goal.keep_solved-answer-requires
keep_solved-answer-requires g c =
    record { good = was_good c.pass.inside.seat.table_id c.pass.inside.ended c.pass.inside.seat.me c.take_board-board.new.seat.me c.take_board-board.result c.args.pass.now c.args.self.now.session c.args.solved c.pass.view_is c.requires.pass.session c.take_board-board.ensures.held c.requires.good }

pub give_board-requires-clause-grown : goal.give_board-requires-clause-grown
give_board-requires-clause-grown g c =
    grown c.pass.inside.seat.me.0 c.take_board-board.new.seat.me c.take_board-board.result c.keep_solved-answer.new.self c.args.self.now.session (ap (λ (p : PassView). p.session) c.pass.view_is ∙ c.requires.pass.session) c.take_board-board.ensures.held
    (keep_grows c.pass.inside.seat.me.0.own.analyst _ c.take_board-board.result c.keep_solved-answer.new.self c.keep_solved-answer.result c.keep_solved-answer.ensures.kept c.keep_solved-answer.ensures.unchanged)

pub returns-clause-call : goal.returns-clause-call
returns-clause-call g c =
    called c.pass.inside.seat.table_id c.pass.inside.ended c.pass.inside.ended c.pass.inside.seat.me c.take_board-board.new.seat.me c.give_board.new.seat.me c.take_board-board.result c.keep_solved-answer.new.self c.args.self.now.session
    (KeepAnswers c.args.solved c.keep_solved-answer.result) c.give_board.new.seat.table_id c.args.pass.now c.pass.view_is (c.give_board.ensures.own.0 ∙ c.take_board-board.ensures.own.0) c.requires.pass.session c.take_board-board.ensures.held c.give_board.ensures.given
    (keep_grows c.pass.inside.seat.me.0.own.analyst _ c.take_board-board.result c.keep_solved-answer.new.self c.keep_solved-answer.result c.keep_solved-answer.ensures.kept c.keep_solved-answer.ensures.unchanged) c.take_board-board.ensures.board c.of-pass-inside.ensures.board
    (keep_answers c.args.solved c.take_board-board.result c.keep_solved-answer.new.self c.keep_solved-answer.result c.keep_solved-answer.ensures.kept c.keep_solved-answer.ensures.refused c.keep_solved-answer.ensures.unchanged)

pub invariant_of-pass : goal.invariant_of-pass
invariant_of-pass g c = (
  search rules,
  search rules,
  search rules,
  search rules,
  sound_after c.pass.inside.seat.table_id c.give_board.new.seat.table_id c.pass.inside.ended c.pass.inside.ended c.pass.inside.seat.me c.take_board-board.new.seat.me c.give_board.new.seat.me c.take_board-board.result
      c.keep_solved-answer.new.self c.pass.invariant.4 c.take_board-board.ensures.held c.give_board.ensures.given (still_ended c.take_board-board.result c.keep_solved-answer.new.self c.pass.inside.seat.me.0.own.analyst c.pass.inside.ended (keep_grows None _ c.take_board-board.result c.keep_solved-answer.new.self c.keep_solved-answer.result c.keep_solved-answer.ensures.kept c.keep_solved-answer.ensures.unchanged)),
)

pub returns-clause-own : goal.returns-clause-own
returns-clause-own g c =
    not_moved c.pass.inside.seat.table_id c.give_board.new.seat.table_id c.pass.inside.ended c.pass.inside.seat.me c.take_board-board.new.seat.me c.give_board.new.seat.me c.take_board-board.result c.keep_solved-answer.new.self c.args.pass.now c.pass.view_is
    c.take_board-board.ensures.held c.give_board.ensures.given (keep_grows None _ c.take_board-board.result c.keep_solved-answer.new.self c.keep_solved-answer.result c.keep_solved-answer.ensures.kept c.keep_solved-answer.ensures.unchanged)
