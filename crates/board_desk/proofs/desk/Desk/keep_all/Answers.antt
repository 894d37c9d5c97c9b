use Rattle.std.proofs.Common.{ap, ◌∙◌, rules, None}
use Rattle.board_desk.specs.Answers.{KeepAllAnswers}
use Rattle.board_desk.specs.Passes.{PassView}
use Rattle.board_desk.proofs.Ending.{sound_after, still_ended}
use Rattle.board_desk.proofs.Calls.{called, grown}
use Rattle.board_desk.proofs.Keeping.{keeps_grow}
use Rattle.board_desk.proofs.Telling.{not_moved, was_good}
use Rattle.board_desk.proofs.desk.Desk.keep_all.Goals as goal

pub keep_each-answer-requires : goal.keep_each-answer-requires
keep_each-answer-requires g c =
    λ k d l. was_good c.pass.inside.seat.table_id c.pass.inside.ended c.pass.inside.seat.me c.take_board-board.new.seat.me c.take_board-board.result c.args.pass.now c.args.self.now.session _ c.pass.view_is c.requires.pass.session c.take_board-board.ensures.held (c.requires.good k d l)

pub give_board-requires-clause-grown : goal.give_board-requires-clause-grown
give_board-requires-clause-grown g c =
    grown c.pass.inside.seat.me.0 c.take_board-board.new.seat.me c.take_board-board.result c.keep_each-answer.new.board c.args.self.now.session (ap (λ (p : PassView). p.session) c.pass.view_is ∙ c.requires.pass.session) c.take_board-board.ensures.held
    (keeps_grow c.pass.inside.seat.me.0.own.analyst c.args.solved.items c.keep_each-answer.ensures.answers c.take_board-board.result c.keep_each-answer.new.board c.keep_each-answer.ensures.each)

pub returns-clause-call : goal.returns-clause-call
returns-clause-call g c =
    called c.pass.inside.seat.table_id c.pass.inside.ended c.pass.inside.ended c.pass.inside.seat.me c.take_board-board.new.seat.me c.give_board.new.seat.me c.take_board-board.result c.keep_each-answer.new.board c.args.self.now.session
    (KeepAllAnswers c.args.solved.items c.keep_each-answer.result) c.give_board.new.seat.table_id c.args.pass.now c.pass.view_is (c.give_board.ensures.own.0 ∙ c.take_board-board.ensures.own.0) c.requires.pass.session c.take_board-board.ensures.held c.give_board.ensures.given
    (keeps_grow c.pass.inside.seat.me.0.own.analyst c.args.solved.items c.keep_each-answer.ensures.answers c.take_board-board.result c.keep_each-answer.new.board c.keep_each-answer.ensures.each) c.take_board-board.ensures.board c.of-pass-inside.ensures.board
    c.keep_each-answer.ensures

pub invariant_of-pass : goal.invariant_of-pass
invariant_of-pass g c = (
  search rules,
  search rules,
  search rules,
  search rules,
  sound_after c.pass.inside.seat.table_id c.give_board.new.seat.table_id c.pass.inside.ended c.pass.inside.ended c.pass.inside.seat.me c.take_board-board.new.seat.me c.give_board.new.seat.me c.take_board-board.result
      c.keep_each-answer.new.board c.pass.invariant.4 c.take_board-board.ensures.held c.give_board.ensures.given (still_ended c.take_board-board.result c.keep_each-answer.new.board c.pass.inside.seat.me.0.own.analyst c.pass.inside.ended (keeps_grow None c.args.solved.items c.keep_each-answer.ensures.answers c.take_board-board.result c.keep_each-answer.new.board c.keep_each-answer.ensures.each)),
)

pub returns-clause-own : goal.returns-clause-own
returns-clause-own g c =
    not_moved c.pass.inside.seat.table_id c.give_board.new.seat.table_id c.pass.inside.ended c.pass.inside.seat.me c.take_board-board.new.seat.me c.give_board.new.seat.me c.take_board-board.result c.keep_each-answer.new.board c.args.pass.now c.pass.view_is
    c.take_board-board.ensures.held c.give_board.ensures.given (keeps_grow None c.args.solved.items c.keep_each-answer.ensures.answers c.take_board-board.result c.keep_each-answer.new.board c.keep_each-answer.ensures.each)
