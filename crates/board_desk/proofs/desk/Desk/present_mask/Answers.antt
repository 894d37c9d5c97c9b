use Rattle.std.proofs.Common.{ap, ◌∙◌, refl, rules, None}
use Rattle.board_desk.specs.Answers.{MaskAnswers}
use Rattle.board_desk.specs.Passes.{PassView}
use Rattle.board_desk.proofs.Calls.{called, grown, mask_after, stays}
use Rattle.board_desk.proofs.Ending.{sound_after, still_ended}
use Rattle.board_desk.proofs.Telling.{not_moved}
use Rattle.board_desk.proofs.desk.Desk.present_mask.Goals as goal

pub give_board-requires-clause-grown : goal.give_board-requires-clause-grown
give_board-requires-clause-grown g c =
    grown c.pass.inside.seat.me.0 c.take_board-board.new.seat.me c.take_board-board.result c.take_board-board.result c.args.self.now.session (ap (λ (p : PassView). p.session) c.pass.view_is ∙ c.requires.session) c.take_board-board.ensures.held
    (stays c.pass.inside.seat.me.0.own.analyst c.take_board-board.result c.take_board-board.result refl)

pub returns-clause-call : goal.returns-clause-call
returns-clause-call g c =
    called c.pass.inside.seat.table_id c.pass.inside.ended c.pass.inside.ended c.pass.inside.seat.me c.take_board-board.new.seat.me c.give_board.new.seat.me c.take_board-board.result c.take_board-board.result c.args.self.now.session
    (MaskAnswers c.present_mask-answer.result) c.give_board.new.seat.table_id c.args.pass.now c.pass.view_is (c.give_board.ensures.own.0 ∙ c.take_board-board.ensures.own.0) c.requires.session c.take_board-board.ensures.held c.give_board.ensures.given
    (stays c.pass.inside.seat.me.0.own.analyst c.take_board-board.result c.take_board-board.result refl) c.take_board-board.ensures.board c.of-pass-inside.ensures.board
    (c.present_mask-answer.ensures, refl)

pub invariant_of-pass : goal.invariant_of-pass
invariant_of-pass g c = (
  search rules,
  search rules,
  search rules,
  search rules,
  sound_after c.pass.inside.seat.table_id c.give_board.new.seat.table_id c.pass.inside.ended c.pass.inside.ended c.pass.inside.seat.me c.take_board-board.new.seat.me c.give_board.new.seat.me c.take_board-board.result
      c.take_board-board.result c.pass.invariant.4 c.take_board-board.ensures.held c.give_board.ensures.given (still_ended c.take_board-board.result c.take_board-board.result c.pass.inside.seat.me.0.own.analyst c.pass.inside.ended (stays None c.take_board-board.result c.take_board-board.result refl)),
)

pub returns-clause-own : goal.returns-clause-own
returns-clause-own g c =
    not_moved c.pass.inside.seat.table_id c.give_board.new.seat.table_id c.pass.inside.ended c.pass.inside.seat.me c.take_board-board.new.seat.me c.give_board.new.seat.me c.take_board-board.result c.take_board-board.result c.args.pass.now c.pass.view_is
    c.take_board-board.ensures.held c.give_board.ensures.given (stays None c.take_board-board.result c.take_board-board.result refl)

pub returns-clause-there : goal.returns-clause-there
returns-clause-there g c =
    mask_after c.pass.inside.seat.me.0 c.take_board-board.new.seat.me c.give_board.new.seat.me c.take_board-board.result c.args.self.now.session c.present_mask-answer.result (ap (λ (p : PassView). p.session) c.pass.view_is ∙ c.requires.session) c.take_board-board.ensures.held
    c.give_board.ensures.given c.present_mask-answer.ensures
