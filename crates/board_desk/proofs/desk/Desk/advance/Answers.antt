use Rattle.std.proofs.Common.{ap, Bool, rules, subst, sym, ◌∙◌}
use mathlib.Core.List.{IsPrefix}
use Rattle.board_desk.specs.Answers.{AdvanceAnswers}
use Rattle.board_desk.specs.Passes.{PassView}
use Rattle.board_desk.specs.Seats.{pass_view}
use Rattle.board_desk.proofs.Calls.{advance_answers, advance_grows_as, called, grown, seen_after, who}
use Rattle.board_desk.proofs.Ending.{Stays, advance_stays, sound_after}
use Rattle.board_desk.proofs.Publications.{up_to_date}
use Rattle.board_desk.proofs.Telling.{awaits, of_settle, own_advance}
use Rattle.board_desk.proofs.desk.Desk.advance.Goals as goal

pub give_board-requires-clause-grown : goal.give_board-requires-clause-grown
give_board-requires-clause-grown g c =
    grown c.pass.inside.seat.me.0 c.take_board-board.new.seat.me c.take_board-board.result c.advance-answer.new.self c.args.self.now.session (ap (λ (p : PassView). p.session) c.pass.view_is ∙ c.requires.pass.session) c.take_board-board.ensures.held
    (advance_grows_as c.pass.inside.seat.me.0.own.analyst c.number-analyst.result c.take_board-board.result c.advance-answer.new.self c.advance-answer.result (who c.number-analyst.result c.args.pass.now c.pass.inside.seat.table_id c.pass.inside.seat.me c.pass.inside.ended c.pass.view_is c.number-analyst.ensures) c.advance-answer.ensures.advanced c.advance-answer.ensures.unchanged)

pub returns-clause-call : goal.returns-clause-call
returns-clause-call g c =
    called c.pass.inside.seat.table_id c.pass.inside.ended c.has_ended-pass-inside.result c.pass.inside.seat.me c.take_board-board.new.seat.me c.give_board.new.seat.me c.take_board-board.result c.advance-answer.new.self c.args.self.now.session
    (AdvanceAnswers c.args.pass.now.analyst c.advance-answer.result) c.give_board.new.seat.table_id c.args.pass.now c.pass.view_is (c.give_board.ensures.own.0 ∙ c.take_board-board.ensures.own.0) c.requires.pass.session c.take_board-board.ensures.held c.give_board.ensures.given
    (advance_grows_as c.pass.inside.seat.me.0.own.analyst c.number-analyst.result c.take_board-board.result c.advance-answer.new.self c.advance-answer.result (who c.number-analyst.result c.args.pass.now c.pass.inside.seat.table_id c.pass.inside.seat.me c.pass.inside.ended c.pass.view_is c.number-analyst.ensures) c.advance-answer.ensures.advanced c.advance-answer.ensures.unchanged) c.take_board-board.ensures.board c.of-pass-inside.ensures.board
    (advance_answers c.args.pass.now.analyst c.number-analyst.result c.take_board-board.result c.advance-answer.new.self c.advance-answer.result c.number-analyst.ensures c.advance-answer.ensures.advanced c.advance-answer.ensures.refused c.advance-answer.ensures.unchanged)

pub invariant_of-pass : goal.invariant_of-pass
invariant_of-pass g c =
    let is = who c.number-analyst.result c.args.pass.now c.pass.inside.seat.table_id c.pass.inside.seat.me c.pass.inside.ended c.pass.view_is c.number-analyst.ensures in
    let stays = advance_stays c.take_board-board.result c.advance-answer.new.self c.pass.inside.seat.me.0.own.analyst c.number-analyst.result c.pass.inside.ended c.advance-answer.result (sym is) c.advance-answer.ensures.advanced c.advance-answer.ensures.unchanged in (
      search rules,
      search rules,
      search rules,
      search rules,
      sound_after c.pass.inside.seat.table_id c.give_board.new.seat.table_id c.pass.inside.ended c.has_ended-pass-inside.result c.pass.inside.seat.me c.take_board-board.new.seat.me c.give_board.new.seat.me c.take_board-board.result
          c.advance-answer.new.self c.pass.invariant.4 c.take_board-board.ensures.held c.give_board.ensures.given
          (subst (λ (b : Bool). Stays c.take_board-board.result c.advance-answer.new.self c.pass.inside.seat.me.0.own.analyst c.pass.inside.ended b) (sym c.has_ended-pass-inside.ensures) stays),
    )

pub returns-clause-fresh : goal.returns-clause-fresh
returns-clause-fresh g c =
    up_to_date c.args.pass.now (pass_view c.give_board.new.seat.table_id c.give_board.new.seat.me c.has_ended-pass-inside.result) c.number-analyst.result c.take_board-board.result c.advance-answer.new.self c.advance-answer.result
    (subst (λ (p : PassView). IsPrefix p.seen c.take_board-board.result.entries) c.pass.view_is c.take_board-board.ensures.held.begins) c.take_board-board.ensures.board.legal
    (seen_after c.pass.inside.seat.me.0 c.take_board-board.new.seat.me c.give_board.new.seat.me c.take_board-board.result c.advance-answer.new.self c.take_board-board.ensures.held c.give_board.ensures.given) c.advance-answer.ensures.advanced

pub returns-clause-own : goal.returns-clause-own
returns-clause-own g c = own_advance c.args.self.now.session c.args.pass.now (pass_view c.give_board.new.seat.table_id c.give_board.new.seat.me c.has_ended-pass-inside.result) c.advance-answer.result c.requires.analyst (returns-clause-call g c)

pub returns-clause-waits : goal.returns-clause-waits
returns-clause-waits g c = awaits c.args.self.now.session c.args.pass.now (pass_view c.give_board.new.seat.table_id c.give_board.new.seat.me c.has_ended-pass-inside.result) c.advance-answer.result c.requires.analyst (returns-clause-call g c)

pub returns-clause-settles : goal.returns-clause-settles
returns-clause-settles g c = of_settle c.args.self.now.session c.args.pass.now (pass_view c.give_board.new.seat.table_id c.give_board.new.seat.me c.has_ended-pass-inside.result) c.advance-answer.result (returns-clause-call g c)
