use Rattle.std.proofs.Common.{ap, ◌∙◌, rules, subst, sym}
use mathlib.Core.List.{IsPrefix}
use Rattle.raster_model.specs.declared.session.Session.{Session}
use Rattle.surface_snapshots.specs.Views.{parts_of}
use Rattle.tile_board.specs.Calls.{IsMadeSurface}
use Rattle.board_desk.specs.Answers.{MadeAnswers}
use Rattle.board_desk.specs.Passes.{PassView}
use Rattle.board_desk.proofs.Calls.{called, grown, made_answers, made_grows_as, seen_after, who}
use Rattle.board_desk.specs.Seats.{pass_view}
use Rattle.board_desk.proofs.Ending.{sound_after}
use Rattle.board_desk.proofs.Publications.{made_now}
use Rattle.board_desk.proofs.Telling.{made_not_refused, own_made, made_stays, was_mask}
use Rattle.board_desk.proofs.desk.Desk.publish_made.Goals as goal

pub publish_made-answer-requires-clause-mask : goal.publish_made-answer-requires-clause-mask
publish_made-answer-requires-clause-mask g c =
    was_mask c.pass.inside.seat.table_id c.pass.inside.ended c.pass.inside.seat.me c.take_board-board.new.seat.me c.take_board-board.result c.args.pass.now c.args.self.now.session (parts_of c.args.surface).mask (parts_of c.args.surface).seams.revision c.pass.view_is c.requires.pass.session
    c.take_board-board.ensures.held c.requires.mask

pub publish_made-answer-requires-clause-made : goal.publish_made-answer-requires-clause-made
publish_made-answer-requires-clause-made g c =
    subst (λ (s : Session). IsMadeSurface s (parts_of c.args.surface)) (c.take_board-board.ensures.held.session_is c.args.self.now.session (ap (λ (p : PassView). p.session) c.pass.view_is ∙ c.requires.pass.session)) c.requires.made

pub give_board-requires-clause-grown : goal.give_board-requires-clause-grown
give_board-requires-clause-grown g c =
    grown c.pass.inside.seat.me.0 c.take_board-board.new.seat.me c.take_board-board.result c.publish_made-answer.new.self c.args.self.now.session (ap (λ (p : PassView). p.session) c.pass.view_is ∙ c.requires.pass.session) c.take_board-board.ensures.held
    (made_grows_as c.pass.inside.seat.me.0.own.analyst c.number-analyst.result (parts_of c.args.surface) c.take_board-board.result c.publish_made-answer.new.self c.publish_made-answer.result (who c.number-analyst.result c.args.pass.now c.pass.inside.seat.table_id c.pass.inside.seat.me c.pass.inside.ended c.pass.view_is c.number-analyst.ensures) c.publish_made-answer.ensures.published c.publish_made-answer.ensures.unchanged)

pub returns-clause-call : goal.returns-clause-call
returns-clause-call g c =
    called c.pass.inside.seat.table_id c.pass.inside.ended c.pass.inside.ended c.pass.inside.seat.me c.take_board-board.new.seat.me c.give_board.new.seat.me c.take_board-board.result c.publish_made-answer.new.self c.args.self.now.session
    (MadeAnswers c.args.pass.now.analyst (parts_of c.args.surface) c.publish_made-answer.result) c.give_board.new.seat.table_id c.args.pass.now c.pass.view_is (c.give_board.ensures.own.0 ∙ c.take_board-board.ensures.own.0) c.requires.pass.session c.take_board-board.ensures.held c.give_board.ensures.given
    (made_grows_as c.pass.inside.seat.me.0.own.analyst c.number-analyst.result (parts_of c.args.surface) c.take_board-board.result c.publish_made-answer.new.self c.publish_made-answer.result (who c.number-analyst.result c.args.pass.now c.pass.inside.seat.table_id c.pass.inside.seat.me c.pass.inside.ended c.pass.view_is c.number-analyst.ensures) c.publish_made-answer.ensures.published c.publish_made-answer.ensures.unchanged) c.take_board-board.ensures.board c.of-pass-inside.ensures.board
    (made_answers c.args.pass.now.analyst c.number-analyst.result (parts_of c.args.surface) c.take_board-board.result c.publish_made-answer.new.self c.publish_made-answer.result c.number-analyst.ensures c.publish_made-answer.ensures.published c.publish_made-answer.ensures.refused c.publish_made-answer.ensures.unchanged)

pub invariant_of-pass : goal.invariant_of-pass
invariant_of-pass g c = (
  search rules,
  search rules,
  search rules,
  search rules,
  sound_after c.pass.inside.seat.table_id c.give_board.new.seat.table_id c.pass.inside.ended c.pass.inside.ended c.pass.inside.seat.me c.take_board-board.new.seat.me c.give_board.new.seat.me c.take_board-board.result
      c.publish_made-answer.new.self c.pass.invariant.4 c.take_board-board.ensures.held c.give_board.ensures.given (made_stays c.take_board-board.result c.publish_made-answer.new.self c.pass.inside.seat.me.0.own.analyst c.number-analyst.result c.pass.inside.ended (parts_of c.args.surface) c.publish_made-answer.result (sym (who c.number-analyst.result c.args.pass.now c.pass.inside.seat.table_id c.pass.inside.seat.me c.pass.inside.ended c.pass.view_is c.number-analyst.ensures)) c.publish_made-answer.ensures.published c.publish_made-answer.ensures.unchanged),
)

pub returns-clause-own : goal.returns-clause-own
returns-clause-own g c = own_made c.args.self.now.session c.args.pass.now (pass_view c.give_board.new.seat.table_id c.give_board.new.seat.me c.pass.inside.ended) (parts_of c.args.surface) c.publish_made-answer.result c.requires.analyst (returns-clause-call g c)

pub returns-clause-settles : goal.returns-clause-settles
returns-clause-settles g c = made_not_refused c.args.self.now.session c.args.pass.now (pass_view c.give_board.new.seat.table_id c.give_board.new.seat.me c.pass.inside.ended) (parts_of c.args.surface) c.publish_made-answer.result (returns-clause-call g c)

pub returns-clause-fresh : goal.returns-clause-fresh
returns-clause-fresh g c =
    made_now c.args.pass.now (pass_view c.give_board.new.seat.table_id c.give_board.new.seat.me c.pass.inside.ended) c.number-analyst.result (parts_of c.args.surface) c.take_board-board.result c.publish_made-answer.new.self c.publish_made-answer.result
    (subst (λ (p : PassView). IsPrefix p.seen c.take_board-board.result.entries) c.pass.view_is c.take_board-board.ensures.held.begins) c.take_board-board.ensures.board.legal
    (seen_after c.pass.inside.seat.me.0 c.take_board-board.new.seat.me c.give_board.new.seat.me c.take_board-board.result c.publish_made-answer.new.self c.take_board-board.ensures.held c.give_board.ensures.given) c.publish_made-answer.ensures.published
