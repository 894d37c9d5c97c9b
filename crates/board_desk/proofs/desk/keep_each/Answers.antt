use Rattle.std.proofs.Common.{◌∙◌, [], None, length, map-id, refl, rules, subst, sym}
use Rattle.std.proofs.lemmas.Iterator.Adapters.{YieldsList-from_vec}
use Rattle.std.proofs.lemmas.Iterator.Consumers.{YieldsList-end, YieldsList-turn}
use Rattle.certificates.specs.declared.results.TileResult.{TileResult}
use Rattle.tile_board.specs.Calls.{WasGood}
use Rattle.board_desk.proofs.Calls.{keep_answers}
use Rattle.board_desk.proofs.Keeping.{good_later, keeps_grow, one_more, told_all}
use Rattle.board_desk.proofs.desk.keep_each.Goals as goal

pub loop-tile-init : goal.loop-tile-init
loop-tile-init c = record { answers = []; each = refl; told = refl }

pub keep_solved-answer-requires : goal.keep_solved-answer-requires
keep_solved-answer-requires c =
    let i = c.loop-tile.invariant in
    let turn = YieldsList-turn (YieldsList-from_vec {s = c.into_iter-tile-iterator.result} c.args.solved.items (search rules) (search rules)) c.loop-tile.yielded c.loop-tile.tile-iterator c.loop-tile.yielded_by c.next.result c.next.new.self c.in-Some.tile c.in-Some.is c.next.ensures.steps in
    let was : WasGood c.args.board.now c.in-Some.tile = subst (λ (k : TileResult). WasGood c.args.board.now k) (sym turn.1) (c.requires (length c.loop-tile.yielded) c.in-Some.tile turn.0) in
    record { good = good_later None c.args.board.now c.loop-tile.board c.in-Some.tile (keeps_grow None c.loop-tile.yielded i.answers c.args.board.now c.loop-tile.board i.each) was }

pub loop-tile-preserved : goal.loop-tile-preserved
loop-tile-preserved c =
    let told = keep_answers c.in-Some.tile c.loop-tile.board c.keep_solved-answer.new.self c.keep_solved-answer.result c.keep_solved-answer.ensures.kept c.keep_solved-answer.ensures.refused c.keep_solved-answer.ensures.unchanged in
    one_more c.loop-tile.yielded c.loop-tile.starved c.in-Some.tile c.keep_solved-answer.result c.lacked_memory-starved.result c.args.board.now c.loop-tile.board c.keep_solved-answer.new.self c.loop-tile.invariant told c.lacked_memory-starved.ensures

pub returns-then-starved : goal.returns-then-starved
returns-then-starved c =
    let end = YieldsList-end (YieldsList-from_vec {s = c.into_iter-tile-iterator.result} c.args.solved.items (search rules) (search rules)) c.loop-tile.yielded c.loop-tile.tile-iterator c.loop-tile.yielded_by c.next.result c.next.new.self c.in-None.is c.next.ensures.steps in
    told_all c.loop-tile.yielded c.args.solved.items c.loop-tile.starved c.args.board.now c.loop-tile.board _ c.loop-tile.invariant (sym (map-id c.loop-tile.yielded) ∙ end.0) (sym c.if-starved.true)

pub returns-else-starved : goal.returns-else-starved
returns-else-starved c =
    let end = YieldsList-end (YieldsList-from_vec {s = c.into_iter-tile-iterator.result} c.args.solved.items (search rules) (search rules)) c.loop-tile.yielded c.loop-tile.tile-iterator c.loop-tile.yielded_by c.next.result c.next.new.self c.in-None.is c.next.ensures.steps in
    told_all c.loop-tile.yielded c.args.solved.items c.loop-tile.starved c.args.board.now c.loop-tile.board _ c.loop-tile.invariant (sym (map-id c.loop-tile.yielded) ∙ end.0) (sym c.if-starved.false)
