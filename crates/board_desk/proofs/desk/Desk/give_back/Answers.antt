use Rattle.std.proofs.Common.{rules}
use Rattle.board_desk.proofs.Merging.{heard_more, longer_same, sound_merged}
use Rattle.board_desk.proofs.desk.Desk.give_back.Goals as goal

pub invariant_of-into : goal.invariant_of-into
invariant_of-into g c =
    let same = longer_same c.into.inside.seat.me.0 c.worker.inside.seat.me.0 c.take_in.new.seat.me c.take_in.ensures.now in (
      search rules,
      search rules,
      search rules,
      heard_more c.into.inside.seat.table_id c.worker.inside.seat.table_id c.take_in.new.seat.table_id c.into.inside.ended c.worker.inside.ended c.into.inside.ended c.into.inside.seat.me c.worker.inside.seat.me c.take_in.new.seat.me
          c.into.inside.heard c.worker.inside.heard c.into.invariant.3 c.worker.invariant.3 c.if-into-heard.true c.take_in.ensures.merged same.2,
      sound_merged c.into.inside.seat.table_id c.take_in.new.seat.table_id c.into.inside.ended c.into.inside.seat.me c.take_in.new.seat.me c.into.invariant.4 same.0 same.1 same.2 c.take_in.ensures.exact,
    )
