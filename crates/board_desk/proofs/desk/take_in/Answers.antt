use Rattle.std.proofs.Common.{ap, rules, subst, sym, ◌∙◌}
use Rattle.board_desk.specs.Rules.{HoldsIn, Place}
use Rattle.board_desk.proofs.Merging.{merged}
use Rattle.board_desk.proofs.Steps.{loads, returns_seat}
use Rattle.board_desk.proofs.desk.take_in.Goals as goal

pub join_seat-requires : goal.join_seat-requires
join_seat-requires c = (search rules, search rules, search rules, search rules, returns_seat c.args.hall.now.key.value c.args.seat.now.id c.args.other.id c.args.seat.now.me.0 c.args.other.me.0 c.requires.idle.1)

pub load-requires : goal.load-requires
load-requires c = (search rules, search rules, loads c.args.hall.now.key.value c.args.hall.now.table_id.slots c.join_seat.new.seat.id c.join_seat.new.seat.me)

pub returns-clause-merged : goal.returns-clause-merged
returns-clause-merged c =
    merged c.args.seat.now.me.0 c.args.other.me.0 c.load.new.seat.me.0 (ap (λ (p : Place). p.0) (c.load.ensures.2.0 ∙ c.join_seat.ensures.2))
    (subst (λ (p : Place). HoldsIn p.0.own.seen p.0.beside) (sym c.load.ensures.2.0) c.load.ensures.2.1)
