use Rattle.loop_closure.proofs.SumLemmas.{no_closure, told, too_wide}
use Rattle.loop_closure.proofs.closures.closure.Goals as goal

pub returns-in-Ok : goal.returns-in-Ok
returns-in-Ok c = told c.args.a c.args.b c.args.c c.from.result c.from-2.result c.from-3.result c.ranges.a c.ranges.b c.ranges.c c.from.ensures c.from-2.ensures c.from-3.ensures c.if-a-eq-NO_DATA.false c.if-b-eq-NO_DATA.false c.if-c-eq-NO_DATA.false c.in-Ok.closure c.in-Ok.ensures c.if-closure.true

pub returns-in_default : goal.returns-in_default
returns-in_default c = no_closure c.args.a c.args.b c.args.c c.from.result c.from-2.result c.from-3.result c.ranges.a c.ranges.b c.ranges.c c.from.ensures c.from-2.ensures c.from-3.ensures c.if-a-eq-NO_DATA.false c.if-b-eq-NO_DATA.false c.if-c-eq-NO_DATA.false c.in-Ok.closure c.in-Ok.ensures c.if-closure.false

pub returns-in_default-2 : goal.returns-in_default-2
returns-in_default-2 c = too_wide c.args.a c.args.b c.args.c c.from.result c.from-2.result c.from-3.result c.ranges.a c.ranges.b c.ranges.c c.from.ensures c.from-2.ensures c.from-3.ensures c.if-a-eq-NO_DATA.false c.if-b-eq-NO_DATA.false c.if-c-eq-NO_DATA.false c.in_default.ensures
