use Rattle.std.proofs.Common.{◌+◌, ◌*◌, length}
use Rattle.side_by_side.proofs.+chain.Given as goal

abbrev pub decreases-each_from : goal.decreases-each_from
decreases-each_from g l = 3 * length l.items.now

abbrev pub decreases-first_beside : goal.decreases-first_beside
decreases-first_beside g l = 3 * length l.rest.now + 2

abbrev pub decreases-first_beside-back : goal.decreases-first_beside-back
decreases-first_beside-back g l = 3 * length l.rest.now + 1
