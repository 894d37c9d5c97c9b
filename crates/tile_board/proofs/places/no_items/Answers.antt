use Rattle.std.proofs.Common.{◌≡◌, None, arith, sym}
use Rattle.std.proofs.lemmas.Grind.{replicate_next}
use Rattle.tile_board.proofs.places.no_items.Goals as goal

pub loop-place-init : goal.loop-place-init
loop-place-init g c = c.in_ok-items.ensures.items

pub loop-place-preserved : goal.loop-place-preserved
loop-place-preserved g c = rw (c.in_ok-push.ensures.items, c.loop-place.invariant) (sym (replicate_next c.loop-place._place None))

pub returns : goal.returns
returns g c =
    let all : c.loop-place._place ≡ c.args.places = omega (arith, c.loop-place-test.false, c.loop-place.auto._place-end) in
    rw all at c.loop-place.invariant
