use Rattle.std.proofs.Common.{◌+◌, sym, subst, List}
use Rattle.offset_network.specs.declared.places.Place.{Place}
use Rattle.offset_network.specs.Places.{ArePlaces}
use Rattle.offset_network.proofs.TilePlaces.{places_more, places_none}
use Rattle.offset_network.proofs.places.places.Goals as goal

pub loop-index-init : goal.loop-index-init
loop-index-init c = places_none c.args.count c.args.side c.args.step c.in_ok-places.places.items c.in_ok-places.ensures.items

pub loop-index-preserved : goal.loop-index-preserved
loop-index-preserved c =
    subst (ArePlaces c.args.count c.args.side c.args.step (c.loop-index.index + 1)) (sym {A = List Place} c.in_ok-push.ensures.items)
    (places_more c.args.count c.args.side c.args.step c.loop-index.index c.loop-index.places.items c.one_place.result c.one_place.ensures c.loop-index.invariant)
