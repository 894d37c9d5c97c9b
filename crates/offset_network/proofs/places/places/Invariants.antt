use Rattle.offset_network.specs.Places.{ArePlaces}
use Rattle.offset_network.proofs.places.places.Given as goal

abbrev pub invariant-loop-index : goal.invariant-loop-index
invariant-loop-index l = ArePlaces l.count l.side l.step l.index l.places.items
