use Rattle.std.proofs.Common.{◌≡◌, length}
use Rattle.std.specs.Prelude.{All}
use Rattle.text_pages.specs.Rooms.{room_of}
use Rattle.text_pages.proofs.spread.blank.Given as goal

abbrev pub invariant-loop : goal.invariant-loop
invariant-loop l = record {
  count : length l.pages.items ≡ l.counter;
  rooms : All (λ page. room_of page ≡ l.room) l.pages.items;
}
