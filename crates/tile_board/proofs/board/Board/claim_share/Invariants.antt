use Rattle.std.proofs.Common.{◌≡◌, map, take}
use Rattle.std.specs.List.{All}
use Rattle.tile_board.specs.Calls.{IsClaim}
use Rattle.tile_board.proofs.board.Board.claim_share.Given as goal

abbrev pub invariant-loop-tile : goal.invariant-loop-tile
invariant-loop-tile l = record {
  same : l.self ≡ l.initial.self;
  each : All (IsClaim l.initial.self) l.tickets.items;
  tiles : map (λ ticket. ticket.tile) l.tickets.items ≡ take l.tile-index l.tile-items;
}
