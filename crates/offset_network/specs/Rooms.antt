-- For how many links and lanes room is taken ahead. No public clause cites this file.
use Rattle.std.specs.Prelude.{ℕ, ◌+◌, ◌-◌, ◌*◌, ◌/◌, min}
use Rattle.raster_model.specs.declared.tiling.Tiling.{Tiling}

-- for the links of the rows from one to before another: in each row one at each column where a tile ends, and one at each column of a row where a tile ends, but none where the raster ends
abbrev pub room_of_links : Tiling → ℕ → ℕ → ℕ
room_of_links tiling first last = (last - first) * ((tiling.width - 1) / tiling.side) + (min last (tiling.height - 1) / tiling.side - first / tiling.side) * tiling.width

-- for the lanes of so many links: three for each
abbrev pub room_of_lanes : ℕ → ℕ
room_of_lanes links = links * 3
