use Rattle.std.proofs.Common.{◌≡◌, ◌≤◌, ◌<◌, ℕ, length, pos}
use Rattle.std.specs.Prelude.{slice_index_or}
use Rattle.surface_snapshots.specs.Parts.{BeginsWithRow, value_or}
use Rattle.surface_snapshots.specs.Shifted.{level_in}
use Rattle.surface_snapshots.specs.Views.{parts_of}
use Rattle.surface_snapshots.proofs.snapshot.Snapshot.fill_row.Given as goal

abbrev pub invariant-loop-x : goal.invariant-loop-x
invariant-loop-x l = record {
  size : length l.row ≡ length l.fn.row;
  front : BeginsWithRow (value_or (parts_of l.self) l.masked) l.y l.x l.row;
  rest : (x : ℕ) → l.x ≤ x → x < (parts_of l.self).session.scene.phase.width → slice_index_or l.row x (pos 0) ≡ level_in (parts_of l.self) x l.y;
}
