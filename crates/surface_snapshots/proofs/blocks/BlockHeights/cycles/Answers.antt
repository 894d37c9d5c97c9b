use Rattle.std.proofs.Common.{ℕ, ◌≡◌, ◌∙◌, ◌+◌, ◌-◌, ◌*◌, ◌<◌, ◌≤◌, ◌^◌, arith, length, pos, to_z, of_z, w64, SFits}
use Rattle.std.specs.Prelude.{IsTrue, unsigned_abs, slice_index_or}
use Rattle.std.proofs.lemmas.Int.{ints, to_z-of_z}
use Rattle.surface_snapshots.specs.declared.blocks.Block.{Block}
use Rattle.surface_snapshots.specs.Parts.{is_open_pixel}
use Rattle.surface_snapshots.specs.Shifted.{cycles_under, is_open_there, open_under}
use Rattle.surface_snapshots.proofs.LevelLemmas.{small_there}
use Rattle.surface_snapshots.proofs.RowLemmas.{level_there}
use Rattle.surface_snapshots.proofs.ShiftedLemmas.{open_pixel}
use Rattle.surface_snapshots.proofs.StripLemmas.{is_there}
use Rattle.surface_snapshots.proofs.blocks.BlockHeights.cycles.Goals as goal

-- the place of a pixel that the block knows, and its cycles
module _ (b : Block) (x y : ℕ) (known : IsTrue (is_open_there b.surface b.start (length b.cycles.now) x y)) where
  abbrev place : ℕ
  place = y * b.surface.scene.now.phase.width + x

  found : IsTrue (is_open_pixel b.surface.scene.now.phase.width b.surface.scene.now.phase.height (open_under b.surface) x y) × (b.start ≤ place) × (place < b.start + length b.cycles.now)
  found = is_there b.surface.scene.now.phase.width b.surface.scene.now.phase.height b.start place (length b.cycles.now) x y (open_under b.surface x y) known

  is_open : (x < b.surface.scene.now.phase.width) × (y < b.surface.scene.now.phase.height) × IsTrue (open_under b.surface x y)
  is_open = open_pixel b.surface.scene.now.phase.width b.surface.scene.now.phase.height x y (open_under b.surface x y) found.0

  small : unsigned_abs (cycles_under b.surface x y) ≤ 2 ^ 46 + 8388608
  small = small_there b.surface x y is_open.0 is_open.1 is_open.2

  read : to_z w64 (of_z w64 (slice_index_or b.cycles.now (place - b.start) (pos 0))) ≡ cycles_under b.surface x y
  read =
      let level : slice_index_or b.cycles.now (place - b.start) (pos 0) ≡ cycles_under b.surface x y = b.levels x y is_open.0 found.1 found.2 ∙ level_there b.surface x y is_open.2 in
      let fits : SFits w64 (cycles_under b.surface x y) = omega (arith, ints, small) in
      rw level (to_z-of_z w64 (cycles_under b.surface x y) fits)

pub overflow_sub-result : goal.overflow_sub-result
overflow_sub-result c = (found c.args.self.now c.args.x c.args.y c.requires).1

pub bounds-self-y : goal.bounds-self-y
bounds-self-y c = let p = found c.args.self.now c.args.x c.args.y c.requires in omega (arith, p.1, p.2)

pub returns-clause-value : goal.returns-clause-value
returns-clause-value c = read c.args.self.now c.args.x c.args.y c.requires

pub returns-clause-small : goal.returns-clause-small
returns-clause-small c = rw (read c.args.self.now c.args.x c.args.y c.requires) (omega (arith, small c.args.self.now c.args.x c.args.y c.requires))
