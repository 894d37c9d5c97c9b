-- Walks, and what they keep.
use Rattle.std.proofs.Common.{ℕ}
use Rattle.std.specs.Prelude.{IsTrue, Bool}
use Rattle.raster_model.specs.Raster.{Raster}
use Rattle.raster_model.specs.Seams.{AreJoined}
use Rattle.raster_model.specs.Seams.AreJoined.{here, rightward, leftward, downward, upward}
use Rattle.raster_model.specs.Sums.{Field, down_edge, right_edge}
use Rattle.joined_cells.specs.Joining.{AreJoinedBy, Joining, tiles_joined}
use Rattle.joined_cells.specs.Joining.AreJoinedBy.{here as walk_here, rightward as walk_rightward, leftward as walk_leftward, downward as walk_downward, upward as walk_upward}
use Rattle.joined_cells.proofs.EdgeLemmas.{ends_open}

-- ---- to be joined is an equivalence
pub walk_trans : {joining : Joining} {x y a b c d : ℕ} → AreJoinedBy joining x y a b → AreJoinedBy joining a b c d → AreJoinedBy joining x y c d
walk_trans p walk_here = p
walk_trans p (walk_rightward q i) = walk_rightward (walk_trans p q) i
walk_trans p (walk_leftward q i) = walk_leftward (walk_trans p q) i
walk_trans p (walk_downward q i) = walk_downward (walk_trans p q) i
walk_trans p (walk_upward q i) = walk_upward (walk_trans p q) i

pub walk_sym : {joining : Joining} {x y a b : ℕ} → AreJoinedBy joining x y a b → AreJoinedBy joining a b x y
walk_sym walk_here = walk_here
walk_sym (walk_rightward q i) = walk_trans (walk_leftward walk_here i) (walk_sym q)
walk_sym (walk_leftward q i) = walk_trans (walk_rightward walk_here i) (walk_sym q)
walk_sym (walk_downward q i) = walk_trans (walk_upward walk_here i) (walk_sym q)
walk_sym (walk_upward q i) = walk_trans (walk_downward walk_here i) (walk_sym q)

-- ---- a walk from an open pixel ends at an open one
pub open_along : {joining : Joining} {x y a b : ℕ} → AreJoinedBy joining x y a b → IsTrue (joining.mask x y) → IsTrue (joining.mask a b)
open_along walk_here o = o
open_along {joining = joining} (walk_rightward {a = a} {b = b} p i) o = (ends_open joining (right_edge a b) i).1
open_along {joining = joining} (walk_leftward {a = a} {b = b} p i) o = (ends_open joining (right_edge a b) i).0
open_along {joining = joining} (walk_downward {a = a} {b = b} p i) o = (ends_open joining (down_edge a b) i).1
open_along {joining = joining} (walk_upward {a = a} {b = b} p i) o = (ends_open joining (down_edge a b) i).0

-- ---- walks within tiles
pub within_tiles : {r : Raster} {mask : Field Bool} {x y a b : ℕ} → AreJoined r mask x y a b → AreJoinedBy (tiles_joined r mask) x y a b
within_tiles here = walk_here
within_tiles (rightward p i) = walk_rightward (within_tiles p) i
within_tiles (leftward p i) = walk_leftward (within_tiles p) i
within_tiles (downward p i) = walk_downward (within_tiles p) i
within_tiles (upward p i) = walk_upward (within_tiles p) i

pub of_tiles : {r : Raster} {mask : Field Bool} {x y a b : ℕ} → AreJoinedBy (tiles_joined r mask) x y a b → AreJoined r mask x y a b
of_tiles walk_here = here
of_tiles (walk_rightward p i) = rightward (of_tiles p) i
of_tiles (walk_leftward p i) = leftward (of_tiles p) i
of_tiles (walk_downward p i) = downward (of_tiles p) i
of_tiles (walk_upward p i) = upward (of_tiles p) i
