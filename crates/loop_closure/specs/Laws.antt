-- What the cycles of closures say of the third grid, and that a loop has one text.
use Rattle.std.specs.Prelude.{◌≡◌, ℕ, ◌<◌, ℤ, pos, ◌+ℤ◌, ◌*ℤ◌, IsTrue}
use Rattle.grid_writer.specs.Grids.{GridOf, grid_of}
use Rattle.raster_model.specs.Sums.{Field}
use Rattle.loop_closure.specs.declared.loops.Loops.{Loops}
use Rattle.loop_closure.specs.Closure.{AreClosures, AreCycles, AreMisclosed, IsHalfCycle, are_there, loop_sum}
use Rattle.loop_closure.specs.LoopText.{loops_text}

-- the third grid is raised by so many cycles at each pixel that has a closure, and each closure is at most half a cycle away from 0 then
abbrev pub Closes : GridOf → GridOf → GridOf → Field ℤ → Type 0
Closes a b c n = (x y : ℕ) → x < a.width → y < a.height → IsTrue (are_there (a.values x y) (b.values x y) (c.values x y)) → IsHalfCycle (loop_sum (a.values x y) (b.values x y) (c.values x y +ℤ pos 65536 *ℤ n x y))

-- the cycles do so
abbrev pub CyclesClose : Type 0
CyclesClose = (a b c closures cycles : GridOf) → AreClosures a b c closures → AreCycles closures cycles → Closes a b c cycles.values

-- and no other whole numbers do
abbrev pub OnlyCyclesClose : Type 0
OnlyCyclesClose = (a b c closures cycles : GridOf) (n : Field ℤ) → AreClosures a b c closures → AreCycles closures cycles → Closes a b c n
    → (x y : ℕ) → x < a.width → y < a.height → IsTrue (are_there (a.values x y) (b.values x y) (c.values x y)) → n x y ≡ cycles.values x y

-- what three grids leave around the loop has one text
abbrev pub LoopsHaveOneText : Type 0
LoopsHaveOneText = (a b c : GridOf) (one other : Loops) → AreClosures a b c (grid_of one.closures) → AreMisclosed one.cycles one.patches → AreClosures a b c (grid_of other.closures) → AreMisclosed other.cycles other.patches → loops_text one ≡ loops_text other
