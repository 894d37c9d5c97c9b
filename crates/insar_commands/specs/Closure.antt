-- What `closure` reads, which are three grids, and what it writes: what they leave around the loop of three acquisitions.
use Rattle.std.specs.Prelude.{◌≡◌, ℕ, List, [], ◌∷◌}
use Rattle.grid_writer.specs.Grids.{GridOf, grid_of}
use Rattle.loop_closure.specs.declared.loops.Loops.{Loops}
use Rattle.loop_closure.specs.Closure.{AreClosures, AreCycles, AreMisclosed, IsFirstWideLoop, IsWideAt}
use Rattle.loop_closure.specs.LoopText.{loops_text}
use Rattle.insar_commands.specs.Grids.{AreGridsIn, BreaksMany}
use Rattle.answer_lines.specs.declared.refusal.Refusal.{Refusal}
use Rattle.answer_lines.specs.declared.refusal.Refusal.TheVariants as refusals

-- the bytes are the texts of these three grids: the phases 12, 23 and 13
abbrev pub AreThree : List ℕ → GridOf → GridOf → GridOf → Type 0
AreThree bytes a b c = AreGridsIn 3 bytes (a ∷ b ∷ c ∷ [])

-- the bytes are the texts of three grids no closure of which is too wide to be written
pub record IsLoopInput (bytes : List ℕ) : Type 0 where
  pub a : GridOf
  pub b : GridOf
  pub c : GridOf
  pub three : AreThree bytes a b c
  pub narrow : (x y : ℕ) → IsWideAt a b c x y → ⊥

-- the break of the bytes for which no loop is closed: the first break of three grids, or the first closure of them that is too wide
abbrev pub BreaksLoop : List ℕ → Refusal → Type 0
BreaksLoop bytes (refusals.Wide x y) = (a : GridOf) × (b : GridOf) × (c : GridOf) × (AreThree bytes a b c × IsFirstWideLoop a b c x y)
BreaksLoop bytes refusal = BreaksMany 3 bytes refusal

-- what three grids leave around the loop: the closures, the cycles in them, and the patches of pixels that are misclosed
pub record AreLoops (a b c : GridOf) (loops : Loops) : Type 0 where
  pub closures : AreClosures a b c (grid_of loops.closures)
  pub cycles : AreCycles (grid_of loops.closures) (grid_of loops.cycles)
  pub patches : AreMisclosed loops.cycles loops.patches

-- that of the three grids that the bytes spell
pub record AreLoopsOf (bytes : List ℕ) (loops : Loops) : Type 0 where
  pub a : GridOf
  pub b : GridOf
  pub c : GridOf
  pub three : AreThree bytes a b c
  pub closed : AreLoops a b c loops

-- the text tells it
abbrev pub IsClosureAnswer : List ℕ → List ℕ → Type 0
IsClosureAnswer bytes text = (loops : Loops) × (AreLoopsOf bytes loops × (text ≡ loops_text loops))
