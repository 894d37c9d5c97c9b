-- Words of the parts of `close_loop`, value by value in row order.
use Rattle.std.specs.Prelude.{◌≡◌, ℕ, ◌<◌, ℤ, pos, List, Result, Ok, Err, length, slice_index_or, ⊤}
use Rattle.grid_writer.specs.Grids.{GridOf}
use Rattle.loop_closure.specs.declared.fault.LoopFault.{LoopFault}
use Rattle.loop_closure.specs.declared.fault.LoopFault.TheVariants.{Wide, Memory}
use Rattle.loop_closure.specs.declared.loops.Loops.{Loops}
use Rattle.loop_closure.specs.Closure.{AreCyclesIn, IsFirstWideLoop, IsWideLoop, closure_of}

-- the value at a place of a list
abbrev pub at_place : List ℤ → ℕ → ℤ
at_place values i = slice_index_or values i (pos 0)

-- the sum at a place is too wide
abbrev pub IsWideIn : List ℤ → List ℤ → List ℤ → ℕ → Type 0
IsWideIn a b c i = IsWideLoop (at_place a i) (at_place b i) (at_place c i)

-- none of the first n sums is too wide, and the closures are there
pub record AreClosed (a b c : List ℤ) (n : ℕ) (closures : List ℤ) : Type 0 where
  pub narrow : (i : ℕ) → i < n → IsWideIn a b c i → ⊥
  pub values : (i : ℕ) → i < n → at_place closures i ≡ closure_of (at_place a i) (at_place b i) (at_place c i)

-- the first place of a sum that is too wide
abbrev pub IsFirstWidePlace : List ℤ → List ℤ → List ℤ → ℕ → Type 0
IsFirstWidePlace a b c i = (i < length a) × (IsWideIn a b c i × ((k : ℕ) → k < i → IsWideIn a b c k → ⊥))

-- the cycles in the first n closures are there
abbrev pub HaveCycles : List ℤ → ℕ → List ℤ → Type 0
HaveCycles closures n cycles = (i : ℕ) → i < n → AreCyclesIn (at_place closures i) (at_place cycles i)

-- why there are no closures once there is the room for them
abbrev pub HasWideCause : GridOf → GridOf → GridOf → LoopFault → Type 0
HasWideCause a b c (Wide x y) = IsFirstWideLoop a b c x y
HasWideCause a b c Memory = ⊥

-- why loops were not closed
abbrev pub HasLoopCause : GridOf → GridOf → GridOf → LoopFault → Type 0
HasLoopCause a b c (Wide x y) = IsFirstWideLoop a b c x y
HasLoopCause a b c Memory = ⊤

-- the first wide pixel is told, unless memory ran out
abbrev pub IsWideTold : ℕ → ℕ → Result Loops LoopFault → Type 0
IsWideTold x y (Ok loops) = ⊥
IsWideTold x y (Err (Wide u v)) = (u ≡ x) × (v ≡ y)
IsWideTold x y (Err Memory) = ⊤
