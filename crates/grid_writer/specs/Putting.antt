-- A grid that is added to a text, or put into a sink. Each of its values fits 64 bits, so the text is one that can be read.
use Rattle.std.specs.Prelude.{ℕ, List, Option, Result}
use Rattle.insar_ports.specs.declared.sink.WriteFault.{WriteFault}
use Rattle.text_lines.specs.Adding.{Adds, Puts, View}
use Rattle.grid_writer.specs.Grids.{GridOf, IsGrid, text_of_grid}

-- its text was added
pub record AddsGrid (before after : View) (grid : GridOf) : Type 0 where
  pub added : Adds before after (text_of_grid grid)
  pub ranges : IsGrid grid

-- its text was put into a sink
pub record PutsGrid (held : Option (List ℕ)) (faults : ℕ) (held_now : Option (List ℕ)) (faults_now : ℕ) (grid : GridOf) (result : Result (Unit {0}) WriteFault) : Type 0 where
  pub put : Puts held faults held_now faults_now (text_of_grid grid) result
  pub ranges : IsGrid grid
