-- A writer as callers see it.
use Rattle.std.specs.Prelude.{ℕ, List, [], Option, take, true}
use Rattle.std.specs.Borrow.{GName}
use Rattle.text_lines.specs.declared.waiting.Waiting.{Waiting}
use Rattle.text_lines.specs.declared.writer.TextWriter.{TextWriter}
use Rattle.text_lines.specs.Adding.{View}

-- the bytes that wait
abbrev pub waiting_in : Waiting → List ℕ
waiting_in waiting = take waiting.end waiting.bytes

-- a writer, by what its sink holds and counts
abbrev pub view_of : {K : Type 0} → (K → Option (List ℕ)) → (K → ℕ) → TextWriter K → View
view_of held faults text = record { name = text.sink.ghost_name; held = held text.sink.now; waiting = waiting_in text.waiting; sound = text.sound; faults = faults text.sink.now }

-- a writer to which nothing was added
abbrev pub fresh : GName → Option (List ℕ) → ℕ → View
fresh name held faults = record { name = name; held = held; waiting = []; sound = true; faults = faults }
