-- A source and a sink in memory, as their callers see them.
use Rattle.std.specs.Prelude.{◌≡◌, ℕ, ◌<◌, List, drop, take, length, vec_len}
use Rattle.insar_ports.specs.declared.memory_source.MemorySource.{MemorySource}
use Rattle.insar_ports.specs.declared.memory_sink.MemorySink.{MemorySink}
use Rattle.insar_ports.specs.declared.plan.Plan.{Plan}

-- the bytes that a source has left
abbrev pub bytes_left : MemorySource → List ℕ
bytes_left source = drop source.start source.bytes.items

-- what a source does in its calls
abbrev pub source_plan : MemorySource → Plan
source_plan source = source.plan

-- the bytes that a sink holds
abbrev pub bytes_held : MemorySink → List ℕ
bytes_held sink = take sink.end sink.buffer.items

-- how many bytes a sink has room for in all
abbrev pub capacity_of : MemorySink → ℕ
capacity_of sink = vec_len sink.buffer

-- what a sink does in its calls
abbrev pub sink_plan : MemorySink → Plan
sink_plan sink = sink.plan

-- the sink is full, and the piece is not empty
abbrev pub HasNoRoom : MemorySink → List ℕ → Type 0
HasNoRoom sink piece = (length (bytes_held sink) ≡ capacity_of sink) × (0 < length piece)
