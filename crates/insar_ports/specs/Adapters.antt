-- A source over a reader and a sink over a writer, as their callers see them.
use Rattle.std.specs.Prelude.{ℕ, ◌+◌, ◌-◌, ◌^◌, min}
use Rattle.insar_ports.specs.declared.adapters.StdSource.{StdSource}
use Rattle.insar_ports.specs.declared.adapters.StdSink.{StdSink}

-- the source's reader
abbrev pub reader_of : {R : Type 0} → StdSource R → R
reader_of source = source.reader

-- the source's count of faults
abbrev pub read_faults : {R : Type 0} → StdSource R → ℕ
read_faults source = source.faults

-- the sink's writer
abbrev pub writer_of : {W : Type 0} → StdSink W → W
writer_of sink = sink.writer

-- the sink's count of faults
abbrev pub write_faults : {W : Type 0} → StdSink W → ℕ
write_faults sink = sink.faults

-- one fault more; the count stays at the last value of a `u64`
abbrev pub one_more : ℕ → ℕ
one_more faults = min (faults + 1) (2 ^ 64 - 1)
