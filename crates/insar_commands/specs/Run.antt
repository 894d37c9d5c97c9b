-- What a run of the program did to its source and its sink.
use Rattle.std.specs.Prelude.{◌≡◌, ℕ, List, [], Option, Some, IfSome}
use Rattle.insar_ports.specs.Bytes.{HasRisen}

-- The source had told these bytes and has these left, and its count of faults was and is so;
-- the sink held this and holds this now, and its count of faults was and is so.
pub record Run : Type 0 where
  pub told : Option (List ℕ)
  pub left : Option (List ℕ)
  pub source_before : ℕ
  pub source_after : ℕ
  pub held : Option (List ℕ)
  pub held_now : Option (List ℕ)
  pub sink_before : ℕ
  pub sink_after : ℕ

-- a run over a source that was `source` and is `source_now`, and a sink
abbrev pub run_of : {S K : Type 0} → (S → Option (List ℕ)) → (S → ℕ) → S → S → (K → Option (List ℕ)) → (K → ℕ) → K → K → Run
run_of left source_faults source source_now held sink_faults sink sink_now = record { told = left source; left = left source_now; source_before = source_faults source; source_after = source_faults source_now; held = held sink; held_now = held sink_now; sink_before = sink_faults sink; sink_after = sink_faults sink_now }

-- a run that leaves the source alone, which tells these bytes and has counted so many faults
abbrev pub run_beside : {K : Type 0} → Option (List ℕ) → ℕ → (K → Option (List ℕ)) → (K → ℕ) → K → K → Run
run_beside told faults held sink_faults sink sink_now = record { told = told; left = told; source_before = faults; source_after = faults; held = held sink; held_now = held sink_now; sink_before = sink_faults sink; sink_after = sink_faults sink_now }

-- a fault was counted
abbrev pub SourceFailed : Run → Type 0
SourceFailed run = HasRisen run.source_before run.source_after

abbrev pub SinkFailed : Run → Type 0
SinkFailed run = HasRisen run.sink_before run.sink_after

-- nothing was taken from the source, and no fault of it was counted
abbrev pub IsUnread : Run → Type 0
IsUnread run = (run.left ≡ run.told) × (run.source_after ≡ run.source_before)

-- the sink holds what it held
abbrev pub HasKept : Run → Type 0
HasKept run = run.held_now ≡ run.held

-- where the bytes are told, P holds of all of them, and nothing is left
abbrev pub ReadsAll : Option (List ℕ) → Option (List ℕ) → (List ℕ → Type 0) → Type 0
ReadsAll told left P = IfSome told (λ bytes. P bytes × (left ≡ Some []))
