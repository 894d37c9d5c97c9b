-- What a port in memory does in each of its calls.
use Rattle.std.specs.Prelude.{ℕ, ◌+◌, ◌-◌, ◌^◌, min, Contains}
use Rattle.std.specs.Global.{Vec}
use Rattle.insar_ports.specs.declared.plan.Plan.{Plan}

-- before any call: nothing was counted
abbrev pub fresh_plan : ℕ → Vec ℕ → Plan
fresh_plan piece failing = record { piece = piece; failing = failing; calls = 0; faults = 0 }

-- the number of the next call, from 1; it stays at the last value of a `u32`
abbrev pub next_call : Plan → ℕ
next_call plan = min (plan.calls + 1) (2 ^ 32 - 1)

-- the next call is one of those that are to fail
abbrev pub WillFail : Plan → Type 0
WillFail plan = Contains plan.failing.items (next_call plan)

-- after a call that worked
abbrev pub after_call : Plan → Plan
after_call plan = record plan { calls = next_call plan }

-- after a call that failed; the count of faults stays at the last value of a `u64`
abbrev pub after_fault : Plan → Plan
after_fault plan = record plan { calls = next_call plan; faults = min (plan.faults + 1) (2 ^ 64 - 1) }
