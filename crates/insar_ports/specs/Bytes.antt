-- Bytes at a port, told or not told, and its count of faults.
use Rattle.std.specs.Prelude.{◌≡◌, ℕ, ◌+◌, ◌-◌, ◌^◌, ◌<◌, ◌≤◌, min, List, [], ◌∷◌, ◌++◌, length, take, drop, Option, Some, None, IfSome}

-- these bytes and then what is told
abbrev pub with_front : List ℕ → Option (List ℕ) → Option (List ℕ)
with_front front None = None
with_front front (Some rest) = Some (front ++ rest)

-- what is told and then these bytes
abbrev pub with_end : Option (List ℕ) → List ℕ → Option (List ℕ)
with_end None more = None
with_end (Some held) more = Some (held ++ more)

-- what is told but its first byte
abbrev pub after_first : Option (List ℕ) → Option (List ℕ)
after_first None = None
after_first (Some bytes) = Some (drop 1 bytes)

-- where it is told, nothing is left
abbrev pub IsAtEnd : Option (List ℕ) → Type 0
IsAtEnd left = IfSome left (λ bytes. bytes ≡ [])

-- where it is told, another byte is left
abbrev pub HasMore : Option (List ℕ) → Type 0
HasMore left = IfSome left (λ bytes. 0 < length bytes)

-- the count of faults rose, or stands at the last value of a `u64`
abbrev pub HasRisen : ℕ → ℕ → Type 0
HasRisen old new = min (old + 1) (2 ^ 64 - 1) ≤ new

-- a part of the piece was appended, and not the whole
abbrev pub GainsProperPrefix : Option (List ℕ) → List ℕ → Option (List ℕ) → Type 0
GainsProperPrefix old piece new = (n : ℕ) × (n < length piece) × (new ≡ with_end old (take n piece))

-- where bytes are told, this byte is the first of them
abbrev pub BeginsWith : ℕ → Option (List ℕ) → Type 0
BeginsWith byte left = left ≡ with_front (byte ∷ []) (after_first left)
