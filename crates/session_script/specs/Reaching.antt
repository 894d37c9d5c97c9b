-- What reading a session does to a feed.
use Rattle.std.specs.Prelude.{◌≡◌, ℕ, ◌+◌, List, length, Some, IfSome}
use Rattle.insar_ports.specs.Calls.{Call}

-- where the bytes are told, `rest` of them is left, and P holds of the bytes and the rest
abbrev pub Reaches : Call → (List ℕ → List ℕ → Type 0) → Type 0
Reaches call P = IfSome call.told (λ bytes. (rest : List ℕ) × ((call.left ≡ Some rest) × ((call.end + length rest ≡ call.at + length bytes) × P bytes rest)))
