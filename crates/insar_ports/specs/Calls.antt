-- What a call on a feed did to it.
use Rattle.std.specs.Prelude.{◌≡◌, ℕ, ◌+◌, ◌-◌, ◌≤◌, ◌<◌, List, ◌++◌, length, take, Option, Some, IfSome}
use Rattle.std.specs.Global.{Vec}
use Rattle.insar_ports.specs.Bytes.{with_front}
use Rattle.insar_ports.specs.declared.feed.Feed.{Feed}
use Rattle.insar_ports.specs.declared.feed.Buffer.{Ghosts}
use Rattle.insar_ports.specs.Feeding.{left_of, handed_of, limit_of, faults_of}

-- `told` and `left` are the bytes that the feed had and has left, `at` and `end` how many it had handed out
-- before and after; `limit` is its limit, and the source's count of faults was `before` and is `after`.
pub record Call : Type 0 where
  pub told : Option (List ℕ)
  pub at : ℕ
  pub left : Option (List ℕ)
  pub end : ℕ
  pub limit : ℕ
  pub before : ℕ
  pub after : ℕ

-- a call on a feed that was `old` and is `new`
abbrev pub call_of : {S : Type 0} {size old_size : Ghosts (Vec ℕ)} → (S → Option (List ℕ)) → (S → ℕ) → Feed S (Vec ℕ) old_size → Feed S (Vec ℕ) size → Call
call_of left faults old new = record { told = left_of left old; at = handed_of old; left = left_of left new; end = handed_of new; limit = limit_of old; before = faults_of faults old; after = faults_of faults new }

-- the bytes that are told are those that were handed out, and then those that are left
pub record Moves (call : Call) : Type 0 where
  pub front : List ℕ
  pub parts : call.told ≡ with_front front call.left
  pub place : call.end ≡ call.at + length front
  pub grows : call.before ≤ call.after

-- where the bytes are told, a text was taken from their front, for which and for what is left P holds
abbrev pub Takes : Call → (List ℕ → List ℕ → Type 0) → Type 0
Takes call P = IfSome call.told (λ bytes. (text : List ℕ) × (rest : List ℕ) × ((bytes ≡ text ++ rest) × ((call.left ≡ Some rest) × ((call.end ≡ call.at + length text) × P text rest))))

-- more of these bytes are there than the limit lets out, and those that it lets out ask for more
abbrev pub IsCutOff : (List ℕ → Type 0) → Call → List ℕ → Type 0
IsCutOff asks call bytes = (call.limit < call.at + length bytes) × asks (take (call.limit - call.at) bytes)
