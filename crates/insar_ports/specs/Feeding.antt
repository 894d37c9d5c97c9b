-- A feed, as its callers see it.
use Rattle.std.specs.Prelude.{ℕ, ◌+◌, ◌<◌, List, Option, slice_range, Some, None, nat_lt, if◌then◌else◌, slice_index}
use Rattle.std.specs.Borrow.{GName}
use Rattle.std.specs.Global.{Vec}
use Rattle.insar_ports.specs.declared.feed.Feed.{Feed}
use Rattle.insar_ports.specs.declared.feed.Buffer.{Ghosts}
use Rattle.insar_ports.specs.Bytes.{with_front}

-- what the source gave and was not handed out yet
abbrev pub pending_of : {S : Type 0} {size : Ghosts (Vec ℕ)} → Feed S (Vec ℕ) size → List ℕ
pending_of feed = slice_range feed.buffer.items feed.start feed.end

-- the byte that is handed out next without another look at the source, where one waits
abbrev pub waiting_of : {S : Type 0} {size : Ghosts (Vec ℕ)} → Feed S (Vec ℕ) size → Option ℕ
waiting_of feed = if nat_lt feed.start feed.stop then Some (slice_index feed.buffer.items feed.start) else None

-- the bytes that are handed out next without another look at the source: those that the limit lets out of what it gave
abbrev pub ready_of : {S : Type 0} {size : Ghosts (Vec ℕ)} → Feed S (Vec ℕ) size → List ℕ
ready_of feed = slice_range feed.buffer.items feed.start feed.stop

-- the bytes that are left: those that wait in the feed, then those of the source
abbrev pub left_of : {S : Type 0} {size : Ghosts (Vec ℕ)} → (S → Option (List ℕ)) → Feed S (Vec ℕ) size → Option (List ℕ)
left_of left feed = with_front (pending_of feed) (left feed.source.now)

-- how many bytes were handed out
abbrev pub handed_of : {S : Type 0} {size : Ghosts (Vec ℕ)} → Feed S (Vec ℕ) size → ℕ
handed_of feed = feed.before + feed.start

-- how many bytes may be handed out
abbrev pub limit_of : {S : Type 0} {size : Ghosts (Vec ℕ)} → Feed S (Vec ℕ) size → ℕ
limit_of feed = feed.limit

-- the count of faults of the feed's source
abbrev pub faults_of : {S : Type 0} {size : Ghosts (Vec ℕ)} → (S → ℕ) → Feed S (Vec ℕ) size → ℕ
faults_of faults feed = faults feed.source.now

-- which reference the feed reads from: while it stays, the caller knows what its source ends as
abbrev pub source_name : {S : Type 0} {size : Ghosts (Vec ℕ)} → Feed S (Vec ℕ) size → GName
source_name feed = feed.source.ghost_name

-- the feed's source
abbrev pub source_of : {S : Type 0} {size : Ghosts (Vec ℕ)} → Feed S (Vec ℕ) size → S
source_of feed = feed.source.now

-- a byte waits in the feed and may be handed out
abbrev pub IsReady : {S : Type 0} {size : Ghosts (Vec ℕ)} → Feed S (Vec ℕ) size → Type 0
IsReady feed = feed.start < feed.stop
