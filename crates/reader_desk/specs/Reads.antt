-- What a reader knows once nothing borrows what `read` answered.
use Rattle.std.specs.Prelude.{◌≡◌, MatchOption, None, Option, Some, ⊤}
use Rattle.std.specs.Borrow.{Bor, Fml, MutBor, follows_so}
use mathlib.Core.Option.{none}
use Rattle.surface_snapshots.specs.Views.{parts_of}
use Rattle.surface_snapshots.specs.declared.snapshot.Snapshot.{Snapshot}
use Rattle.reader_desk.specs.Fronts.{HasAllOf, ShelfView, last_of}
use Rattle.reader_desk.specs.contracts.reader.ShelfReader.{the_row}

-- the reader knows all that it knew, and the answer is the last surface that it knows; None if it knows none
abbrev pub EndsRead : MutBor ShelfView → Option (Bor Snapshot) → Fml
EndsRead reader answer = follows_so the_row the_row reader.ghost_name none (λ _ _. ⊤)
    (λ known. HasAllOf reader.now known × MatchOption answer (last_of known.surfaces ≡ None) (λ snapshot. last_of known.surfaces ≡ Some (parts_of snapshot.now)))
