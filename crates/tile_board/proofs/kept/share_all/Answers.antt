use Rattle.std.proofs.Common.{◌≡◌, refl, length}
use Rattle.std.specs.Prelude.{Some, slice_get}
use Rattle.std.proofs.lemmas.Option.{slice_get_read}
use Rattle.tile_board.proofs.PlaceLemmas.{no_gap}
use Rattle.tile_board.proofs.SharedLemmas.{share_more}
use Rattle.tile_board.proofs.kept.share_all.Goals.{in-Some+in_ok-clone+in_ok-push, in_default}
use Rattle.tile_board.proofs.kept.share_all.Goals as goal

pub loop-place-preserved : goal.loop-place-preserved
loop-place-preserved c =
    let results = c.args.results.now in
    let n = c.loop-place.place-index in
    let here : slice_get results n ≡ Some c.place-item.result = slice_get_read results (length results) n c.place-item.result refl c.loop-place-test.true c.place-item.is in
    elim c.match-place.branch [
      | in-Some+in_ok-clone+in_ok-push w ↦ rw w.shared-is (share_more results n c.loop-place.shared.items _ w.in-Some.solved w.in_ok-clone.field-0 c.loop-place-test.true (rw w.in-Some.is at here) w.in_ok-push.ensures.items w.in_ok-clone.ensures.cases c.loop-place.invariant)
      | in_default w ↦ absurd (no_gap results n (c.requires n c.loop-place-test.true) (rw w.in_default.is at here))
    ]
