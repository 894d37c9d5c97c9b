use Rattle.std.proofs.Common.{◌≡◌, ◌<◌, ◌∙◌, ℕ, ap, ap₂, arith, sym}
use Rattle.std.specs.Prelude.{min}
use Rattle.tile_board.specs.declared.answers.ClaimFault.TheVariants.{Memory}
use Rattle.tile_board.specs.Calls.{lacking_count, share_size}
use Rattle.tile_board.specs.Lacking.{lacks_in}
use Rattle.tile_board.proofs.LackingLemmas.{gap_lacks, results_lack}
use Rattle.tile_board.proofs.ListLemmas.{err_is}
use Rattle.tile_board.proofs.ShareLemmas.{keys_count, none_counted, one_counted, share_within}
use Rattle.tile_board.proofs.StateFacts.{all_kept, one_lacks}
use Rattle.tile_board.proofs.board.Board.share_tiles.Goals as goal

pub returns-then-lacking-eq0-clause-refused : goal.returns-then-lacking-eq0-clause-refused
returns-then-lacking-eq0-clause-refused c =
    let kept = c.self.inside.kept in
    let count = keys_count kept c.self.inside.lacking c.count-lacking.ensures.ordered c.self.invariant.lacking in
    let none = none_counted kept (sym count ∙ sym c.count-lacking.ensures.count ∙ c.if-lacking-eq0.true) in
    rw (← c.self.view_is) (all_kept c.self.invariant (results_lack kept none))

pub returns-in_err-next_tiles-clause-refused : goal.returns-in_err-next_tiles-clause-refused
returns-in_err-next_tiles-clause-refused c =
    let kept = c.self.inside.kept in
    let count = keys_count kept c.self.inside.lacking c.count-lacking.ensures.ordered c.self.invariant.lacking in
    let one = one_counted kept (omega (arith, count, c.count-lacking.ensures.count, c.if-lacking-eq0.false)) in
    rw (← c.self.view_is) (err_is c.from_residual.result Memory _ c.from_residual.ensures.1 (one_lacks c.self.invariant one.0 (gap_lacks kept one.0 one.1)))

pub returns-clause-count : goal.returns-clause-count
returns-clause-count c =
    let kept = c.self.inside.kept in
    let count = keys_count kept c.self.inside.lacking c.count-lacking.ensures.ordered c.self.invariant.lacking in
    let lacking : c.count-lacking.result ≡ lacking_count c.args.self.now = rw (← c.self.view_is) (c.count-lacking.ensures.count ∙ count) in
    let some : 0 < c.count-lacking.result = omega (arith, c.if-lacking-eq0.false) in
    c.in_ok-next_tiles.ensures.count
    ∙ ap₂ (λ (n m : ℕ). min n m) c.share_of-count.ensures (sym c.count-lacking.ensures.count)
    ∙ share_within c.count-lacking.result c.args.parts c.args.most some
    ∙ ap (λ (n : ℕ). share_size n c.args.parts c.args.most) lacking

pub returns-clause-tiles : goal.returns-clause-tiles
returns-clause-tiles c = rw (← c.self.view_is) (c.in_ok-next_tiles.ensures.tiles (lacks_in c.self.inside.kept) c.self.invariant.lacking.keys)
