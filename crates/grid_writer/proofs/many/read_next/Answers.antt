use Rattle.std.proofs.Common.{◌≡◌, ℕ, List, false, refl, rules}
use Rattle.insar_ports.specs.Calls.{call_of}
use Rattle.text_lines.proofs.CauseLemmas.{takes_as}
use Rattle.grid_writer.specs.Grids.{grid_of, text_of_grid}
use Rattle.grid_writer.specs.ManyGrids.{IsOtherGridText}
use Rattle.grid_writer.proofs.many.read_next.Goals as goal

pub returns-then-not-is_alike-clause-refused : goal.returns-then-not-is_alike-clause-refused
returns-then-not-is_alike-clause-refused g c =
    let off : c.is_alike.result ≡ false = search rules in
    let some = rw c.deref.ensures.value at c.is_alike.ensures.some off in
    let other = rw c.deref.ensures.value at c.is_alike.ensures.other off in
    let grid = c.in-Ok.grid in
    (refl, (some, λ w h all. takes_as (call_of g.S.Source.left g.S.Source.faults c.args.feed.now c.read_grid.new.feed) (λ (text : List ℕ) (rest : List ℕ). text ≡ text_of_grid (grid_of grid)) (λ (text : List ℕ) (rest : List ℕ). IsOtherGridText w h text) (λ text rest e. (grid_of grid, (c.in-Ok.ensures.fits, (other w h all, e)))) c.in-Ok.ensures.read))

pub returns-clause-read : goal.returns-clause-read
returns-clause-read g c =
    let same = rw c.deref.ensures.value at c.is_alike.ensures.same c.if-not-is_alike.false in
    (c.in-Ok.grid, (c.in_ok-push.ensures.items, (c.in-Ok.ensures.fits, (same, c.in-Ok.ensures.read))))
