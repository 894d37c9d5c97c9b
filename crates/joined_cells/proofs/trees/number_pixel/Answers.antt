use Rattle.std.proofs.Common.{◌≡◌, ◌+◌, ◌*◌, ◌<◌, ◌≤◌, ◌∙◌, sym, arith, length}
use Rattle.std.proofs.lemmas.Nat.{mul-add-lt}
use Rattle.joined_cells.proofs.NumberLemmas.{at_place, count_within, numbered_masked, size_says}
use Rattle.joined_cells.proofs.trees.number_pixel.Goals as goal

pub returns-then-not-is_open : goal.returns-then-not-is_open
returns-then-not-is_open g c =
    let joining = g.T.EdgeTest.joining c.args.test.now in
    let x = c.args.x in
    let y = c.args.y in
    let wide : c.width.result ≡ joining.width = c.width.ensures.width in
    let inside : y * joining.width + x < length c.args.labels.now = omega (arith, c.requires.numbered.size, mul-add-lt y joining.width x joining.height c.requires.along c.requires.across) in
    rw wide (numbered_masked joining (y * joining.width + x) c.args.count c.args.labels.now c.requires.numbered inside (at_place joining x y c.requires.across ∙ sym c.is_open.ensures ∙ c.if-not-is_open.true))

pub number_place-requires-clause-room : goal.number_place-requires-clause-room
number_place-requires-clause-room g c =
    let joining = g.T.EdgeTest.joining c.args.test.now in
    let place = c.args.y * joining.width + c.args.x in
    let few : c.args.count ≤ place = count_within joining place c.args.count c.args.labels.now c.requires.numbered in
    omega (arith, few, mul-add-lt c.args.y joining.width c.args.x joining.height c.requires.along c.requires.across, (size_says joining.width joining.height c.width.ensures.sized).2)

pub returns : goal.returns
returns g c =
    let joining = g.T.EdgeTest.joining c.args.test.now in
    let wide : c.width.result ≡ joining.width = c.width.ensures.width in
    (rw wide at c.number_place.ensures) joining c.requires.numbered (at_place joining c.args.x c.args.y c.requires.across ∙ sym c.is_open.ensures ∙ c.if-not-is_open.false)
