use Rattle.std.proofs.Common.{◌≡◌, ◌∙◌, ◌≤◌, arith, true, false}
use Rattle.pgm_planes.proofs.Words.{lt-ltb, le-ltb, is_wide}
use Rattle.pgm_planes.proofs.WriteLemmas.{wide_text, narrow_text}
use Rattle.pgm_planes.proofs.write.fill.Goals as goal

pub returns-then-maxval-gt255-clause-front : goal.returns-then-maxval-gt255-clause-front
returns-then-maxval-gt255-clause-front c =
    let is : is_wide c.args.maxval ≡ true = lt-ltb 255 c.args.maxval c.if-maxval-gt255.true in
    let le : c.args.maxval ≤ 65535 = omega arith in
    rw is (c.fill_wide.ensures.front ∙ wide_text c.args.maxval c.args.piece.now le c.requires.below)

pub returns-else-maxval-gt255-clause-front : goal.returns-else-maxval-gt255-clause-front
returns-else-maxval-gt255-clause-front c =
    let is : is_wide c.args.maxval ≡ false = le-ltb 255 c.args.maxval c.if-maxval-gt255.false in
    rw is (c.fill_narrow.ensures.front ∙ narrow_text c.args.piece.now)
