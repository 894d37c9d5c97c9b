use Rattle.std.proofs.Common.{ℕ, ◌≡◌, ◌+◌, arith, subst, refl, min}
use Rattle.raster_model.specs.Masks.{open_at}
use Rattle.seam_regions.specs.Flood.{HasJoined}
use Rattle.seam_regions.proofs.PieceLemmas.{begins_next, zero_begins}
use Rattle.seam_regions.proofs.flood.join_row.Goals as goal

pub loop-first-init : goal.loop-first-init
loop-first-init c =
    let g = c.args.tiling.now in
    record {
      flood = subst (λ (n : ℕ). HasJoined g (open_at c.args.mask.now) n c.args.parents.now) (omega arith) c.requires.flood;
      within = omega arith;
      begins = λ l. zero_begins g.side (omega (arith, g.sides));
    }

pub join_piece-requires-clause-piece : goal.join_piece-requires-clause-piece
join_piece-requires-clause-piece c =
    let g = c.args.tiling.now in
    let end : c.min-end.result ≡ min (c.loop-first.first + g.side) g.width = c.min-end.ensures in
    let within = c.loop-first-test.true in
    record {
      row = c.requires.row;
      across = (omega (arith, end, within, g.sides), omega (arith, end, within, g.sides));
      begins = c.loop-first.invariant.begins within;
      short = omega (arith, end, within, g.sides);
      top = refl;
    }

pub loop-first-preserved : goal.loop-first-preserved
loop-first-preserved c =
    let g = c.args.tiling.now in
    let end : c.min-end.result ≡ min (c.loop-first.first + g.side) g.width = c.min-end.ensures in
    let within = c.loop-first-test.true in
    record {
      flood = subst (λ (n : ℕ). HasJoined g (open_at c.args.mask.now) n c.join_piece.new.parents) (omega (arith, end, within, g.sides)) c.join_piece.ensures;
      within = omega (arith, end);
      begins = begins_next c.loop-first.first g.side g.width c.min-end.result (omega (arith, g.sides)) (c.loop-first.invariant.begins within) end;
    }
