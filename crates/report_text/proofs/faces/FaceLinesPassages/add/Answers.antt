use Rattle.std.proofs.Common.{inl, inr, refl, arith}
use Rattle.sums_and_lists.proofs.Orders.{below_or_last}
use Rattle.surface_snapshots.specs.Parts.{faces_in}
use Rattle.surface_snapshots.specs.Views.{parts_of}
use Rattle.report_text.specs.Text.{faces_text}
use Rattle.text_pages.proofs.TextsFrom.{adds_none, adds_one_more}
use Rattle.report_text.proofs.faces.FaceLinesPassages.add.Goals as goal

pub loop-tile-init : goal.loop-tile-init
loop-tile-init g c = record {
  added = adds_none _ (faces_text (faces_in (parts_of c.args.self.now.snapshot.now))) c.args.from c.args.from refl;
  longs = λ t l lt. absurd (omega (arith, l, lt));
}

pub loop-tile-preserved : goal.loop-tile-preserved
loop-tile-preserved g c =
    let i = c.loop-tile.invariant in
    record {
      added = adds_one_more (faces_text (faces_in (parts_of c.args.self.now.snapshot.now))) c.args.from c.loop-tile.tile (omega arith) i.added (rw c.faces.ensures at c.add_tile.ensures.text);
      longs = λ t l lt. elim (below_or_last t c.loop-tile.tile lt) [
        | inl below ↦ i.longs t l below
        | inr last ↦ rw last (rw c.faces.ensures at c.add_tile.ensures.longs)
      ];
    }
