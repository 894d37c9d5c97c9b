use Rattle.std.proofs.Common.{arith}
use Rattle.raster_model.proofs.BitLemmas.{word_set, word_tells}
use Rattle.raster_model.proofs.bits.set_bits.Goals as goal

pub loop-place-preserved : goal.loop-place-preserved
loop-place-preserved c =
    let l = c.loop-place in
    let n = c.with_ones-new in
    let ones = c.ones_of-ones in
    record {
      set = word_set c.args.words.now l.words l.place c.args.first c.args.last n.result ones.result c.args.set (omega arith) (omega arith) l.invariant.set ones.ensures n.ensures;
      changed = word_tells c.args.words.now l.words l.place c.args.first c.args.last ones.result c.args.set (omega arith) l.invariant.set ones.ensures n.result l.changed c.differ-changed.result n.ensures l.invariant.changed c.differ-changed.ensures;
    }
