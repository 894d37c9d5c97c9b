use Rattle.std.proofs.Common.{arith}
use Rattle.raster_model.proofs.BitLemmas.{tells_one, tells_zero}
use Rattle.raster_model.proofs.bits.word_of.Goals as goal
use Rattle.raster_model.proofs.bits.word_of.Goals.{then-samples-place-ne0, else-samples-place-ne0}

pub loop-place-preserved : goal.loop-place-preserved
loop-place-preserved c =
    let l = c.loop-place in
    elim c.if-samples-place-ne0.branch [
      | then-samples-place-ne0 w ↦ rw w.word-is (tells_one c.args.samples.now c.args.start l.place l.word (omega arith) (omega arith) l.invariant w.if-samples-place-ne0.true)
      | else-samples-place-ne0 w ↦ rw w.word-is (tells_zero c.args.samples.now c.args.start l.place l.word (omega arith) (omega arith) l.invariant w.if-samples-place-ne0.false)
    ]
