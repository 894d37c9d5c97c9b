use Rattle.std.proofs.Common.{arith}
use Rattle.mask_revisions.proofs.Boxes.{set_span, span_tells}
use Rattle.mask_revisions.proofs.edits.set_box.Goals as goal

pub loop-y-preserved : goal.loop-y-preserved
loop-y-preserved c =
    let m = c.args.mask.now in
    let r = c.args.rect in
    let l = c.loop-y in
    let s = c.set_span-changed in
    record {
      set = set_span m l.mask r.x0 r.x1 r.y0 l.y c.args.unmasked (omega arith) l.invariant.set s.new.self s.ensures.set;
      changed = span_tells m l.mask r.x0 r.x1 r.y0 l.y c.args.unmasked (omega arith) l.invariant.set (omega arith) (omega arith) l.changed s.result l.invariant.changed s.ensures.changed;
    }
